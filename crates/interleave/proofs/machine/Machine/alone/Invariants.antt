use Rattle.std.proofs.Common.{◌≡◌}
use Rattle.protocol.specs.Sleepers.{alone}
use Rattle.interleave.specs.Shown.{state_of}
use Rattle.interleave.proofs.machine.Machine.alone.Given as goal

-- the copy made this many steps
abbrev pub invariant-loop : goal.invariant-loop
invariant-loop l = record {
  state : state_of l.machine ≡ alone (state_of l.self) l.thread l.counter;
  fresh : l.machine.fresh ≡ l.self.fresh;
}
