use Rattle.std.proofs.Common.{◌≡◌, ◌≤◌, length, take}
use Rattle.std.specs.Prelude.{filter}
use Rattle.std.specs.List.{range_with_len}
use Rattle.protocol.specs.Headline.{seen}
use Rattle.interleave.specs.Shown.{state_of}
use Rattle.texts.specs.Tables.{is_owner}
use Rattle.texts.proofs.table.held.Given as goal

abbrev pub invariant-loop-mutex : goal.invariant-loop-mutex
invariant-loop-mutex l = (l.held ≡ length (filter (λ m. is_owner l.thread (seen (state_of l.machine) m).owner) (take l.mutex (range_with_len 0 l.machine.layout.mutexes)))) × (l.held ≤ l.mutex)
