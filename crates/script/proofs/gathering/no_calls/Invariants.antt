use Rattle.std.proofs.Common.{[]}
use Rattle.script.specs.Jobs.{AreCalls, lists_seen}
use Rattle.script.proofs.gathering.no_calls.Given as goal

abbrev pub invariant-loop-thread : goal.invariant-loop-thread
invariant-loop-thread l = AreCalls l._thread [] (lists_seen l.calls.items)
