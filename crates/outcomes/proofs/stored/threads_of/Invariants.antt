use Rattle.std.proofs.Common.{◌≡◌, take}
use Rattle.outcomes.specs.Stored.{threads_in}
use Rattle.outcomes.proofs.stored.threads_of.Given as goal

abbrev pub invariant-loop-index : goal.invariant-loop-index
invariant-loop-index l = l.threads.items ≡ threads_in (take l.index l.standings)
