use Rattle.std.proofs.Common.{◌≡◌, ◌≤◌, vec_len, vec_capacity}
use Rattle.threadbench.specs.Parkers.{AreParkers}
use Rattle.threadbench.proofs.parker.parkers.Given as goal
use Rattle.lockword.specs.Threads.{most_threads}

abbrev pub invariant-loop-before : goal.invariant-loop-before
invariant-loop-before l = (vec_len l.parkers ≡ l.before) × (most_threads ≤ vec_capacity l.parkers) × AreParkers l.parkers.items
