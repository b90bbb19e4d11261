use Rattle.std.proofs.Common.{◌≡◌}
use Rattle.threadbench.proofs.killing.kill_members.Given as goal

-- it came to this many threads
abbrev pub invariant-loop-before : goal.invariant-loop-before
invariant-loop-before g l = (l.sweep.come ≡ l.before) × (l.sweep.process ≡ l.fn.sweep.process)
