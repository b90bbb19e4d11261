use Rattle.std.proofs.Common.{◌≡◌}
use Rattle.threadbench.proofs.bench.Bench.rouse.Given as goal

-- this many have a token
abbrev pub invariant-loop-place : goal.invariant-loop-place
invariant-loop-place g l = l.roused.count ≡ l.place
