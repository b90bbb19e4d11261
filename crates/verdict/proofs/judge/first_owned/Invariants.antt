use Rattle.std.proofs.Common.{◌≢◌, ℕ, ◌<◌, Some}
use Rattle.verdict.specs.Judges.{object_at}
use Rattle.verdict.proofs.judge.first_owned.Given as goal

abbrev pub invariant-loop-mutex : goal.invariant-loop-mutex
invariant-loop-mutex l = (k : ℕ) → k < l.mutex → (object_at l.objects k).owner ≢ Some l.thread
