use Rattle.std.proofs.Common.{◌≢◌, ℕ, ◌<◌, Some}
use Rattle.std.specs.Prelude.{slice_get}
use Rattle.explore_report.proofs.replaying.stands_at.Given as goal

-- none of those so far is the thread
abbrev pub invariant-loop-rank : goal.invariant-loop-rank
invariant-loop-rank l = (i : ℕ) → i < l.rank → slice_get l.sleepers i ≢ Some l.thread
