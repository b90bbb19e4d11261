use Rattle.std.proofs.Common.{◌≡◌, ◌<◌, ◌+◌, ℕ, Some}
use Rattle.std.specs.Prelude.{slice_get}
use Rattle.interleave.specs.Shown.{state_of}
use Rattle.outcomes.specs.declared.outcome.Ended.{Ended}
use Rattle.explore_report.specs.Replays.{HasEnded}
use Rattle.explore_report.proofs.replaying.have_ended.Given as goal

abbrev pub invariant-loop-before : goal.invariant-loop-before
invariant-loop-before l = (i : ℕ) (e : Ended) → i < l.before → slice_get l.threads i ≡ Some e → HasEnded (state_of l.machine) l.notes (i + 1) e
