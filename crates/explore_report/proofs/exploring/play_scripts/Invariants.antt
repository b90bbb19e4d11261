use Rattle.std.proofs.Common.{◌≡◌, ◌<◌, ◌⊎◌, ℕ, map, Some}
use Rattle.std.specs.Prelude.{slice_get}
use Rattle.outcomes.specs.declared.exploring.Witnessed.{Witnessed}
use Rattle.explore_report.specs.Told.{IsReplayed, IsUnplayable}
use Rattle.explore_report.proofs.exploring.play_scripts.Given as goal

abbrev pub invariant-loop-witnessed : goal.invariant-loop-witnessed
invariant-loop-witnessed l = record {
  counted : l.number ≡ l.witnessed-index;
  played : (i : ℕ) (w : Witnessed) → i < l.number → slice_get (map (λ v. v.now) l.outcomes) i ≡ Some w → IsReplayed l.script w ⊎ IsUnplayable l.script w;
}
