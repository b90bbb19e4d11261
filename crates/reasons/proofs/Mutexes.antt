-- The words for a mutex are those of its state.
use Rattle.std.proofs.Common.{◌≡◌, ◌∙◌, Bool, true, false, ℕ, Option, Some, None, List, ap}
use Rattle.std.specs.Prelude.{[], ◌∷◌, codes, if◌then◌else◌}
use Rattle.std.specs.List.{concat}
use Rattle.posixmutex.specs.declared.object.Object.{Object}
use Rattle.reasons.specs.Reasons.{owner_text}
use Rattle.reasons.specs.Truths.{MutexesAreTrue}

-- what is said of a mutex with this owner, mark and end
abbrev text : Option ℕ → Bool → Bool → List ℕ
text w i u = if u then concat (codes "it is unusable" ∷ []) else owner_text w i

-- the text for a mutex that may be used, by its owner and its mark
of_usable : (o : Object) (w : Option ℕ) (i : Bool) → o.unusable ≡ false → o.owner ≡ w → o.inconsistent ≡ i → text o.owner o.inconsistent o.unusable ≡ owner_text w i
of_usable o w i u h k =
    ap (λ (x : Bool). text o.owner o.inconsistent x) u ∙ ap (λ (x : Option ℕ). owner_text x o.inconsistent) h ∙ ap (owner_text w) k

pub mutexes_are_true : MutexesAreTrue
mutexes_are_true o = record {
  unusable = λ u. ap (λ (x : Bool). text o.owner o.inconsistent x) u;
  free = λ u h k. of_usable o None false u h k;
  died = λ u h k. of_usable o None true u h k;
  owned = λ t u h k. of_usable o (Some t) false u h k;
  undeclared = λ t u h k. of_usable o (Some t) true u h k;
}
