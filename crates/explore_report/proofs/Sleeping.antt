-- Whether a thread stands in a queue, place by place.
use Rattle.std.proofs.Common.{◌≡◌, ◌≢◌, ℕ, zero, suc, ◌<◌, ◌==◌, Bool, true, false, Some, List, [], ◌∷◌, length, refl, ap, arith, eqb-true, eq-eqb}
use Rattle.std.specs.Prelude.{if◌then◌else◌, slice_get}
use Rattle.std.proofs.lemmas.Grind.{common_steps}
use Rattle.protocol.specs.Machine.{stands_in}

pub got_stands : (t : ℕ) (q : List ℕ) (i : ℕ) → slice_get q i ≡ Some t → stands_in t q ≡ true
got_stands t [] i e = absurd (grind (arith, common_steps))
got_stands t (u ∷ us) zero e = let same : u ≡ t = grind (arith, common_steps) in ap (λ (b : Bool). if b then true else stands_in t us) (eq-eqb u t same)
got_stands t (u ∷ us) (suc i) e = go (u == t) (got_stands t us i (grind (arith, common_steps)))
  where
    go : (b : Bool) → stands_in t us ≡ true → (if b then true else stands_in t us) ≡ true
    go true later = refl
    go false later = later

pub none_stands : (t : ℕ) (q : List ℕ) → ((i : ℕ) → i < length q → slice_get q i ≢ Some t) → stands_in t q ≡ false
none_stands t [] none = refl
none_stands t (u ∷ us) none = go (u == t) refl (none_stands t us (λ i below e. none (suc i) (omega (arith, below)) (grind (arith, common_steps))))
  where
    go : (b : Bool) → (u == t) ≡ b → stands_in t us ≡ false → (if b then true else stands_in t us) ≡ false
    go true is later = let same : u ≡ t = eqb-true u t is in absurd (none 0 (omega arith) (grind (arith, common_steps)))
    go false is later = later
