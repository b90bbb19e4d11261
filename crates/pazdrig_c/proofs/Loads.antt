-- Words that an access doesn't meet.
use Rattle.std.proofs.Common.{◌≡◌, ◌≢◌, ℕ, ◌==◌, Bool, true, false, refl, eqb-true, arith}
use Rattle.std.specs.Prelude.{if◌then◌else◌}
use Rattle.mutex.specs.Whole.{pending_place}

pub elsewhere : (p at x y : ℕ) → p ≢ at → (if p == at then x else y) ≡ y
elsewhere p at x y apart = go (p == at) refl
  where
    go : (b : Bool) → (p == at) ≡ b → (if b then x else y) ≡ y
    go true e = absurd (apart (eqb-true p at e))
    go false e = refl

-- a head's first word isn't its pending one
pub first_apart : (h : ℕ) → h ≢ pending_place h
first_apart h e = omega (arith, e)
