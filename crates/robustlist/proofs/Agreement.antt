-- Words that an access makes, and words that agree.
use Rattle.std.proofs.Common.{◌≡◌, ◌≢◌, ℕ, ◌==◌, Bool, true, false, List, arith, refl, subst, sym}
use Rattle.std.specs.Prelude.{if◌then◌else◌}
use Rattle.std.proofs.lemmas.Bool.Decides.{nat_tests}
use Rattle.stepprograms.specs.declared.access.Access.{Access}
use Rattle.stepprograms.specs.Accesses.{address_of, changed}
use Rattle.robustlist.specs.Words.{after, Agree, Makes}

-- a load's place keeps its value
pub by_address : (p h v : ℕ) → (if p == h then v else v) ≡ v
by_address p h v = go (p == h)
  where
    go : (b : Bool) → (if b then v else v) ≡ v
    go true = refl
    go false = refl

-- words that the access makes agree with those after it
pub made : (a : Access) (h : ℕ) (es : List ℕ) (v w : ℕ → ℕ) → Makes a h es v w → Agree h es (after a v) w
made a h es v w m p on = go (p == address_of a) refl
  where
    go : (b : Bool) → (p == address_of a) ≡ b → w p ≡ (if b then changed a (v p) else v p)
    go true is = let same : p ≡ address_of a = grind (arith, nat_tests) in subst (λ q. w q ≡ changed a (v q)) (sym same) m.changes
    go false is = m.keeps p on (grind (arith, nat_tests))

-- an access changes no other word
pub elsewhere : (a : Access) (w : ℕ → ℕ) (p : ℕ) → p ≢ address_of a → after a w p ≡ w p
elsewhere a w p o = go (p == address_of a) refl
  where
    go : (b : Bool) → (p == address_of a) ≡ b → (if b then changed a (w p) else w p) ≡ w p
    go true is = absurd (o (grind (arith, nat_tests)))
    go false is = refl
