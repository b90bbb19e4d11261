-- Lists of entries without one of them.
use Rattle.std.proofs.Common.{◌≡◌, ◌⊎◌, inr, ℕ, suc, ◌==◌, Bool, true, false, List, [], ◌∷◌, length, arith}
use Rattle.std.specs.Prelude.{if◌then◌else◌}
use Rattle.memorymap.specs.Chains.{AreDifferent, IsAmong, IsApart, without}

pub length_without : (e : ℕ) (es : List ℕ) → IsAmong e es → length es ≡ suc (length (without e es))
length_without e [] among = absurd among
length_without e (x ∷ xs) among = grind (arith, length_without e xs)

pub different_without : (e : ℕ) (es : List ℕ) → AreDifferent es → AreDifferent (without e es)
different_without e [] different = tt
different_without e (x ∷ xs) different = go (different_without e xs different.1) (x == e)
  where
    apart : (ys : List ℕ) → IsApart x ys → IsApart x (without e ys)
    apart [] a = tt
    apart (y ∷ ys) a = pick (apart ys a.1) (y == e)
      where
        pick : IsApart x (without e ys) → (b : Bool) → IsApart x (if b then ys else y ∷ without e ys)
        pick rest true = a.1
        pick rest false = (a.0, rest)

    go : AreDifferent (without e xs) → (b : Bool) → AreDifferent (if b then xs else x ∷ without e xs)
    go rest true = different.1
    go rest false = (apart xs different.0, rest)

-- it is there, or it isn't
pub is_there : (e : ℕ) (es : List ℕ) → IsAmong e es ⊎ (IsAmong e es → ⊥)
is_there e [] = inr (λ among. among)
is_there e (x ∷ xs) = grind (arith, is_there e xs)
