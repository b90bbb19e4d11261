-- Two lists, item by item.
use Rattle.std.proofs.Common.{List, [], ◌∷◌, ◌++◌}
use Rattle.threadbench.specs.Each.{EachWith}

-- one item more at the end of each
pub snoc : {A B : Type 0} (P : A → B → Type 0) (xs : List A) (ys : List B) (x : A) (y : B) → EachWith P xs ys → P x y → EachWith P (xs ++ x ∷ []) (ys ++ y ∷ [])
snoc P [] [] x y each one = (one, tt)
snoc P [] (b ∷ ys) x y each one = absurd each
snoc P (a ∷ xs) [] x y each one = absurd each
snoc P (a ∷ xs) (b ∷ ys) x y each one = (each.0, snoc P xs ys x y each.1 one)
