-- Two lists, item by item.
use Rattle.std.specs.Prelude.{List, [], ◌∷◌}

-- they are equally long, and each item of the one stands so to the item of the other at its place
abbrev pub EachWith : {A B : Type 0} → (A → B → Type 0) → List A → List B → Type 0
EachWith P [] [] = Unit {0}
EachWith P (x ∷ xs) (y ∷ ys) = P x y × EachWith P xs ys
EachWith P [] (y ∷ ys) = ⊥
EachWith P (x ∷ xs) [] = ⊥
