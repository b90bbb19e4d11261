-- Lists by place. Beyond the end of such a list nothing was put.
use Rattle.std.specs.Prelude.{ℕ, zero, suc, Bool, false, Option, None, List, [], ◌∷◌}
use Rattle.posixmutex.specs.declared.point.Point.{Point}

-- the points at p
abbrev pub at : List (List Point) → ℕ → List Point
at [] p = []
at (x ∷ xs) zero = x
at (x ∷ xs) (suc p) = at xs p

abbrev pub put : List (List Point) → ℕ → List Point → List (List Point)
put [] zero y = y ∷ []
put [] (suc p) y = [] ∷ put [] p y
put (x ∷ xs) zero y = y ∷ xs
put (x ∷ xs) (suc p) y = x ∷ put xs p y

-- the value of the word at p, where it is known
abbrev pub value_at : List (Option ℕ) → ℕ → Option ℕ
value_at [] p = None
value_at (x ∷ xs) zero = x
value_at (x ∷ xs) (suc p) = value_at xs p

abbrev pub put_value : List (Option ℕ) → ℕ → Option ℕ → List (Option ℕ)
put_value [] zero y = y ∷ []
put_value [] (suc p) y = None ∷ put_value [] p y
put_value (x ∷ xs) zero y = y ∷ xs
put_value (x ∷ xs) (suc p) y = x ∷ put_value xs p y

-- a mark at p
abbrev pub mark_at : List Bool → ℕ → Bool
mark_at [] p = false
mark_at (x ∷ xs) zero = x
mark_at (x ∷ xs) (suc p) = mark_at xs p

abbrev pub put_mark : List Bool → ℕ → Bool → List Bool
put_mark [] zero y = y ∷ []
put_mark [] (suc p) y = false ∷ put_mark [] p y
put_mark (x ∷ xs) zero y = y ∷ xs
put_mark (x ∷ xs) (suc p) y = x ∷ put_mark xs p y
