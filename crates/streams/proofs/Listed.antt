-- Items of lists, one after the other.
use Rattle.std.proofs.Common.{◌≡◌, ℕ, zero, suc, ◌+◌, ◌<◌, length, slice_index_or, get_or, List, [], ◌∷◌, ◌++◌, map, take, Some, ap, arith, ◌∙◌, sym}
use Rattle.std.specs.Prelude.{slice_get, option_map}
use Rattle.std.proofs.lemmas.List.{map-append, take_more}

-- this many items, and the next
take_next : {B : Type 0} (xs : List B) (i : ℕ) (x : B) → slice_get xs i ≡ Some x → take (suc i) xs ≡ take i xs ++ x ∷ []
take_next [] i x is = absurd cc
take_next (n ∷ xs) zero x is = let same : n ≡ x = cc in ap (λ z. z ∷ []) same
take_next (n ∷ xs) (suc i) x is = ap (λ l. n ∷ l) (take_next xs i x is)

-- one line more says one item more
pub said_next : {A B : Type 0} (says : A → B) (xs : List B) (i : ℕ) (lines lines' : List A) (line : A) → slice_get xs i ≡ Some (says line) → map says lines ≡ take i xs → lines' ≡ lines ++ line ∷ [] → map says lines' ≡ take (i + 1) xs
said_next says xs i lines lines' line there so_far more =
    let one_more : i + 1 ≡ suc i = omega arith in
    ap (map says) more ∙ map-append says lines (line ∷ []) ∙ ap (λ l. l ++ says line ∷ []) so_far ∙ sym (take_next xs i (says line) there) ∙ ap (λ k. take k xs) (sym one_more)

-- an item of a list, seen otherwise
pub mapped_at : {A B : Type 0} (f : A → B) (xs : List A) (i : ℕ) (x : A) → slice_get xs i ≡ Some x → slice_get (map f xs) i ≡ Some (f x)
mapped_at f [] i x is = absurd cc
mapped_at f (y ∷ xs) zero x is = let same : y ≡ x = cc in ap (λ z. Some (f z)) same
mapped_at f (y ∷ xs) (suc i) x is = mapped_at f xs i x is

-- what is said of an item
pub named_at : {A B : Type 0} (f : A → B) (xs : List A) (i : ℕ) (y : B) → option_map f (slice_get xs i) ≡ Some y → slice_get (map f xs) i ≡ Some y
named_at f [] i y is = absurd cc
named_at f (x ∷ xs) zero y is = is
named_at f (x ∷ xs) (suc i) y is = named_at f xs i y is

-- what is at a place
pub at_place : {A : Type 0} (xs : List A) (i : ℕ) (x : A) → i < length xs → x ≡ slice_index_or xs i x → slice_get xs i ≡ Some x
at_place [] i x lt is = absurd (omega (arith, lt))
at_place (y ∷ xs) zero x lt is = ap Some (sym is)
at_place (y ∷ xs) (suc i) x lt is = at_place xs i x (omega (arith, lt)) is

-- one item more on both sides, which says the same on both
pub says_on : {A B C : Type 0} (f : B → C) (g : A → C) (xs : List A) (i : ℕ) (x : A) (ys ys' : List B) (y : B) → i < length xs → x ≡ get_or xs i x → f y ≡ g x → map f ys ≡ map g (take i xs) → ys' ≡ ys ++ y ∷ [] → map f ys' ≡ map g (take (i + 1) xs)
says_on f g xs i x ys ys' y lt at same so_far more =
    let after : map g (take (i + 1) xs) ≡ map g (take i xs) ++ g x ∷ [] = ap (map g) (take_more xs i x lt) ∙ map-append g (take i xs) (get_or xs i x ∷ []) ∙ ap (λ z. map g (take i xs) ++ g z ∷ []) (sym at) in
    ap (map f) more ∙ map-append f ys (y ∷ []) ∙ ap (λ l. l ++ f y ∷ []) so_far ∙ ap (λ z. map g (take i xs) ++ z ∷ []) same ∙ sym after
