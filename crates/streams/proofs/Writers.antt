-- What a writer holds, text after text.
use Rattle.std.proofs.Common.{◌≡◌, ℕ, ◌+◌, ◌<◌, min, List, [], ◌∷◌, ◌++◌, length, take, drop, Option, Some, None, Result, Ok, Err, refl, sym, ap, subst, ◌∙◌, append_assoc, append-nil, arith, inl, inr, map, get_or, IsErr}
use Rattle.std.specs.Io.KnownBytes.{Appends, Keeps}
use Rattle.std.specs.List.{concat}
use Rattle.std.proofs.lemmas.List.Folds.{concat-append}
use Rattle.std.proofs.Math.Seq.{take-append_seam, take-append-add, take-add, take-length}
use Rattle.std.proofs.lemmas.List.{take-append-le, take_all, map-append, take_more, take-append-drop}
use Rattle.std.proofs.lemmas.Bool.{cases_lt}
use Rattle.streams.specs.Leaves.{AppendsFront, Leaves}

-- a writer that stays as it was has grown by the empty text
pub Appends-nil : (a : Option (List ℕ)) → Appends a a []
Appends-nil None = tt
Appends-nil (Some x) = sym (append-nil x)

-- one text, and then another
pub Appends-trans : (a b c : Option (List ℕ)) (bs cs : List ℕ) → Appends a b bs → Appends b c cs → Appends a c (bs ++ cs)
Appends-trans None b c bs cs p q = tt
Appends-trans (Some x) None c bs cs p q = absurd p
Appends-trans (Some x) (Some y) None bs cs p q = absurd q
Appends-trans (Some x) (Some y) (Some z) bs cs p q = q ∙ ap (λ l. l ++ cs) p ∙ append_assoc x bs cs

-- a text, and then a write that failed
pub Appends-kept : (a b c : Option (List ℕ)) (bs : List ℕ) → Appends a b bs → Keeps b c → Appends a c bs
Appends-kept None b c bs p q = tt
Appends-kept (Some x) None c bs p q = absurd p
Appends-kept (Some x) (Some y) None bs p q = absurd q
Appends-kept (Some x) (Some y) (Some z) bs p q = q ∙ p

-- n more of what is left after at
pub take_further : (bs : List ℕ) (at n : ℕ) → take at bs ++ take n (drop at bs) ≡ take (at + n) bs
take_further bs at n = sym (take-add at n bs)

-- all of a text is a beginning of it
pub whole_is_front : (a b : Option (List ℕ)) (bs : List ℕ) → Appends a b bs → AppendsFront a b bs
whole_is_front a b bs h = (length bs, subst (Appends a b) (sym (take-length bs)) h)

-- a beginning of the second text, after the first
pub front_after : (a b c : Option (List ℕ)) (bs cs : List ℕ) → Appends a b bs → AppendsFront b c cs → AppendsFront a c (bs ++ cs)
front_after a b c bs cs p q = (length bs + q.0, subst (Appends a c) (sym (take-append-add bs cs q.0)) (Appends-trans a b c bs (take q.0 cs) p q.1))

take-append-min : (k : ℕ) (bs cs : List ℕ) → take k bs ≡ take (min k (length bs)) (bs ++ cs)
take-append-min k bs cs = elim (cases_lt k (length bs)) [
  | inl lt ↦ let m : min k (length bs) ≡ k = omega arith in rw (m, take-append-le k bs cs (omega arith)) refl
  | inr le ↦ let m : min k (length bs) ≡ length bs = omega arith in rw (m, take-append_seam bs cs, take_all k bs le) refl
]

-- a beginning of the first text is a beginning of both
pub front_of : (a b : Option (List ℕ)) (bs cs : List ℕ) → AppendsFront a b bs → AppendsFront a b (bs ++ cs)
front_of a b bs cs q = (min q.0 (length bs), subst (Appends a b) (take-append-min q.0 bs cs) q.1)

-- at an error a beginning is enough
pub leaves_front : {X E : Type 0} (a b : Option (List ℕ)) (r : Result X E) (text : List ℕ) → IsErr r → AppendsFront a b text → Leaves a b r text
leaves_front a b (Ok x) text h q = absurd cc
leaves_front a b (Err e) text h q = q

-- the first text whole, and then the second as far as it came
pub then_leaves : {X E : Type 0} (a b c : Option (List ℕ)) (r : Result X E) (bs cs : List ℕ) → Appends a b bs → Leaves b c r cs → Leaves a c r (bs ++ cs)
then_leaves a b c (Ok x) bs cs p q = Appends-trans a b c bs cs p q
then_leaves a b c (Err e) bs cs p q = front_after a b c bs cs p q

-- an error in the first text ends both
pub ends_at_first : {X E : Type 0} (a b : Option (List ℕ)) (r : Result X E) (bs cs : List ℕ) → IsErr r → AppendsFront a b bs → Leaves a b r (bs ++ cs)
ends_at_first a b r bs cs h q = leaves_front a b r (bs ++ cs) h (front_of a b bs cs q)

-- an error in the second of three texts ends all
pub ends_at_second : {X E : Type 0} (a b c : Option (List ℕ)) (r : Result X E) (bs cs ds : List ℕ) → IsErr r → Appends a b bs → AppendsFront b c cs → Leaves a c r (bs ++ (cs ++ ds))
ends_at_second a b c r bs cs ds h p q = leaves_front a c r (bs ++ (cs ++ ds)) h (front_after a b c bs (cs ++ ds) p (front_of b c cs ds q))

-- ---- texts of many things

-- the text of each of them, joined
abbrev pub texts : {A : Type 0} → (A → List ℕ) → List A → List ℕ
texts f xs = concat (map f xs)

texts-append : {A : Type 0} (f : A → List ℕ) (xs ys : List A) → texts f (xs ++ ys) ≡ texts f xs ++ texts f ys
texts-append f xs ys = rw (map-append f xs ys) (concat-append (map f xs) (map f ys))

-- one thing more
pub one_more : {A : Type 0} (f : A → List ℕ) (xs : List A) (i : ℕ) (d : A) → i < length xs → texts f (take (i + 1) xs) ≡ texts f (take i xs) ++ f (get_or xs i d)
one_more f xs i d lt = rw (take_more xs i d lt, texts-append f (take i xs) (get_or xs i d ∷ []), append-nil (f (get_or xs i d))) refl

-- the things before one, that one, and those after it
pub as_far : {A : Type 0} (f : A → List ℕ) (xs : List A) (i : ℕ) (d : A) → i < length xs → texts f xs ≡ texts f (take i xs) ++ (f (get_or xs i d) ++ texts f (drop (i + 1) xs))
as_far f xs i d lt =
    let whole : texts f xs ≡ texts f (take (i + 1) xs) ++ texts f (drop (i + 1) xs) = ap (texts f) (sym (take-append-drop (i + 1) xs)) ∙ texts-append f (take (i + 1) xs) (drop (i + 1) xs) in
    whole ∙ rw (one_more f xs i d lt) (append_assoc (texts f (take i xs)) (f (get_or xs i d)) (texts f (drop (i + 1) xs)))

-- where one of them was written after those before it, this many are written
pub goes_on : {A : Type 0} (f : A → List ℕ) (xs : List A) (i : ℕ) (d : A) (a b c : Option (List ℕ)) → i < length xs → Appends a b (texts f (take i xs)) → Appends b c (f (get_or xs i d)) → Appends a c (texts f (take (i + 1) xs))
goes_on f xs i d a b c lt before one = subst (Appends a c) (sym (one_more f xs i d lt)) (Appends-trans a b c _ _ before one)

-- an error in one of them ends all
pub stops_at : {A X E : Type 0} (f : A → List ℕ) (xs : List A) (i : ℕ) (d : A) (a b c : Option (List ℕ)) (r : Result X E) → i < length xs → IsErr r → Appends a b (texts f (take i xs)) → AppendsFront b c (f (get_or xs i d)) → Leaves a c r (texts f xs)
stops_at f xs i d a b c r lt err before one = subst (Leaves a c r) (sym (as_far f xs i d lt)) (ends_at_second a b c r _ _ _ err before one)

-- a text that was written stays, whatever came of what was done then, if that kept it
pub kept_leaves : {X E : Type 0} (a b c : Option (List ℕ)) (r : Result X E) (text : List ℕ) → Appends a b text → Keeps b c → Leaves a c r text
kept_leaves a b c (Ok x) text p q = Appends-kept a b c text p q
kept_leaves a b c (Err e) text p q = whole_is_front a c text (Appends-kept a b c text p q)
