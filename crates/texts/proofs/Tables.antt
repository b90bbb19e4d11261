-- Names in a row.
use Rattle.std.proofs.Common.{◌≡◌, ℕ, ◌<◌, ◌+◌, suc, List, [], ◌∷◌, ◌++◌, map, take, drop, length, get_or, Option, Some, Result, IsErr, refl, sym, ap, subst, ◌∙◌, append-nil, arith}
use Rattle.std.specs.Prelude.{◌≤◌, Bool, true, false, cond, filter, slice_get, codes}
use Rattle.std.specs.List.{concat, flat_map, range_with_len}
use Rattle.std.specs.Io.KnownBytes.{Appends}
use Rattle.std.proofs.lemmas.List.{take_all}
use Rattle.std.proofs.lemmas.List.FromFn.{get_or-range_with_len, length-range_with_len}
use Rattle.std.proofs.lemmas.List.Filters.{length-filter_more}
use Rattle.std.specs.Option.{option_map}
use Rattle.std.proofs.lemmas.Option.{slice_get_within, get_or_from_slice_get, slice_get-map}
use Rattle.streams.specs.Leaves.{AppendsFront, Leaves}
use Rattle.script.specs.Scope.{Scope}
use Rattle.texts.specs.Tables.{name_in, name_of, comma_name, others_names, queue_names, condition_name}
use Rattle.streams.proofs.Writers.{texts, goes_on, stops_at}

-- where an item was written after those before it, this many are written
pub item_goes_on : {A : Type 0} (f : A → List ℕ) (xs : List A) (i : ℕ) (x : A) (a b c : Option (List ℕ)) → slice_get xs i ≡ Some x → Appends a b (texts f (take i xs)) → Appends b c (f x) → Appends a c (texts f (take (i + 1) xs))
item_goes_on f xs i x a b c is before one = goes_on f xs i x a b c (slice_get_within xs i x is) before (subst (λ y. Appends b c (f y)) (sym (get_or_from_slice_get xs i x x is)) one)

-- an error in an item ends all
pub item_stops : {A X E : Type 0} (f : A → List ℕ) (xs : List A) (i : ℕ) (x : A) (a b c : Option (List ℕ)) (r : Result X E) → slice_get xs i ≡ Some x → IsErr r → Appends a b (texts f (take i xs)) → AppendsFront b c (f x) → Leaves a c r (texts f xs)
item_stops f xs i x a b c r is err before one = stops_at f xs i x a b c r (slice_get_within xs i x is) err before (subst (λ y. AppendsFront b c (f y)) (sym (get_or_from_slice_get xs i x x is)) one)

-- the items after the first
pub behind_first : (xs : List ℕ) (i : ℕ) (x : ℕ) → slice_get xs (suc i) ≡ Some x → slice_get (drop 1 xs) i ≡ Some x
behind_first [] i x is = absurd (cc is)
behind_first (y ∷ xs) i x is = is

-- names after commas, as a join has them
pub comma_names : (names : List (List ℕ)) (ts : List ℕ) → flat_map (λ y. codes "," ++ name_of names y) ts ≡ concat (map (comma_name names) ts)
comma_names names [] = refl
comma_names names (t ∷ ts) = (λ i. (codes "," ++ sym (append-nil (name_of names t)) i) ++ comma_names names ts i)

-- the name that a condition variable was declared with
pub its_name : (sc : Scope) (k : ℕ) (name : List ℕ) → option_map (λ c. c.0) (slice_get sc.conditions k) ≡ Some name → name ≡ condition_name sc k
its_name sc k name is = sym (ap name_in (slice_get-map (λ c. c.0) sc.conditions k ∙ is))

-- ---- counts

-- of the numbers below i + 1 as many pass as below i, and i itself if it does
counted : (p : ℕ → Bool) (n i held : ℕ) → i < n → held ≡ length (filter p (take i (range_with_len 0 n))) → length (filter p (take (i + 1) (range_with_len 0 n))) ≡ held + cond (p i) 1 0
counted p n i held lt is =
    let long = length-range_with_len 0 n in
    let here : get_or (range_with_len 0 n) i 0 ≡ i = get_or-range_with_len 0 n i 0 lt ∙ omega arith in
    length-filter_more p (range_with_len 0 n) i 0 (omega (arith, long, lt)) ∙ ap (λ (k : ℕ). length (filter p (take i (range_with_len 0 n))) + cond (p k) 1 0) here ∙ ap (λ (k : ℕ). k + cond (p i) 1 0) (sym is)

pub counted_one : (p : ℕ → Bool) (n i held held' : ℕ) → i < n → held ≡ length (filter p (take i (range_with_len 0 n))) → p i ≡ true → held' ≡ held + 1 → held' ≡ length (filter p (take (i + 1) (range_with_len 0 n)))
counted_one p n i held held' lt is passes more = more ∙ sym (counted p n i held lt is ∙ ap (λ (b : Bool). held + cond b 1 0) passes)

pub counted_none : (p : ℕ → Bool) (n i held held' : ℕ) → i < n → held ≡ length (filter p (take i (range_with_len 0 n))) → p i ≡ false → held' ≡ held → held' ≡ length (filter p (take (i + 1) (range_with_len 0 n)))
counted_none p n i held held' lt is fails more =
    let zero_more : held + 0 ≡ held = omega arith in
    more ∙ sym (counted p n i held lt is ∙ ap (λ (b : Bool). held + cond b 1 0) fails ∙ zero_more)

pub counted_all : (p : ℕ → Bool) (n i held : ℕ) → n ≤ i → held ≡ length (filter p (take i (range_with_len 0 n))) → held ≡ length (filter p (range_with_len 0 n))
counted_all p n i held le is =
    let long = length-range_with_len 0 n in
    is ∙ ap (λ (xs : List ℕ). length (filter p xs)) (take_all i (range_with_len 0 n) (omega (arith, long, le)))

-- ---- a line for each number of a range

-- an error in the line of a number ends all
pub number_stops : {X E : Type 0} (f : ℕ → List ℕ) (first n i x : ℕ) (a b c : Option (List ℕ)) (r : Result X E) → i < n → x ≡ first + i → IsErr r → Appends a b (texts f (take i (range_with_len first n))) → AppendsFront b c (f x) → Leaves a c r (texts f (range_with_len first n))
number_stops f first n i x a b c r lt is err before one =
    let long = length-range_with_len first n in
    stops_at f (range_with_len first n) i 0 a b c r (omega (arith, long, lt)) err before (subst (λ (k : ℕ). AppendsFront b c (f k)) (is ∙ sym (get_or-range_with_len first n i 0 lt)) one)

-- ---- a queue's names

-- where a queue has a first thread, its name comes, and then those of the others
pub queue_starts : (names : List (List ℕ)) (ids : List ℕ) (t : ℕ) → slice_get ids 0 ≡ Some t → queue_names names ids ≡ concat (name_of names t ∷ []) ++ others_names names ids
queue_starts names [] t is = absurd (cc is)
queue_starts names (u ∷ us) t is =
    let same : u ≡ t = cc in
    let named : name_of names u ≡ concat (name_of names t ∷ []) = ap (name_of names) same ∙ sym (append-nil (name_of names t)) in
    (λ i. named i ++ comma_names names us i)

-- where the line of a number was written after those before it, this many are written
pub number_goes_on : (f : ℕ → List ℕ) (first n i x : ℕ) (a b c : Option (List ℕ)) → i < n → x ≡ first + i → Appends a b (texts f (take i (range_with_len first n))) → Appends b c (f x) → Appends a c (texts f (take (i + 1) (range_with_len first n)))
number_goes_on f first n i x a b c lt is before one =
    let long = length-range_with_len first n in
    goes_on f (range_with_len first n) i 0 a b c (omega (arith, long, lt)) before (subst (λ (k : ℕ). Appends b c (f k)) (is ∙ sym (get_or-range_with_len first n i 0 lt)) one)

-- where all were written, that is the text
pub numbers_end : (f : ℕ → List ℕ) (first n i : ℕ) (a b : Option (List ℕ)) → n ≤ i → Appends a b (texts f (take i (range_with_len first n))) → Appends a b (texts f (range_with_len first n))
numbers_end f first n i a b le all =
    let long = length-range_with_len first n in
    subst (λ (xs : List ℕ). Appends a b (texts f xs)) (take_all i (range_with_len first n) (omega (arith, long, le))) all
