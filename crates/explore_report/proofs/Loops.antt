-- What loops have come to.
use Rattle.std.proofs.Common.{◌≡◌, ℕ, zero, suc, ◌<◌, ◌≤◌, ◌+◌, ◌-◌, List, [], ◌∷◌, ◌++◌, map, take, drop, length, get_or, Bool, true, false, Option, Some, None, refl, sym, ap, subst, ◌∙◌, append_assoc, ◌==◌, Bor, Result, Ok, Err, inl, inr, arith, rules}
use Rattle.std.specs.Prelude.{◌⊎◌, slice_get, if◌then◌else◌}
use Rattle.std.specs.Option.{SomeIff}
use Rattle.std.specs.Result.{OnOk}
use Rattle.std.specs.Str.{bytes_eq}
use Rattle.std.proofs.Math.Seq.{drop-cons, take-suc}
use Rattle.std.proofs.Math.ListN.{drop_of_length-le}
use Rattle.std.proofs.lemmas.List.{map-append}
use Rattle.std.specs.Prelude.{nat_eq}
use Rattle.std.specs.List.{list_any, slice_split}
use Rattle.lines.proofs.Cutting.{one_or_more}
use Rattle.lines.specs.Lines.{lines_of}
use Rattle.script.proofs.Names.{list_any-map}
use Rattle.explore_report.specs.Asked.{added, first_option, options_read, read_first, read_on, Choice, Choices}
use Rattle.explore_report.specs.Patterns.{place_from}
use Rattle.script.specs.Outcome.{TellsAt}
use Rattle.script.specs.Reading.{script_read}
use Rattle.script.specs.Scope.{Scope}
use Rattle.script.specs.declared.command.Mode.TheVariants.{Run}
use Rattle.script.specs.declared.fault.Fault.{Fault}
use Rattle.script.specs.declared.fault.Fault.TheVariants.{NotUtf8, UnknownWord, OutOfRange, NoSuchName, TooLong, OutOfMemory}
use Rattle.script.specs.declared.fault.ScriptFault.{ScriptFault}
use Rattle.explore_report.specs.Plans.{may_die, text_said, with_kinds}
use Rattle.explore_report.specs.Spelled.{kind_of, kinds_of, said_of, spelled, spelled_text}
use Rattle.explore_report.specs.declared.spelling.Kind.{Kind}
use Rattle.std.specs.List.{flat_map, range_with_len}
use Rattle.std.proofs.lemmas.Grind.{common_steps, flat_map-append}
use Rattle.std.proofs.lemmas.List.FromFn.{map-range_with_len_more}
use Rattle.std.proofs.lemmas.Option.{get_or_from_slice_get, slice_get_within}

-- one number more
pub range_more : (a n j : ℕ) → a + n ≡ j → range_with_len a (n + 1) ≡ range_with_len a n ++ j ∷ []
range_more a zero j is = ap (λ k. k ∷ []) (omega (arith, is))
range_more a (suc n) j is =
    let e : suc n + 1 ≡ suc (n + 1) = omega arith in
    ap (range_with_len a) e ∙ ap (λ xs. a ∷ xs) (range_more (a + 1) n j (omega (arith, is)))

-- the text of one number more
pub text_more : {A : Type 0} (f : ℕ → List A) (n : ℕ) (old now next : List A) → now ≡ old ++ flat_map f (range_with_len 0 n) → next ≡ now ++ f n → next ≡ old ++ flat_map f (range_with_len 0 (n + 1))
text_more {A} f n old now next had adds =
    let more : flat_map f (range_with_len 0 (n + 1)) ≡ flat_map f (range_with_len 0 n) ++ f n = ap (flat_map f) (range_more 0 n n (omega arith)) ∙ flat_map-append f (range_with_len 0 n) (n ∷ []) ∙ grind (arith, common_steps) in
    adds ∙ ap (λ (t : List A). t ++ f n) had ∙ append_assoc old _ _ ∙ ap (λ (t : List A). old ++ t) (sym more)

-- the texts of as many numbers as there are
pub text_last : (f : ℕ → List ℕ) (n m : ℕ) (old now : List ℕ) → n ≡ m → now ≡ old ++ flat_map f (range_with_len 0 n) → now ≡ old ++ flat_map f (range_with_len 0 m)
text_last f n m old now is had = subst (λ (k : ℕ). now ≡ old ++ flat_map f (range_with_len 0 k)) is had

-- one item more of a list, found by its place
pub item_more : {A B : Type 0} (f : A → B) (xs : List A) (i : ℕ) (x : A) (ys zs : List B) → slice_get xs i ≡ Some x → ys ≡ map f (take i xs) → zs ≡ ys ++ f x ∷ [] → zs ≡ map f (take (i + 1) xs)
item_more {A} {B} f xs i x ys zs is had adds =
    let lt = slice_get_within xs i x is in
    let here = get_or_from_slice_get xs i x x is in
    let next : i + 1 ≡ suc i = omega arith in
    let more : take (i + 1) xs ≡ take i xs ++ x ∷ [] = ap (λ (k : ℕ). take k xs) next ∙ take-suc xs i x lt ∙ ap (λ (y : A). take i xs ++ y ∷ []) here in
    adds ∙ ap (λ (l : List B). l ++ f x ∷ []) had ∙ sym (ap (map f) more ∙ map-append f (take i xs) (x ∷ []))

-- an item and those after it
pub item_dropped : {A : Type 0} (xs : List A) (i : ℕ) (x : A) → slice_get xs i ≡ Some x → drop i xs ≡ x ∷ drop (i + 1) xs
item_dropped {A} xs i x is =
    let lt = slice_get_within xs i x is in
    let here = get_or_from_slice_get xs i x x is in
    let next : suc i ≡ i + 1 = omega arith in
    drop-cons xs i x lt ∙ ap (λ (y : A). y ∷ drop (suc i) xs) here ∙ ap (λ (k : ℕ). x ∷ drop k xs) next

-- ---- the first place

-- the name is looked for from the next place on
pub place_next : (names : List (List ℕ)) (i : ℕ) (x name : List ℕ) → slice_get names i ≡ Some x → bytes_eq x name ≡ false → place_from i (drop i names) name ≡ place_from (i + 1) (drop (i + 1) names) name
place_next names i x name is other = ap (λ (l : List (List ℕ)). place_from i l name) (item_dropped names i x is) ∙ ap (λ (b : Bool). if b then Some i else place_from (i + 1) (drop (i + 1) names) name) other

-- it is found
pub place_found : (names : List (List ℕ)) (i : ℕ) (x name : List ℕ) → slice_get names i ≡ Some x → bytes_eq x name ≡ true → place_from i (drop i names) name ≡ Some i
place_found names i x name is same = ap (λ (l : List (List ℕ)). place_from i l name) (item_dropped names i x is) ∙ ap (λ (b : Bool). if b then Some i else place_from (i + 1) (drop (i + 1) names) name) same

-- it isn't one of the names
pub place_missed : (names : List (List ℕ)) (i : ℕ) (name : List ℕ) → length names ≤ i → place_from i (drop i names) name ≡ None
place_missed names i name past = ap (λ (l : List (List ℕ)). place_from i l name) (drop_of_length-le names past)

-- ---- ids

-- an id that there is
pub id_is : (r : Option ℕ) (P : Type 0) (v x : ℕ) → SomeIff r P v → r ≡ Some x → x ≡ v
id_is None P v x so is = absurd (cc is)
id_is (Some y) P v x so is = cc (so.1, is)

-- ---- names of threads that may be killed

pub named_there : (named : List (Bor (List ℕ))) (name : List ℕ) → list_any (λ w. bytes_eq w.now name) named ≡ list_any (λ w. bytes_eq w name) (map (λ w. w.now) named)
named_there named name = sym (list_any-map (λ w. w.now) (λ x. bytes_eq x name) named)

pub one_may_die : (named : List (Bor (List ℕ))) (name : List ℕ) → nat_eq (length named) 0 ≡ false → list_any (λ w. bytes_eq w.now name) named ≡ may_die (map (λ w. w.now) named) name
one_may_die [] name some = absurd (cc some)
one_may_die (n ∷ ns) name some = sym (list_any-map (λ w. w.now) (λ x. bytes_eq x name) (n ∷ ns))

-- ---- lines

abbrev split : List ℕ → List (List ℕ)
split bs = slice_split (λ b. b == 10) bs

text_unrolled : (line : List ℕ) (ls : List (List ℕ)) → 1 ≤ length ls → spelled_text (line ∷ ls) ≡ (spelled line (said_of line) ++ 10 ∷ []) ++ spelled_text ls
text_unrolled line [] some = absurd (omega (arith, some))
text_unrolled line (l ∷ ls) some = refl

kinds_unrolled : (line : List ℕ) (ls : List (List ℕ)) → 1 ≤ length ls → kinds_of (line ∷ ls) ≡ kind_of (said_of line) ∷ kinds_of ls
kinds_unrolled line [] some = absurd (omega (arith, some))
kinds_unrolled line (l ∷ ls) some = refl

-- a line more is spelled
pub spelled_on : (line rest after now next whole : List ℕ) → split rest ≡ line ∷ split after → next ≡ now ++ (spelled line (said_of line) ++ 10 ∷ []) → now ++ spelled_text (split rest) ≡ whole → next ++ spelled_text (split after) ≡ whole
spelled_on line rest after now next whole cuts adds had =
    let this = ap spelled_text cuts ∙ text_unrolled line (split after) (one_or_more (λ b. b == 10) after) in
    ap (λ (t : List ℕ). t ++ spelled_text (split after)) adds ∙ append_assoc now _ _ ∙ ap (λ (t : List ℕ). now ++ t) (sym this) ∙ had

pub kinds_on : (line rest after : List ℕ) (now next whole : List Kind) → split rest ≡ line ∷ split after → next ≡ now ++ kind_of (said_of line) ∷ [] → now ++ kinds_of (split rest) ≡ whole → next ++ kinds_of (split after) ≡ whole
kinds_on line rest after now next whole cuts adds had =
    let this = ap kinds_of cuts ∙ kinds_unrolled line (split after) (one_or_more (λ b. b == 10) after) in
    ap (λ (t : List Kind). t ++ kinds_of (split after)) adds ∙ append_assoc now _ _ ∙ ap (λ (t : List Kind). now ++ t) (sym this) ∙ had

-- ---- texts in two parts

-- a text is added after another one
pub then_adds : {X E : Type 0} (r : Result X E) (a b old now next : List ℕ) → now ≡ old ++ a → OnOk r (next ≡ now ++ b) → OnOk r (next ≡ old ++ (a ++ b))
then_adds (Ok x) a b old now next adds more = more ∙ ap (λ (t : List ℕ). t ++ b) adds ∙ append_assoc old a b
then_adds (Err e) a b old now next adds more = tt

-- ---- a script that was read

-- what was spelled was read
pub spelled_read : (bytes text : List ℕ) (kinds : List Kind) (s : Scope) → text ≡ spelled_text (lines_of bytes) → kinds ≡ kinds_of (lines_of bytes) → script_read Run text ≡ Ok s → text_said bytes ≡ Ok (record { scope = s; kinds = kinds })
spelled_read bytes text kinds s is says reads = ap (λ (t : List ℕ). with_kinds (kinds_of (lines_of bytes)) (script_read Run t)) (sym is) ∙ ap (with_kinds (kinds_of (lines_of bytes))) reads ∙ ap (λ (ks : List Kind). Ok (record { scope = s; kinds = ks })) (sym says)

-- its fault is found, or memory ran out
found_fault : (e : ScriptFault) (f : Fault) (said : Result Scope ScriptFault) → TellsAt e f said → (f ≡ OutOfMemory) ⊎ (said ≡ Err e)
found_fault e OutOfMemory said tells = inl refl
found_fault e NotUtf8 said tells = inr tells
found_fault e UnknownWord said tells = inr tells
found_fault e OutOfRange said tells = inr tells
found_fault e NoSuchName said tells = inr tells
found_fault e TooLong said tells = inr tells

pub spelled_ill : (bytes text : List ℕ) (e : ScriptFault) → text ≡ spelled_text (lines_of bytes) → TellsAt e e.fault (script_read Run text) → (e.fault ≡ OutOfMemory) ⊎ (text_said bytes ≡ Err e)
spelled_ill bytes text e is tells = elim (found_fault e e.fault (script_read Run text) tells) [
  | inl memory ↦ inl memory
  | inr said ↦ inr (ap (λ (t : List ℕ). with_kinds (kinds_of (lines_of bytes)) (script_read Run t)) (sym is) ∙ ap (with_kinds (kinds_of (lines_of bytes))) said)
]

-- ---- options

-- an option more was read
pub options_more : (most : ℕ) (c c' : Choices) (words rest : List (List ℕ)) (x : Choice) → nat_eq most 0 ≡ false → first_option words ≡ Some (x, rest) → added c x ≡ Some c' → options_read most c words ≡ options_read (most - 1) c' rest
options_more zero c c' words rest x some first adds = absurd (cc some)
options_more (suc n) c c' words rest x some first adds =
    let before : suc n - 1 ≡ n = omega arith in
    ap (read_first (options_read n) c words) first ∙ ap (λ (o : Option Choices). read_on (options_read n) o rest) adds ∙ ap (λ (k : ℕ). options_read k c' rest) (sym before)
