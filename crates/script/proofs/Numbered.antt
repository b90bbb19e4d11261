-- Names with numbers after them.
use Rattle.std.specs.Prelude.{decimal}
use Rattle.std.proofs.Common.{◌≡◌, ℕ, zero, suc, ◌+◌, ◌<◌, ◌≤◌, ◌^◌, Bool, true, false, ◌&&◌, ◌||◌, nat_lt, List, [], ◌∷◌, ◌++◌, length, take, drop, Global, String, string_bytes, refl, sym, ap, ◌∙◌, arith, append_assoc, add-one}
use Rattle.std.specs.Str.{bytes_eq}
use Rattle.std.specs.Str.Parse.{digits_value}
use Rattle.std.specs.Str.Pattern.{StripsPrefix, FindsTextPrefix, LacksTextAt}
use Rattle.std.specs.String.{string_eq}
use Rattle.std.specs.List.{list_any}
use Rattle.std.proofs.Math.Seq.{take-append_seam, drop-append_seam}
use Rattle.std.proofs.lemmas.Bool.Decides.{nat_tests}
use Rattle.std.proofs.lemmas.Fmt.{decimal_injective}
use Rattle.std.proofs.lemmas.List.{map_push, take-append-drop}
use Rattle.std.proofs.lemmas.List.Folds.{list_any-append}
use Rattle.std.proofs.lemmas.Slice.Eq.{bytes_eq-Decides}
use Rattle.indexmap.specs.IndexSet.{insert_key}
use Rattle.lines.specs.Numbers.{is_number}
use Rattle.script.specs.Reading.{numbered, is_numbered}
use Rattle.script.proofs.Names.{texts, list_any-map}
use Rattle.lines.proofs.Numerals.{written, read_back}

same_bytes : (w : List ℕ) → bytes_eq w w ≡ true
same_bytes w = (bytes_eq-Decides w w).1 refl

-- ---- whether a name is one of them

stem_taken : (w rest : List ℕ) (n : ℕ) → is_numbered w n (w ++ rest) ≡ (is_number rest && nat_lt (digits_value 10 rest) n)
stem_taken w rest n = rw (take-append_seam w rest, drop-append_seam w rest, same_bytes w) refl

pub stripped : (w name rest : List ℕ) (n : ℕ) → StripsPrefix (FindsTextPrefix w) name rest → is_numbered w n name ≡ (is_number rest && nat_lt (digits_value 10 rest) n)
stripped w name rest n h =
    let whole : name ≡ w ++ rest = h.1.1 ∙ ap (λ (x : List ℕ). w ++ x) (sym h.2) in
    ap (is_numbered w n) whole ∙ stem_taken w rest n

pub unlike : (w name : List ℕ) (n : ℕ) → LacksTextAt w name 0 → false ≡ is_numbered w n name
unlike w name n none = go (bytes_eq (take (length w) name) w) refl
  where
    go : (b : Bool) → bytes_eq (take (length w) name) w ≡ b → false ≡ (b && is_number (drop (length w) name) && nat_lt (digits_value 10 (drop (length w) name)) n)
    go false is = refl
    go true is =
        let begins : take (length w) name ≡ w = (bytes_eq-Decides (take (length w) name) w).0 is in
        absurd (none (drop (length w) name) (sym (take-append-drop (length w) name) ∙ ap (λ (x : List ℕ). x ++ drop (length w) name) begins))

-- ---- adding them

its_own : (w : List ℕ) (i n : ℕ) → i < n → n < 2 ^ 32 → is_numbered w n (w ++ decimal i) ≡ true
its_own w i n lt small =
    let is = written i (omega arith) in
    let back = read_back i (omega arith) in
    stem_taken w (decimal i) n ∙ rw (is, back) (grind (arith, nat_tests))

-- a numbered name is none of those that are none
new_here : (w : List ℕ) (i n : ℕ) (names : List (List ℕ)) → i < n → n < 2 ^ 32 → list_any (λ name. is_numbered w n name) names ≡ false → list_any (λ name. bytes_eq (w ++ decimal i) name) names ≡ false
new_here w i n [] lt small none = refl
new_here w i n (a ∷ names) lt small none = go (new_here w i n names lt small) (bytes_eq (w ++ decimal i) a) refl (is_numbered w n a) refl none
  where
    go : (list_any (λ name. is_numbered w n name) names ≡ false → list_any (λ name. bytes_eq (w ++ decimal i) name) names ≡ false) → (b : Bool) → bytes_eq (w ++ decimal i) a ≡ b → (d : Bool) → is_numbered w n a ≡ d → (d || list_any (λ name. is_numbered w n name) names) ≡ false → (b || list_any (λ name. bytes_eq (w ++ decimal i) name) names) ≡ false
    go further true is d its rest =
        let same : w ++ decimal i ≡ a = (bytes_eq-Decides (w ++ decimal i) a).0 is in
        absurd (cc (sym (its_own w i n lt small) ∙ ap (is_numbered w n) same ∙ its, rest))
    go further false is true its rest = absurd cc
    go further false is false its rest = further rest

stem_off : (w a b : List ℕ) → w ++ a ≡ w ++ b → a ≡ b
stem_off w a b e = sym (drop-append_seam w a) ∙ ap (drop (length w)) e ∙ drop-append_seam w b

-- and none of those with a lower number
new_among : (w : List ℕ) (i k : ℕ) → k ≤ i → i < 2 ^ 32 → list_any (λ name. bytes_eq (w ++ decimal i) name) (numbered w k) ≡ false
new_among w i zero le small = refl
new_among w i (suc k) le small =
    list_any-append (λ name. bytes_eq (w ++ decimal i) name) (numbered w k) ((w ++ decimal k) ∷ []) ∙ rw (new_among w i k (omega arith) small) (go (bytes_eq (w ++ decimal i) (w ++ decimal k)) refl)
  where
    go : (b : Bool) → bytes_eq (w ++ decimal i) (w ++ decimal k) ≡ b → (b || false) ≡ false
    go false is = refl
    go true is =
        let same : decimal i ≡ decimal k = stem_off w (decimal i) (decimal k) ((bytes_eq-Decides (w ++ decimal i) (w ++ decimal k)).0 is) in
        let equal : i ≡ k = decimal_injective i k (omega arith) (omega arith) same in
        absurd (omega (arith, equal, le))

-- one more of them
pub one_more : (w : List ℕ) (i n : ℕ) (before now : List (String Global)) (k : String Global) → string_bytes k ≡ w ++ decimal i → i < n → n < 2 ^ 32
    → list_any (λ name. is_numbered w n name) (texts before) ≡ false → texts now ≡ texts before ++ numbered w i → texts (insert_key string_eq now k) ≡ texts before ++ numbered w (i + 1)
one_more w i n before now k is lt small none so_far =
    let other : list_any (string_eq k) now ≡ false =
    sym (list_any-map string_bytes (λ x. bytes_eq (string_bytes k) x) now)
    ∙ (λ j. list_any (λ x. bytes_eq (is j) x) (so_far j))
    ∙ list_any-append (λ x. bytes_eq (w ++ decimal i) x) (texts before) (numbered w i)
    ∙ rw (new_here w i n (texts before) lt small none) (new_among w i i (omega arith) (omega arith))
    in
    let next : numbered w (i + 1) ≡ numbered w i ++ (w ++ decimal i) ∷ [] = ap (numbered w) (add-one i) in
    rw (other, map_push string_bytes now k, is, so_far, next) (append_assoc (texts before) (numbered w i) ((w ++ decimal i) ∷ []))
