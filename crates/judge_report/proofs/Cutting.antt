-- Reading up to a line feed takes a line off.
use Rattle.std.proofs.Common.{◌≡◌, ℕ, suc, ◌-◌, ◌==◌, Bool, true, false, ◌&&◌, List, [], ◌∷◌, ◌++◌, length, take, get_or, Option, Some, None, IfSome, refl, sym, ap, subst, ◌∙◌, arith, cond, length-append}
use Rattle.std.specs.Prelude.{nat_lt, slice_index, if◌then◌else◌}
use Rattle.std.specs.List.{onto_first}
use Rattle.std.specs.Io.BufRead.{take_through, drop_through, ends_with_byte, strip_last}
use Rattle.std.proofs.Math.Seq.{take-append_seam}
use Rattle.std.proofs.lemmas.Bool.Decides.{nat_tests}
use Rattle.lines.specs.Lines.{lines_of}
use Rattle.judge_report.specs.Heard.{Cuts}

-- ---- what ends with a line feed

last_of : (line : List ℕ) → get_or (line ++ 10 ∷ []) (length line) 0 ≡ 10
last_of [] = refl
last_of (x ∷ line) = last_of line

one_less : (line : List ℕ) → length (line ++ 10 ∷ []) - 1 ≡ length line
one_less line = omega (arith, length-append line (10 ∷ []))

feed_ends : (line : List ℕ) → ends_with_byte 10 (line ++ 10 ∷ []) ≡ true
feed_ends line =
    let filled : nat_lt 0 (length (line ++ 10 ∷ [])) ≡ true = grind (arith, nat_tests, length-append line (10 ∷ [])) in
    let last : (slice_index (line ++ 10 ∷ []) (length (line ++ 10 ∷ []) - 1) == 10) ≡ true = ap (λ (i : ℕ). get_or (line ++ 10 ∷ []) i 0 == 10) (one_less line) ∙ ap (λ (b : ℕ). b == 10) (last_of line) in
    λ i. filled i && last i

feed_stripped : (line : List ℕ) → strip_last 10 (line ++ 10 ∷ []) ≡ line
feed_stripped line =
    ap (λ (b : Bool). if b then take (length (line ++ 10 ∷ []) - 1) (line ++ 10 ∷ []) else line ++ 10 ∷ []) (feed_ends line)
    ∙ ap (λ (n : ℕ). take n (line ++ 10 ∷ [])) (one_less line) ∙ take-append_seam line (10 ∷ [])

pub no_bytes : (xs : List ℕ) → length xs ≡ 0 → ends_with_byte 10 xs ≡ false
no_bytes [] e = refl
no_bytes (x ∷ xs) e = absurd (omega (arith, e))

pub other_byte : (xs : List ℕ) → (slice_index xs (length xs - 1) == 10) ≡ false → ends_with_byte 10 xs ≡ false
other_byte xs e = go (nat_lt 0 (length xs)) where
  go : (b : Bool) → (b && (slice_index xs (length xs - 1) == 10)) ≡ false
  go true = e
  go false = refl

pub feed_byte : (xs : List ℕ) → nat_lt 0 (length xs) ≡ true → (slice_index xs (length xs - 1) == 10) ≡ true → ends_with_byte 10 xs ≡ true
feed_byte xs e f = λ i. e i && f i

pub unstripped : (xs : List ℕ) → ends_with_byte 10 xs ≡ false → xs ≡ strip_last 10 xs
unstripped xs e = sym (ap (λ (b : Bool). if b then take (length xs - 1) xs else xs) e)

pub stripped : (xs : List ℕ) → ends_with_byte 10 xs ≡ true → take (length xs - 1) xs ≡ strip_last 10 xs
stripped xs e = sym (ap (λ (b : Bool). if b then take (length xs - 1) xs else xs) e)

-- a byte before what doesn't
no_feed : (x : ℕ) (xs : List ℕ) → (x == 10) ≡ false → ends_with_byte 10 xs ≡ false → ends_with_byte 10 (x ∷ xs) ≡ false
no_feed x [] e h = ap (λ (b : Bool). nat_lt 0 1 && b) e
no_feed x (y ∷ ys) e h =
    let filled : nat_lt 0 (length (x ∷ y ∷ ys)) ≡ nat_lt 0 (length (y ∷ ys)) = grind (arith, nat_tests) in
    let at : length (x ∷ y ∷ ys) - 1 ≡ suc (length (y ∷ ys) - 1) = omega arith in
    let last : (slice_index (x ∷ y ∷ ys) (length (x ∷ y ∷ ys) - 1) == 10) ≡ (slice_index (y ∷ ys) (length (y ∷ ys) - 1) == 10) = ap (λ (i : ℕ). get_or (x ∷ y ∷ ys) i 0 == 10) at in
    (λ i. filled i && last i) ∙ h

-- ---- what stands before the first line feed

data Front (xs : List ℕ) : Type 0 where
  Feed : (line : List ℕ) → take_through 10 xs ≡ line ++ 10 ∷ [] → lines_of xs ≡ line ∷ lines_of (drop_through 10 xs) → Front xs
  Rest : take_through 10 xs ≡ xs → ends_with_byte 10 xs ≡ false → lines_of xs ≡ xs ∷ [] → Front xs

front_with : (x : ℕ) (xs : List ℕ) (b : Bool) → (x == 10) ≡ b → Front xs → Front (x ∷ xs)
front_with x xs true e f =
    let ten : x ≡ 10 = grind (arith, nat_tests) in
    Feed [] (ap (λ (b : Bool). if b then x ∷ [] else x ∷ take_through 10 xs) e ∙ ap (λ (y : ℕ). y ∷ []) ten)
    (ap (λ (b : Bool). cond b ([] ∷ lines_of xs) (onto_first x (lines_of xs))) e ∙ ap (λ (ys : List ℕ). [] ∷ lines_of ys) (sym (ap (λ (b : Bool). if b then xs else drop_through 10 xs) e)))
front_with x xs false e (Feed line t l) =
    Feed (x ∷ line) (ap (λ (b : Bool). if b then x ∷ [] else x ∷ take_through 10 xs) e ∙ ap (λ (ys : List ℕ). x ∷ ys) t)
    (ap (λ (b : Bool). cond b ([] ∷ lines_of xs) (onto_first x (lines_of xs))) e ∙ ap (onto_first x) l ∙ ap (λ (ys : List ℕ). (x ∷ line) ∷ lines_of ys) (sym (ap (λ (b : Bool). if b then xs else drop_through 10 xs) e)))
front_with x xs false e (Rest t n l) =
    Rest (ap (λ (b : Bool). if b then x ∷ [] else x ∷ take_through 10 xs) e ∙ ap (λ (ys : List ℕ). x ∷ ys) t) (no_feed x xs e n)
    (ap (λ (b : Bool). cond b ([] ∷ lines_of xs) (onto_first x (lines_of xs))) e ∙ ap (onto_first x) l)

front : (xs : List ℕ) → Front xs
front [] = Rest refl refl refl
front (x ∷ xs) = front_with x xs (x == 10) refl (front xs)

-- ---- what a read up to the first one gives

cut_so : (xs : List ℕ) (left : Option (List ℕ)) → left ≡ Some (drop_through 10 xs) → Front xs → Cuts xs left (ends_with_byte 10 (take_through 10 xs)) (strip_last 10 (take_through 10 xs))
cut_so xs left is (Feed line t l) =
    subst (λ (ys : List ℕ). Cuts xs left (ends_with_byte 10 ys) (strip_last 10 ys)) (sym t)
    (subst (λ (b : Bool). Cuts xs left b (strip_last 10 (line ++ 10 ∷ []))) (sym (feed_ends line))
    (subst (λ (ys : List ℕ). Cuts xs left true ys) (sym (feed_stripped line)) (drop_through 10 xs, is, l)))
cut_so xs left is (Rest t n l) =
    subst (λ (ys : List ℕ). Cuts xs left (ends_with_byte 10 ys) (strip_last 10 ys)) (sym t)
    (subst (λ (b : Bool). Cuts xs left b (strip_last 10 xs)) (sym n)
    (subst (λ (ys : List ℕ). Cuts xs left false ys) (sym (ap (λ (b : Bool). if b then take (length xs - 1) xs else xs) n)) l))

pub cuts : (had left : Option (List ℕ)) (old buf line : List ℕ) (whole : Bool) → old ≡ [] → IfSome had (λ xs. buf ≡ old ++ take_through 10 xs) → IfSome had (λ xs. left ≡ Some (drop_through 10 xs))
    → whole ≡ ends_with_byte 10 buf → line ≡ strip_last 10 buf → IfSome had (λ bytes. Cuts bytes left whole line)
cuts None left old buf line whole quiet taken rest ends front_is = tt
cuts (Some xs) left old buf line whole quiet taken rest ends front_is =
    let all : buf ≡ take_through 10 xs = taken ∙ ap (λ (ys : List ℕ). ys ++ take_through 10 xs) quiet in
    subst (λ (b : Bool). Cuts xs left b line) (sym (ends ∙ ap (ends_with_byte 10) all))
    (subst (λ (ys : List ℕ). Cuts xs left (ends_with_byte 10 (take_through 10 xs)) ys) (sym (front_is ∙ ap (strip_last 10) all)) (cut_so xs left rest (front xs)))
