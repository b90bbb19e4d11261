-- The lines that the steps of a certificate tell, step after step.
use Rattle.std.proofs.Common.{arith, ◌≡◌, ℕ, ◌+◌, ◌<◌, ◌≤◌, List, [], ◌∷◌, ◌++◌, length, map, reverse, take, drop, get_or, Option, Result, IsErr, refl, sym, ap, subst, ◌∙◌, append_assoc, append-nil}
use Rattle.std.specs.List.{concat}
use Rattle.std.proofs.lemmas.List.{reverse-append, map-append, take_more, take-append-drop}
use Rattle.std.specs.Io.KnownBytes.{Appends}
use Rattle.std.proofs.lemmas.List.Folds.{concat-append}
use Rattle.facts.specs.declared.fact.Fact.{Fact}
use Rattle.facts.specs.declared.fact.Line.{Line}
use Rattle.texts.specs.Text.{fact_text, line_text}
use Rattle.histories.specs.declared.entry.Entry.{Entry}
use Rattle.histories.specs.declared.entry.Entry.TheVariants.{Told, Doom}
use Rattle.certificates.specs.Certificates.{trace_of}
use Rattle.streams.specs.Leaves.{AppendsFront, Leaves}
use Rattle.streams.proofs.Writers.{Appends-trans, ends_at_second}
use Rattle.windows.specs.Texts.{count_with, step_text, steps_count, steps_lines}

abbrev numbered : ℕ → Fact → Line
numbered n f = record { event = n; fact = f }

texts-append : (xs ys : List Line) → concat (map line_text (xs ++ ys)) ≡ concat (map line_text xs) ++ concat (map line_text ys)
texts-append xs ys = ap concat (map-append line_text xs ys) ∙ concat-append (map line_text xs) (map line_text ys)

-- newer steps add lines before those of the older ones
data Newer (xs ys : List Entry) : Type 0 where
  Adds : (more : List Line) → trace_of (xs ++ ys) ≡ more ++ trace_of ys → Newer xs ys

newer_with : (x : Entry) (xs ys : List Entry) → Newer xs ys → Newer (x ∷ xs) ys
newer_with (Told f) xs ys (Adds more is) =
    let l = numbered (length (trace_of (xs ++ ys)) + 1) f in
    Adds (l ∷ more) (ap (λ (ls : List Line). l ∷ ls) is)
newer_with (Doom t) xs ys (Adds more is) = Adds more is

newer : (xs ys : List Entry) → Newer xs ys
newer [] ys = Adds [] refl
newer (x ∷ xs) ys = newer_with x xs ys (newer xs ys)

more_with : (xs ys : List Entry) → Newer (reverse ys) (reverse xs) → (rest : List ℕ) × (steps_lines (xs ++ ys) ≡ steps_lines xs ++ rest)
more_with xs ys (Adds more is) = (
  concat (map line_text (reverse more)),
  ap (λ (es : List Entry). concat (map line_text (reverse (trace_of es)))) (reverse-append xs ys)
      ∙ ap (λ (ls : List Line). concat (map line_text (reverse ls))) is
      ∙ ap (λ (ls : List Line). concat (map line_text ls)) (reverse-append more (trace_of (reverse xs)))
      ∙ texts-append (reverse (trace_of (reverse xs))) (reverse more),
)

-- steps after others add to the text
steps_more : (xs ys : List Entry) → (rest : List ℕ) × (steps_lines (xs ++ ys) ≡ steps_lines xs ++ rest)
steps_more xs ys = more_with xs ys (newer (reverse ys) (reverse xs))

steps_told : (xs : List Entry) (f : Fact) → steps_lines (xs ++ Told f ∷ []) ≡ steps_lines xs ++ fact_text (steps_count xs + 1) f
steps_told xs f =
    let l = numbered (steps_count xs + 1) f in
    ap (λ (es : List Entry). concat (map line_text (reverse (trace_of es)))) (reverse-append xs (Told f ∷ []))
    ∙ ap (λ (ls : List Line). concat (map line_text ls)) (reverse-append (l ∷ []) (trace_of (reverse xs)))
    ∙ texts-append (reverse (trace_of (reverse xs))) (l ∷ [])
    ∙ ap (λ (bs : List ℕ). steps_lines xs ++ bs) (append-nil (fact_text (steps_count xs + 1) f))

steps_doom : (xs : List Entry) (t : ℕ) → steps_lines (xs ++ Doom t ∷ []) ≡ steps_lines xs
steps_doom xs t = ap (λ (es : List Entry). concat (map line_text (reverse (trace_of es)))) (reverse-append xs (Doom t ∷ []))

count_told : (xs : List Entry) (f : Fact) → steps_count (xs ++ Told f ∷ []) ≡ steps_count xs + 1
count_told xs f =
    let same : steps_count (xs ++ Told f ∷ []) ≡ length (trace_of (Told f ∷ reverse xs)) = ap (λ (es : List Entry). length (trace_of es)) (reverse-append xs (Told f ∷ [])) in
    omega (arith, same)

count_doom : (xs : List Entry) (t : ℕ) → steps_count (xs ++ Doom t ∷ []) ≡ steps_count xs
count_doom xs t = ap (λ (es : List Entry). length (trace_of es)) (reverse-append xs (Doom t ∷ []))

-- ---- one step more

steps_step : (xs : List Entry) (e : Entry) → steps_lines (xs ++ e ∷ []) ≡ steps_lines xs ++ step_text (steps_count xs) e
steps_step xs (Told f) = steps_told xs f
steps_step xs (Doom t) = steps_doom xs t ∙ sym (append-nil (steps_lines xs))

count_step : (xs : List Entry) (e : Entry) → steps_count (xs ++ e ∷ []) ≡ count_with (steps_count xs) e
count_step xs (Told f) = count_told xs f
count_step xs (Doom t) = count_doom xs t

-- where one step was written after those before it, this many are written
pub goes_on : (xs : List Entry) (i : ℕ) (x : Entry) (n : ℕ) (a b c : Option (List ℕ)) → i < length xs → x ≡ get_or xs i x → n ≡ steps_count (take i xs) → Appends a b (steps_lines (take i xs)) → Appends b c (step_text n x) → Appends a c (steps_lines (take (i + 1) xs))
goes_on xs i x n a b c lt at count before one =
    let e = get_or xs i x in
    let text : steps_lines (take (i + 1) xs) ≡ steps_lines (take i xs) ++ step_text n e =
    ap steps_lines (take_more xs i x lt) ∙ steps_step (take i xs) e ∙ ap (λ (k : ℕ). steps_lines (take i xs) ++ step_text k e) (sym count) in
    subst (Appends a c) (sym text) (Appends-trans a b c (steps_lines (take i xs)) (step_text n e) before (subst (λ (y : Entry). Appends b c (step_text n y)) at one))

pub counts_on : (xs : List Entry) (i : ℕ) (x : Entry) (n k : ℕ) → i < length xs → x ≡ get_or xs i x → n ≡ steps_count (take i xs) → k ≡ count_with n x → k ≡ steps_count (take (i + 1) xs)
counts_on xs i x n k lt at count is =
    is ∙ ap (count_with n) at ∙ ap (λ (m : ℕ). count_with m (get_or xs i x)) count ∙ sym (ap steps_count (take_more xs i x lt) ∙ count_step (take i xs) (get_or xs i x))

-- it is one more, or as many
pub count_grows : (n : ℕ) (e : Entry) → count_with n e ≤ n + 1
count_grows n (Told f) = omega arith
count_grows n (Doom t) = omega arith

-- an error in one of them ends all
pub stops_at : {X E : Type 0} (xs : List Entry) (i : ℕ) (x : Entry) (n : ℕ) (a b c : Option (List ℕ)) (r : Result X E) → i < length xs → x ≡ get_or xs i x → IsErr r → n ≡ steps_count (take i xs) → Appends a b (steps_lines (take i xs)) → AppendsFront b c (step_text n x) → Leaves a c r (steps_lines xs)
stops_at xs i x n a b c r lt at err count before one =
    let e = get_or xs i x in
    let front = take i xs in
    let more = steps_more (front ++ e ∷ []) (drop (i + 1) xs) in
    let whole : steps_lines xs ≡ steps_lines front ++ (step_text n e ++ more.0) =
    ap steps_lines (sym (take-append-drop (i + 1) xs) ∙ ap (λ (ys : List Entry). ys ++ drop (i + 1) xs) (take_more xs i x lt)) ∙ more.1
    ∙ ap (λ (bs : List ℕ). bs ++ more.0) (steps_step front e ∙ ap (λ (k : ℕ). steps_lines front ++ step_text k e) (sym count))
    ∙ append_assoc (steps_lines front) (step_text n e) more.0 in
    subst (Leaves a c r) (sym whole) (ends_at_second a b c r (steps_lines front) (step_text n e) more.0 err before (subst (λ (y : Entry). AppendsFront b c (step_text n y)) at one))
