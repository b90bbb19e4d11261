-- The lines of an event, and of one event after the other.
use Rattle.std.proofs.Common.{◌≡◌, ℕ, ◌+◌, ◌<◌, List, [], ◌∷◌, ◌++◌, length, take, drop, map, get_or, refl, sym, ap, ◌∙◌, append_assoc, append-nil, arith, add-zero, length-take-le}
use Rattle.std.proofs.lemmas.List.Folds.{concat-append}
use Rattle.std.proofs.lemmas.List.{map-append, take_more, take-append-drop}
use Rattle.std.specs.Iterator.{Yields, YieldsFirst}
use Rattle.protocol.specs.declared.note.Note.{Note}
use Rattle.facts.specs.declared.fact.Fact.{Fact}
use Rattle.facts.specs.declared.fact.Line.{Line}
use Rattle.protocol.specs.Notes.{facts_of, line_of, lines_from}
use Rattle.texts.specs.Text.{fact_text, facts_text, line_text, lines_text, notes_text}

lines_text-append : (xs ys : List Line) → lines_text (xs ++ ys) ≡ lines_text xs ++ lines_text ys
lines_text-append xs ys = rw (map-append line_text xs ys) (concat-append (map line_text xs) (map line_text ys))

-- some facts of an event, and then others
pub facts_text-append : (i : ℕ) (xs ys : List Fact) → facts_text i (xs ++ ys) ≡ facts_text i xs ++ facts_text i ys
facts_text-append i xs ys = rw (map-append (line_of i) xs ys) (lines_text-append (map (line_of i) xs) (map (line_of i) ys))

-- the later events are numbered on
lines_from-append : (k : ℕ) (xs ys : List Note) → lines_from k (xs ++ ys) ≡ lines_from k xs ++ lines_from (k + length xs) ys
lines_from-append k [] ys = rw add-zero refl
lines_from-append k (x ∷ xs) ys =
    let e : k + 1 + length xs ≡ k + length (x ∷ xs) = omega arith in
    let here = map (line_of k) (facts_of x) in
    ap (λ (ls : List Line). here ++ ls) (lines_from-append (k + 1) xs ys ∙ ap (λ (j : ℕ). lines_from (k + 1) xs ++ lines_from j ys) e)
    ∙ sym (append_assoc here (lines_from (k + 1) xs) (lines_from (k + length (x ∷ xs)) ys))

notes_text-append : (k : ℕ) (xs ys : List Note) → notes_text k (xs ++ ys) ≡ notes_text k xs ++ notes_text (k + length xs) ys
notes_text-append k xs ys = rw (lines_from-append k xs ys) (lines_text-append (lines_from k xs) (lines_from (k + length xs) ys))

one_note : (k : ℕ) (n : Note) → notes_text k (n ∷ []) ≡ facts_text k (facts_of n)
one_note k n = rw (append-nil (map (line_of k) (facts_of n))) refl

-- one event more
pub notes_more : (i : ℕ) (ns : List Note) (n : Note) → n ≡ get_or ns i n → i < length ns → notes_text 1 (take (i + 1) ns) ≡ notes_text 1 (take i ns) ++ facts_text (i + 1) (facts_of n)
notes_more i ns n is lt =
    let number : 1 + length (take i ns) ≡ i + 1 = omega (arith, length-take-le i ns (omega arith)) in
    ap (notes_text 1) (take_more ns i n lt) ∙ ap (λ (m : Note). notes_text 1 (take i ns ++ m ∷ [])) (sym is) ∙ notes_text-append 1 (take i ns) (n ∷ [])
    ∙ ap (λ (j : ℕ). notes_text 1 (take i ns) ++ notes_text j (n ∷ [])) number ∙ ap (λ (t : List ℕ). notes_text 1 (take i ns) ++ t) (one_note (i + 1) n)

-- the lines of the events before one, that one's, and those of the events after it
pub notes_as_far : (i : ℕ) (ns : List Note) (n : Note) → n ≡ get_or ns i n → i < length ns → (rest : List ℕ) × (notes_text 1 ns ≡ notes_text 1 (take i ns) ++ (facts_text (i + 1) (facts_of n) ++ rest))
notes_as_far i ns n is lt =
    let rest = notes_text (1 + length (take (i + 1) ns)) (drop (i + 1) ns) in
    let whole : notes_text 1 ns ≡ notes_text 1 (take (i + 1) ns) ++ rest = ap (notes_text 1) (sym (take-append-drop (i + 1) ns)) ∙ notes_text-append 1 (take (i + 1) ns) (drop (i + 1) ns) in
    (rest, whole ∙ rw (notes_more i ns n is lt) (append_assoc (notes_text 1 (take i ns)) (facts_text (i + 1) (facts_of n)) rest))

-- one fact more
pub fact_more : (i : ℕ) (xs : List Fact) (x : Fact) → facts_text i (xs ++ x ∷ []) ≡ facts_text i xs ++ fact_text i x
fact_more i xs x = facts_text-append i xs (x ∷ []) ∙ ap (λ (t : List ℕ). facts_text i xs ++ t) (append-nil (fact_text i x))

-- facts that calls gave are the first of those that there were, and the others are left
pub given_first : (all xs others : List Fact) → Yields (YieldsFirst (λ (rest : List Fact). rest)) all xs others → all ≡ xs ++ others
given_first all [] others given = given
given_first all (x ∷ xs) others given = given.1 ∙ ap (λ (fs : List Fact). x ∷ fs) (given_first given.0 xs others given.2)
