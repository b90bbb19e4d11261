-- What a scan tells of a line.
use Rattle.std.proofs.Common.{◌≡◌, ℕ, Bool, not, true, false, List, take, Option, Some, None, sym, subst, ◌∙◌, arith}
use Rattle.std.specs.Prelude.{IfSome, IfNone}
use Rattle.std.specs.Option.{is_some}
use Rattle.lines.specs.Lines.{words_of}
use Rattle.grammar.specs.declared.wrong.Kind.{Kind}
use Rattle.grammar.specs.declared.wrong.Wrong.{Wrong}
use Rattle.grammar.specs.Wrongs.{Awaits, IsFirstWrong, ends_at, first_of, is_line, offset_of, wrong_in}
use Rattle.grammar.proofs.AllKinds.{lines_are_run}
use Rattle.grammar.proofs.Scanning.{some_word}
use Rattle.grammar.proofs.Firsts.{Found, awaits, first, found, right, unended}

pub is_right : (k : Kind) (text : List ℕ) (o : Option Wrong) → o ≡ wrong_in (first_of k) 0 0 (words_of text) → IfNone o (is_line k (words_of text) ≡ true)
is_right k text None e = lines_are_run k (words_of text) ∙ right (first_of k) 0 0 (words_of text) (some_word text) (sym e)
is_right k text (Some x) e = tt

its_word : (k : Kind) (text : List ℕ) (x : Wrong) (f : Found (first_of k) 0 0 (words_of text) x) → f.many ≡ x.word
its_word k text x f = omega (arith, f.word)

pub is_first : (k : Kind) (text : List ℕ) (o : Option Wrong) → o ≡ wrong_in (first_of k) 0 0 (words_of text) → IfSome o (λ w. IsFirstWrong k (words_of text) w.word)
is_first k text None e = tt
is_first k text (Some x) e = let f = found (first_of k) 0 0 (words_of text) x (sym e) in subst (IsFirstWrong k (words_of text)) (its_word k text x f) (first k (words_of text) x f)

pub begins : (k : Kind) (text : List ℕ) (o : Option Wrong) → o ≡ wrong_in (first_of k) 0 0 (words_of text) → IfSome o (λ w. w.start ≡ offset_of w.word (words_of text))
begins k text None e = tt
begins k text (Some x) e = let f = found (first_of k) 0 0 (words_of text) x (sym e) in subst (λ (i : ℕ). x.start ≡ offset_of i (words_of text)) (its_word k text x f) (omega (arith, f.start))

pub finishes_at : (k : Kind) (text : List ℕ) (o : Option Wrong) → o ≡ wrong_in (first_of k) 0 0 (words_of text) → IfSome o (λ w. w.end ≡ ends_at w.word (words_of text))
finishes_at k text None e = tt
finishes_at k text (Some x) e = let f = found (first_of k) 0 0 (words_of text) x (sym e) in subst (λ (i : ℕ). x.end ≡ ends_at i (words_of text)) (its_word k text x f) (omega (arith, f.finish))

pub awaited : (k : Kind) (text : List ℕ) (o : Option Wrong) → o ≡ wrong_in (first_of k) 0 0 (words_of text) → IfSome o (λ w. Awaits k (take w.word (words_of text)) w.next)
awaited k text None e = tt
awaited k text (Some x) e = let f = found (first_of k) 0 0 (words_of text) x (sym e) in subst (λ (i : ℕ). Awaits k (take i (words_of text)) x.next) (its_word k text x f) (awaits k (take f.many (words_of text)) x.next f.front)

-- nothing is wrong just where it is a line
pub is_line_if_none : (k : Kind) (text : List ℕ) (o : Option Wrong) (b : Bool) → o ≡ wrong_in (first_of k) 0 0 (words_of text) → not b ≡ is_some o → b ≡ is_line k (words_of text)
is_line_if_none k text None true e h = sym (is_right k text None e)
is_line_if_none k text None false e h = absurd cc
is_line_if_none k text (Some x) true e h = absurd cc
is_line_if_none k text (Some x) false e h = sym (lines_are_run k (words_of text) ∙ unended (first_of k) 0 0 (words_of text) x (found (first_of k) 0 0 (words_of text) x (sym e)))
