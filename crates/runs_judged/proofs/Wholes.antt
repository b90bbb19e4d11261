-- The text of a whole trace is read back.
use Rattle.std.proofs.Common.{◌≡◌, ℕ, ◌+◌, ◌<◌, ◌≤◌, ◌==◌, Bool, true, false, Result, Ok, Err, List, [], ◌∷◌, ◌++◌, map, length, append_assoc, append-nil, refl, sym, ap, ◌∙◌, subst, arith}
use Rattle.std.specs.Prelude.{if◌then◌else◌, nat_lt, reverse}
use Rattle.std.specs.List.{concat}
use Rattle.std.specs.Str.{is_utf8}
use Rattle.std.proofs.lemmas.Str.Ascii.{IsAscii-from_all}
use Rattle.std.proofs.lemmas.Str.{IsUtf8-from_ascii, is_utf8-from_IsUtf8}
use Rattle.std.proofs.lemmas.Bool.Decides.{nat_tests}
use Rattle.lines.specs.Lines.{lines_of, bad_line}
use Rattle.lines.specs.Faults.{◌>>=◌}
use Rattle.lines.proofs.Cutting.{one_or_more}
use Rattle.facts.specs.declared.fact.Line.{Line}
use Rattle.facts.specs.Orders.{Each}
use Rattle.verdict.specs.declared.head.Head.{Head}
use Rattle.verdict.specs.declared.fault.Fault.{Fault}
use Rattle.verdict.specs.declared.fault.Fault.TheVariants.{TooLong, NotUtf8}
use Rattle.verdict.specs.Limits.{max_bytes, max_events, max_conditions}
use Rattle.verdict.specs.Reading.{IsHead, met_at, fault_at, head_read, lines_read, text_read, trace_read}
use Rattle.verdict.proofs.Lines.{goes_told, goes_end, ended_empty}
use Rattle.texts.specs.Text.{head_line, line_text, end_line}
use Rattle.runs_judged.proofs.Spacing.{EachByte, each_all, bytes_append, spaced, ended, first_line, ended_ascii}
use Rattle.runs_judged.proofs.ReadBack.{ReadsBack, head_words, head_text, head_are, head_back, end_words, end_text, end_are, end_back}
use Rattle.runs_judged.proofs.Fitting.{onto, onto_none}

-- the lines' texts, and the last line's
abbrev tail_text : List Line → ℕ → List ℕ
tail_text ls n = concat (map line_text ls) ++ end_line n

module _ (h : Head) (n : ℕ) (most : n ≤ max_events) where
  tail_read : (k : ℕ) (told ls : List Line) → Each (ReadsBack h) ls → lines_read k h told (lines_of (tail_text ls n)) ≡ Ok (record { head = h; told = onto ls told; last = n })
  tail_read k told [] back = goes_end k h told n (spaced (end_words n)) (tail_text [] n) [] _ cut (end_back h n most) refl ∙ ended_empty (k + 1) h told n [] refl
    where
      cut : lines_of (tail_text [] n) ≡ spaced (end_words n) ∷ lines_of []
      cut = ap lines_of (end_text n ∙ sym (append-nil (ended (end_words n)))) ∙ first_line (end_words n) [] (end_are n most)
  tail_read k told (l ∷ ls) back =
      sym (goes_told k h told l (spaced back.0.words) (tail_text (l ∷ ls) n) (tail_text ls n) _ cut back.0.read refl) ∙ tail_read (k + 1) (l ∷ told) ls back.1
    where
      cut : lines_of (tail_text (l ∷ ls) n) ≡ spaced back.0.words ∷ lines_of (tail_text ls n)
      cut = ap lines_of (append_assoc (line_text l) (concat (map line_text ls)) (end_line n) ∙ ap (λ (bs : List ℕ). bs ++ tail_text ls n) back.0.text) ∙ first_line back.0.words (tail_text ls n) back.0.are

  tail_ascii : (ls : List Line) → Each (ReadsBack h) ls → EachByte (λ b. b < 128) (tail_text ls n)
  tail_ascii [] back = subst (EachByte (λ b. b < 128)) (sym (end_text n)) (ended_ascii (end_words n) (end_are n most))
  tail_ascii (l ∷ ls) back =
      subst (EachByte (λ b. b < 128)) (sym (append_assoc (line_text l) (concat (map line_text ls)) (end_line n)))
      (bytes_append (λ b. b < 128) (line_text l) (tail_text ls n) (subst (EachByte (λ b. b < 128)) (sym back.0.text) (ended_ascii back.0.words back.0.are)) (tail_ascii ls back.1))

-- a first line, and others after it
first_of : (text : List ℕ) (ls : List (List ℕ)) → 1 ≤ length ls → text_read (text ∷ ls) ≡ (met_at 1 (head_read text) >>= λ h. lines_read 2 h [] ls)
first_of text [] long = absurd (omega (arith, long))
first_of text (l ∷ ls) long = refl

abbrev pub trace_text : Head → List Line → ℕ → List ℕ
trace_text h ls n = head_line h.threads h.mutexes h.conditions ++ tail_text ls n

-- the whole text, where it isn't too long
pub trace_back : (h : Head) (ls : List Line) (n : ℕ) → IsHead h → h.conditions ≤ max_conditions → n ≤ max_events → Each (ReadsBack h) ls → length (trace_text h ls n) ≤ max_bytes
    → trace_read (trace_text h ls n) ≡ Ok (record { head = h; told = reverse ls; last = n })
trace_back h ls n is few most back short =
    ap (λ (b : Bool). if b then Err (fault_at 1 TooLong) else (if is_utf8 (trace_text h ls n) then text_read (lines_of (trace_text h ls n)) else Err (fault_at (bad_line (trace_text h ls n)) NotUtf8))) fits
    ∙ ap (λ (b : Bool). if b then text_read (lines_of (trace_text h ls n)) else Err (fault_at (bad_line (trace_text h ls n)) NotUtf8)) valid
    ∙ ap text_read cut
    ∙ first_of (spaced (head_words h)) (lines_of (tail_text ls n)) (one_or_more (λ b. b == 10) (tail_text ls n))
    ∙ ap (λ (r : Result Head Fault). met_at 1 r >>= λ g. lines_read 2 g [] (lines_of (tail_text ls n))) (head_back h is few)
    ∙ tail_read h n most 2 [] ls back
    ∙ ap (λ (told : List Line). Ok (record { head = h; told = told; last = n })) (onto_none ls)
  where
    fits : nat_lt max_bytes (length (trace_text h ls n)) ≡ false
    fits = grind (arith, nat_tests)

    ascii : EachByte (λ b. b < 128) (trace_text h ls n)
    ascii = bytes_append (λ b. b < 128) (head_line h.threads h.mutexes h.conditions) (tail_text ls n) (subst (EachByte (λ b. b < 128)) (sym (head_text h)) (ended_ascii (head_words h) (head_are h is few))) (tail_ascii h n most ls back)

    valid : is_utf8 (trace_text h ls n) ≡ true
    valid = is_utf8-from_IsUtf8 (trace_text h ls n) (IsUtf8-from_ascii (trace_text h ls n) (IsAscii-from_all (trace_text h ls n) (each_all (λ b. b < 128) (trace_text h ls n) ascii)))

    cut : lines_of (trace_text h ls n) ≡ spaced (head_words h) ∷ lines_of (tail_text ls n)
    cut = ap (λ (bs : List ℕ). lines_of (bs ++ tail_text ls n)) (head_text h) ∙ first_line (head_words h) (tail_text ls n) (head_are h is few)
