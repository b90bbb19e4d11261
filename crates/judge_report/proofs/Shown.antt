-- What is known of a history that a trace shows.
use Rattle.std.proofs.Common.{◌≡◌, ℕ, ◌+◌, ◌<◌, List, [], ◌∷◌, ◌++◌, length, reverse, take, get_or, Option, Some, None, Result, Ok, Err, IfOk, refl, sym, ap, subst, ◌∙◌, arith}
use Rattle.std.specs.Prelude.{Vec}
use Rattle.std.specs.declared.alloc.Global.{Global}
use Rattle.std.proofs.lemmas.List.{length-reverse, reverse-append, take_more}
use Rattle.lockword.specs.declared.reply.Reply.{Reply}
use Rattle.facts.specs.declared.fact.Line.{Line}
use Rattle.facts.specs.declared.fact.Fact.{Fact}
use Rattle.histories.specs.declared.entry.Entry.{Entry}
use Rattle.histories.specs.declared.entry.Entry.TheVariants.{Told, Doom}
use Rattle.histories.specs.declared.entry.HistoryLine.{HistoryLine}
use Rattle.certificates.specs.Certificates.{trace_of}
use Rattle.judge.specs.declared.judging.Judgement.{Judgement}
use Rattle.judge.specs.declared.judging.Judgement.TheVariants.{Legal, Illegal, Undecided}
use Rattle.judge.specs.declared.reason.Reason.{Reason}
use Rattle.judge.specs.Judgements.{IsJudged}
use Rattle.judge_report.specs.declared.reading.History.{History}
use Rattle.judge_report.specs.declared.tracing.Untraced.{Untraced}
use Rattle.judge_report.specs.Heard.{heard_of, history_read}
use Rattle.judge_report.specs.Texts.{illegal_text}
use Rattle.judge_report.specs.Traces.{IsExplained, IsUnshown, IsUntraced, lines_of, with_step}
use Rattle.judge_report.proofs.Saying.{illegal_so, is_legal, is_legal_before}

-- ---- the lines that steps tell

abbrev numbered : ℕ → Fact → Line
numbered n f = record { event = n; fact = f }

one_line : (xs : List Entry) (e : Entry) → lines_of (xs ++ e ∷ []) ≡ with_step (lines_of xs) e
one_line xs (Told f) =
    let ls = trace_of (reverse xs) in
    ap (λ (es : List Entry). reverse (trace_of es)) (reverse-append xs (Told f ∷ []))
    ∙ reverse-append (numbered (length ls + 1) f ∷ []) ls
    ∙ ap (λ (n : ℕ). reverse ls ++ numbered (n + 1) f ∷ []) (sym (length-reverse ls))
one_line xs (Doom t) = ap (λ (es : List Entry). reverse (trace_of es)) (reverse-append xs (Doom t ∷ []))

pub one_step : (steps : List Entry) (i : ℕ) (e : Entry) (before after : List Line) → i < length steps → e ≡ get_or steps i e → before ≡ lines_of (take i steps) → after ≡ with_step before e → after ≡ lines_of (take (i + 1) steps)
one_step steps i e before after lt is so more =
    more ∙ ap (λ (ls : List Line). with_step ls e) so ∙ sym (one_line (take i steps) e)
    ∙ ap (λ (x : Entry). lines_of (take i steps ++ x ∷ [])) is ∙ ap lines_of (sym (take_more steps i e lt))

-- ---- what is said

pub legal_shown : (h : History) (j : Judgement) (steps : Vec Entry Global) → j ≡ Legal steps → IsJudged h.head h.lines.items j → IsExplained (heard_of h) steps.items None
legal_shown h j steps is judged = is_legal h steps.items (subst (IsJudged h.head h.lines.items) is judged)

pub illegal_shown : (h : History) (j : Judgement) (at : ℕ) (why : Reason) (possible : Vec Reply Global) (steps : Vec Entry Global) (l : HistoryLine) (said : List ℕ) → j ≡ Illegal at why possible steps → IsJudged h.head h.lines.items j → l ≡ get_or h.lines.items at l
    → said ≡ illegal_text (take at h.lines.items) l why possible.items → IsExplained (heard_of h) steps.items (Some said)
illegal_shown h j at why possible steps l said is judged line same =
    let so = illegal_so h at l why possible.items steps.items (subst (IsJudged h.head h.lines.items) is judged) line in
    (l, why, possible.items, so.0, same ∙ ap (λ (ls : List HistoryLine). illegal_text ls l why possible.items) so.1)

-- ---- why there is no trace

pub untraced_so : (h : History) (bytes : List ℕ) (j : Judgement) (e : Untraced) → history_read bytes ≡ Ok (heard_of h) → IsUnshown (heard_of h) j e → IsUntraced bytes e
untraced_so h bytes (Legal steps) e read so = subst (IsUntraced bytes) (sym so) tt
untraced_so h bytes (Illegal at why possible steps) e read so = subst (IsUntraced bytes) (sym so) tt
untraced_so h bytes (Undecided at) e read so = subst (IsUntraced bytes) (sym so.1) (heard_of h, read, so.2)
