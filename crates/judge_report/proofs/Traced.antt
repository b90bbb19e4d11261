-- What is known of a history that has a trace, or has none.
use Rattle.std.proofs.Common.{◌≡◌, ℕ, Bool, List, Option, Some, Result, Ok, Err, IfOk, refl, inl, inr, subst, sym}
use Rattle.std.specs.Prelude.{Vec}
use Rattle.std.specs.declared.alloc.Global.{Global}
use Rattle.std.specs.Io.KnownBytes.{Appends}
use Rattle.histories.specs.declared.entry.Entry.{Entry}
use Rattle.judge.specs.declared.judging.Judgement.{Judgement}
use Rattle.judge.specs.declared.judging.Judgement.TheVariants.{Legal, Illegal, Undecided}
use Rattle.windows.specs.Texts.{certificate_text}
use Rattle.judge_report.specs.declared.reading.ReadFault.{ReadFault}
use Rattle.judge_report.specs.declared.reading.ReadFault.TheVariants as read
use Rattle.judge_report.specs.Asked.{Whole}
use Rattle.judge_report.specs.Heard.{Gives, heard_of, history_read}
use Rattle.judge_report.specs.Kept.{IsFilled}
use Rattle.judge_report.specs.Said.{IsSaid}
use Rattle.judge_report.specs.Served.{Serves}
use Rattle.judge_report.specs.Traces.{IsUntraced, TracesAreWritten, WritesTrace, unread_by}

pub unread : (bytes : List ℕ) (e : ReadFault) → Gives (history_read bytes) (Err e) → IsUntraced bytes (unread_by e)
unread bytes read.Failed gives = tt
unread bytes read.Memory gives = tt
unread bytes (read.Ill f) gives = gives

-- ---- what is written

by_judgement : (Makes Fills : List ℕ → Option (List ℕ) → Type 0) (waiting : Bool) (out bytes : List ℕ) (old new : Option (List ℕ)) (status : ℕ) (s : Serves Makes Fills waiting (Whole out) (Some bytes) old new status) (j : Judgement)
    → IsFilled Makes Fills (Whole out) s.heard j s.cuts → IsSaid waiting s.heard j s.cuts s.text → WritesTrace Makes Fills out bytes old new
by_judgement Makes Fills waiting out bytes old new status s (Legal steps) filled said =
    inl (certificate_text s.heard.head steps.items, (s.heard, s.read, inl (record { steps = steps.items; legal = said.0; is = refl })), filled.0)
by_judgement Makes Fills waiting out bytes old new status s (Illegal at why possible steps) filled said =
    inl (certificate_text s.heard.head steps.items, (s.heard, s.read, inr (record { line = said.0; why = why; possible = possible.items; steps = steps.items; illegal = said.1; is = refl })), filled.0)
by_judgement Makes Fills waiting out bytes old new status s (Undecided at) filled said =
    inr (said.0, (s.heard, s.read, said.1), subst (Appends old new) said.2 s.written, filled.0)

pub written_so : (Makes Fills : List ℕ → Option (List ℕ) → Type 0) → TracesAreWritten Makes Fills
written_so Makes Fills = record { written = λ waiting out bytes old new status s. by_judgement Makes Fills waiting out bytes old new status s s.judgement s.filled s.said }
