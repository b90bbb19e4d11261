-- The trace of a history, as it is written and drawn.
--
-- *The trace of a history.* Of a legal one it is that of a certificate. Of an illegal one it is that of a certificate of
-- the lines before the illegal line, with that line at its end. An undecided one has none.
use Rattle.std.specs.Prelude.{ℕ, ◌≡◌, ◌+◌, ◌⊎◌, Bool, List, [], ◌∷◌, ◌++◌, length, reverse}
use Rattle.std.specs.Prelude.{Option, Some, None, option_map, Ok, Err}
use Rattle.std.specs.Io.KnownBytes.{Appends}
use Rattle.lockword.specs.declared.reply.Reply.{Reply}
use Rattle.histories.specs.declared.entry.Entry.{Entry}
use Rattle.histories.specs.declared.entry.HistoryLine.{HistoryLine}
use Rattle.facts.specs.declared.fact.Line.{Line}
use Rattle.histories.specs.declared.entry.Entry.TheVariants.{Told, Doom}
use Rattle.certificates.specs.Certificates.{trace_of}
use Rattle.judge.specs.declared.judging.Judgement.{Judgement}
use Rattle.judge.specs.declared.judging.Judgement.TheVariants.{Legal, Illegal}
use Rattle.judge.specs.declared.judging.Judgement.TheVariants as judged
use Rattle.judge.specs.declared.reason.Reason.{Reason}
use Rattle.windows.specs.Texts.{certificate_text}
use Rattle.judge_report.specs.declared.reading.ReadFault.{ReadFault}
use Rattle.judge_report.specs.declared.reading.ReadFault.TheVariants as read
use Rattle.judge_report.specs.declared.tracing.Explained.{Explained}
use Rattle.judge_report.specs.declared.tracing.Untraced.{Untraced}
use Rattle.judge_report.specs.declared.tracing.Untraced.TheVariants.{OutOfMemory, Ill, Undecided}
use Rattle.judge_report.specs.Asked.{Whole}
use Rattle.judge_report.specs.Heard.{Heard, history_read}
use Rattle.judge_report.specs.Kept.{IsWritten}
use Rattle.judge_report.specs.Said.{IsIllegal, IsLegal, IsLegalBefore}
use Rattle.judge_report.specs.Served.{Serves}
use Rattle.judge_report.specs.Texts.{illegal_text, undecided_text}

-- the text is that of a certificate of the whole history
pub record IsWholeTrace (k : Heard) (text : List ℕ) : Type 0 where
  pub steps : List Entry
  pub legal : IsLegal k steps
  pub is : text ≡ certificate_text k.head steps

-- it is that of steps which show the lines before the illegal one, and end with it
pub record IsTraceUpTo (k : Heard) (text : List ℕ) : Type 0 where
  pub line : HistoryLine
  pub why : Reason
  pub possible : List Reply
  pub steps : List Entry
  pub illegal : IsIllegal k line why possible steps
  pub is : text ≡ certificate_text k.head steps

abbrev pub IsTrace : Heard → List ℕ → Type 0
IsTrace k text = IsWholeTrace k text ⊎ IsTraceUpTo k text

-- the bytes are a history, and this is its trace
abbrev pub IsTraceOf : List ℕ → List ℕ → Type 0
IsTraceOf bytes text = (k : Heard) × (history_read bytes ≡ Ok k) × IsTrace k text

-- ---- the trace that is drawn

-- the lines of the trace that steps are, in their order
abbrev pub lines_of : List Entry → List Line
lines_of steps = reverse (trace_of (reverse steps))

-- these and the line that a step tells, if it tells one
abbrev pub with_step : List Line → Entry → List Line
with_step ls (Told f) = ls ++ (record { event = length ls + 1; fact = f }) ∷ []
with_step ls (Doom t) = ls

-- these steps are a certificate of a legal history; or they show an illegal one up to its illegal line, which is the last,
-- and this is what the program says of it
abbrev pub IsExplained : Heard → List Entry → Option (List ℕ) → Type 0
IsExplained k steps None = IsLegal k steps
IsExplained k steps (Some said) = (line : HistoryLine) × (why : Reason) × (possible : List Reply)
    × (is : IsIllegal k line why possible steps)
    × (said ≡ illegal_text (reverse is.first.before.earlier) line why possible)

-- a trace shows a history so, and this is said of it
pub record IsShown (k : Heard) (x : Explained) : Type 0 where
  pub head : x.head ≡ k.head
  pub steps : List Entry
  pub lines : x.lines.items ≡ lines_of steps
  pub explained : IsExplained k steps (option_map (λ v. v.items) x.said)

-- the bytes are a history, which is shown so
abbrev pub IsShownOf : List ℕ → Explained → Type 0
IsShownOf bytes x = (k : Heard) × (history_read bytes ≡ Ok k) × IsShown k x

-- why a history that was judged so isn't shown: memory was needed; or it isn't decided at this line, before which it is
-- legal
abbrev pub IsUnshown : Heard → Judgement → Untraced → Type 0
IsUnshown k (Legal steps) e = e ≡ OutOfMemory
IsUnshown k (Illegal at why possible steps) e = e ≡ OutOfMemory
IsUnshown k (judged.Undecided at) e = (line : HistoryLine) × (e ≡ Undecided line) × IsLegalBefore k line

-- and why these bytes aren't: they may have a fault, too
abbrev pub IsUntraced : List ℕ → Untraced → Type 0
IsUntraced bytes OutOfMemory = Unit {0}
IsUntraced bytes (Ill f) = history_read bytes ≡ Err f
IsUntraced bytes (Undecided line) = (k : Heard) × (history_read bytes ≡ Ok k) × IsLegalBefore k line

-- what a fault of reading bytes is reported as
abbrev pub unread_by : ReadFault → Untraced
unread_by read.Failed = OutOfMemory
unread_by read.Memory = OutOfMemory
unread_by (read.Ill at) = Ill at

-- ---- what `--trace` writes

-- what was written to the file of this name is the trace of the history that the bytes are; or the history isn't decided,
-- which is reported, and the file is left empty
abbrev pub WritesTrace : (List ℕ → Option (List ℕ) → Type 0) → (List ℕ → Option (List ℕ) → Type 0) → List ℕ → List ℕ
    → Option (List ℕ) → Option (List ℕ) → Type 0
WritesTrace Makes Fills out bytes old new =
    ((text : List ℕ) × IsTraceOf bytes text × IsWritten Makes Fills out text)
    ⊎ ((line : HistoryLine) × IsUntraced bytes (Undecided line) × Appends old new (undecided_text line)
    × IsWritten Makes Fills out [])

-- with `--trace OUT` that is written, whatever else is asked for
pub record TracesAreWritten (Makes Fills : List ℕ → Option (List ℕ) → Type 0) : Type 0 where
  pub written : (waiting : Bool) (out bytes : List ℕ) (old new : Option (List ℕ)) (status : ℕ)
      → Serves Makes Fills waiting (Whole out) (Some bytes) old new status → WritesTrace Makes Fills out bytes old new
