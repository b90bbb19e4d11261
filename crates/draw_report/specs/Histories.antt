-- What the program did with the bytes of a history.
--
-- *The picture of a history.* A trace shows the history, and its lines are drawn (`IsShownOf`): of an illegal history the
-- last is the illegal line. Below them is what the judge of histories says of it.
use Rattle.std.specs.Prelude.{ℕ, ◌≡◌, ◌+◌, ◌⊎◌, ◌&&◌, Bool, true, false, List, length, nat_le, nat_lt, if◌then◌else◌, Option, option_map, Err}
use Rattle.std.specs.List.{list_all}
use Rattle.std.specs.Io.KnownBytes.{Appends}
use Rattle.histories.specs.declared.entry.HistoryLine.{HistoryLine}
use Rattle.facts.specs.declared.fact.Fact.{Fact}
use Rattle.facts.specs.declared.fact.Fact.TheVariants.{Death, Point}
use Rattle.facts.specs.declared.fact.Line.{Line}
use Rattle.facts.specs.Facts.{thread_of}
use Rattle.verdict.specs.Limits.{max_conditions, max_mutexes}
use Rattle.judge_report.specs.declared.tracing.Explained.{Explained}
use Rattle.judge_report.specs.declared.tracing.Untraced.{Untraced}
use Rattle.judge_report.specs.declared.tracing.Untraced.TheVariants as untraced
use Rattle.judge_report.specs.Heard.{history_read}
use Rattle.judge_report.specs.Traces.{IsShownOf, IsUntraced}
use Rattle.picture.specs.declared.drawing.Unwritten.{Unwritten}
use Rattle.picture.specs.declared.drawing.Unwritten.TheVariants as unwritten
use Rattle.script.specs.Scope.{Scope}
use Rattle.draw_report.specs.declared.asking.Kind.{Kind}
use Rattle.draw_report.specs.declared.history.Drawing.{Drawing}
use Rattle.draw_report.specs.declared.messages.Excess.{Excess}
use Rattle.draw_report.specs.declared.messages.Excess.TheVariants.{Mutexes, Conditions, Uncounted}
use Rattle.draw_report.specs.declared.messages.Failure.{Failure}
use Rattle.draw_report.specs.declared.messages.Failure.TheVariants.{Usage, CannotRead, CannotWrite, OutOfMemory}
use Rattle.draw_report.specs.declared.messages.Failure.TheVariants.{Script, Unlike, UnlikeHistory, Trace, History, Undecided, Unfit}
use Rattle.draw_report.specs.Names.{called_by, is_like}
use Rattle.draw_report.specs.Served.{Judged, IsUndrawn, OfHistory, picture}

-- ---- what can be drawn

abbrev pub is_mutex : ℕ → Fact → Bool
is_mutex mutexes (Point d) = nat_lt d.mutex mutexes
is_mutex mutexes (Death t m) = nat_lt m mutexes
is_mutex mutexes f = true

-- a line has a number, and names a thread and a mutex that a first line counts
abbrev pub is_inside : ℕ → ℕ → Line → Bool
is_inside threads mutexes l =
    nat_le 1 l.event && (nat_lt (thread_of l.fact) (threads + 1) && is_mutex mutexes l.fact)

-- a trace may have as many mutexes and condition variables, and its lines name no others
abbrev pub fits : Explained → Bool
fits x = nat_le x.head.mutexes max_mutexes && (nat_le x.head.conditions max_conditions
    && list_all (is_inside x.head.threads x.head.mutexes) x.lines.items)

-- what one that doesn't fit has too much of
abbrev pub excess_of : Explained → Excess
excess_of x = if nat_lt max_mutexes x.head.mutexes then Mutexes
    else (if nat_lt max_conditions x.head.conditions then Conditions else Uncounted)

-- the trace that shows a history, with as many things and the same lines, and what is said of the history
pub record IsDrawingOf (x : Explained) (d : Drawing) : Type 0 where
  pub threads : d.trace.head.threads ≡ x.head.threads
  pub mutexes : d.trace.head.mutexes ≡ x.head.mutexes
  pub conditions : d.trace.head.conditions ≡ x.head.conditions
  pub lines : d.trace.lines.items ≡ x.lines.items
  pub last : d.trace.last ≡ length x.lines.items
  pub said : option_map (λ v. v.items) d.said ≡ option_map (λ v. v.items) x.said

abbrev pub judged_in : Drawing → Judged
judged_in d = OfHistory (option_map (λ v. v.items) d.said)

-- the bytes are a history, which begins as a run of the script does, if there is one; and this is all of its picture,
-- with the script's names
pub record IsHistoryPicture (kind : Kind) (script : Option Scope) (bytes p : List ℕ) : Type 0 where
  pub history : Explained
  pub shown : IsShownOf bytes history
  pub fit : fits history ≡ true
  pub drawing : Drawing
  pub of : IsDrawingOf history drawing
  pub like : is_like script drawing.trace.head ≡ true
  pub is : p ≡ picture kind (called_by script) drawing.trace (judged_in drawing)

-- why it has no drawing: a trace may not have that much of something, or memory
abbrev pub IsUndrawable : Explained → Failure → Type 0
IsUndrawable x OutOfMemory = Unit {0}
IsUndrawable x (Unfit e) = (e ≡ excess_of x) × (fits x ≡ false)
IsUndrawable x f = ⊥

-- ---- what was drawn

-- which was written, or not all of it
abbrev pub DrawsHistory : Kind → Option Scope → Option (List ℕ) → Option (List ℕ) → List ℕ → Type 0
DrawsHistory kind script old new bytes = (p : List ℕ) × IsHistoryPicture kind script bytes p × Appends old new p

abbrev pub HistoryUndrawn : Kind → Option Scope → Option (List ℕ) → Option (List ℕ) → List ℕ → Unwritten → Type 0
HistoryUndrawn kind script old new bytes u =
    (p : List ℕ) × IsHistoryPicture kind script bytes p × IsUndrawn kind p old new u

-- the bytes are a history that begins otherwise than a run of the script
abbrev pub IsHistoryUnlike : Option Scope → List ℕ → Type 0
IsHistoryUnlike script bytes = (x : Explained) × IsShownOf bytes x × (d : Drawing) × IsDrawingOf x d
    × (is_like script d.trace.head ≡ false)

-- it has more of this than a trace may have
abbrev pub IsUnfit : List ℕ → Excess → Type 0
IsUnfit bytes e = (x : Explained) × IsShownOf bytes x × (e ≡ excess_of x) × (fits x ≡ false)

-- it isn't decided at the line with this number, of this event
abbrev pub IsUndecided : List ℕ → ℕ → ℕ → Type 0
IsUndecided bytes line event = (l : HistoryLine) × (l.number ≡ line) × (l.event ≡ event)
    × IsUntraced bytes (untraced.Undecided l)

-- why it wasn't drawn, or not all: before the first byte its fault, that it isn't decided, has too much of something or
-- isn't the script's, or memory; or a write that failed, after a beginning, or memory for names or the picture
abbrev pub FailsHistory : Kind → Option Scope → List ℕ → Option (List ℕ) → Option (List ℕ) → Failure → Type 0
FailsHistory kind script bytes old new Usage = ⊥
FailsHistory kind script bytes old new CannotRead = ⊥
FailsHistory kind script bytes old new CannotWrite = HistoryUndrawn kind script old new bytes unwritten.Failed
FailsHistory kind script bytes old new OutOfMemory =
    (new ≡ old) ⊎ HistoryUndrawn kind script old new bytes unwritten.OutOfMemory
FailsHistory kind script bytes old new (Script e) = ⊥
FailsHistory kind script bytes old new Unlike = ⊥
FailsHistory kind script bytes old new UnlikeHistory = (new ≡ old) × IsHistoryUnlike script bytes
FailsHistory kind script bytes old new (Trace e) = ⊥
FailsHistory kind script bytes old new (History e) = (new ≡ old) × (history_read bytes ≡ Err e)
FailsHistory kind script bytes old new (Undecided line event) = (new ≡ old) × IsUndecided bytes line event
FailsHistory kind script bytes old new (Unfit e) = (new ≡ old) × IsUnfit bytes e

-- what a history without a trace is reported as
abbrev pub untraced_by : Untraced → Failure
untraced_by untraced.OutOfMemory = OutOfMemory
untraced_by (untraced.Ill at) = History at
untraced_by (untraced.Undecided line) = Undecided line.number line.event
