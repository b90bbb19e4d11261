-- What the program did with the bytes of a trace.
use Rattle.std.specs.Prelude.{ℕ, ◌≡◌, ◌+◌, ◌⊎◌, ⊤, true, false, List, [], ◌∷◌, ◌++◌, length, codes, decimal}
use Rattle.std.specs.Prelude.{Option, Some, None, option_map, Result, Ok, Err, MatchResult}
use Rattle.std.specs.List.{concat}
use Rattle.std.specs.Io.KnownBytes.{Appends}
use Rattle.streams.specs.Leaves.{AppendsFront}
use Rattle.streams.specs.declared.reading.ReadFault.{ReadFault}
use Rattle.streams.specs.declared.reading.ReadFault.TheVariants as read
use Rattle.verdict.specs.declared.told.Told.{Told}
use Rattle.verdict.specs.Reading.{trace_read}
use Rattle.verdict.specs.Told.{Gives, IsWithin, trace_of}
use Rattle.verdict.specs.declared.checking.Finding.{Finding}
use Rattle.verdict.specs.declared.checking.Finding.TheVariants.{Legal, Illegal}
use Rattle.verdict.specs.Verdicts.{Tells}
use Rattle.page.specs.Pages.{history_page_text, page_text}
use Rattle.lines.specs.Lines.{lines_of}
use Rattle.draw_report.specs.declared.asking.Kind.{Kind}
use Rattle.draw_report.specs.declared.asking.Kind.TheVariants.{Text, Svg, Html}
use Rattle.picture.specs.declared.drawing.Unwritten.{Unwritten}
use Rattle.picture.specs.declared.drawing.Unwritten.TheVariants as unwritten
use Rattle.draw_report.specs.declared.messages.Failure.{Failure}
use Rattle.draw_report.specs.declared.messages.Failure.TheVariants.{Usage, CannotRead, CannotWrite}
use Rattle.draw_report.specs.declared.messages.Failure.TheVariants.{OutOfMemory, Script, Unlike, UnlikeHistory, Trace, History, Undecided, Unfit}
use Rattle.script.specs.Scope.{Scope}
use Rattle.picture.specs.Drawn.{drawn}
use Rattle.picture.specs.Names.{Called}
use Rattle.picture.specs.Svg.{Marked, svg_marked}
use Rattle.draw_report.specs.declared.drawing.Outcome.{Outcome}
use Rattle.draw_report.specs.declared.drawing.Outcome.TheVariants as outcome
use Rattle.draw_report.specs.Names.{called_by, is_like}

-- the failure that a fault of reading is reported as, and one of drawing: memory where memory was refused
abbrev pub failed_by : ReadFault → Failure
failed_by read.Memory = OutOfMemory
failed_by read.Failed = CannotRead

abbrev pub undrawn_by : Unwritten → Failure
undrawn_by unwritten.OutOfMemory = OutOfMemory
undrawn_by unwritten.Failed = CannotWrite

-- it says that the file couldn't be read, or that memory for its bytes was wanted
abbrev pub IsUnread : Failure → Type 0
IsUnread Usage = ⊥
IsUnread CannotRead = ⊤
IsUnread CannotWrite = ⊥
IsUnread OutOfMemory = ⊤
IsUnread (Script e) = ⊥
IsUnread Unlike = ⊥
IsUnread UnlikeHistory = ⊥
IsUnread (Trace e) = ⊥
IsUnread (History e) = ⊥
IsUnread (Undecided line event) = ⊥
IsUnread (Unfit e) = ⊥

-- ---- how what is drawn was judged

-- it is a trace, of which the judge of traces found this; or it shows a history, which is legal, or of which the judge of
-- histories says this
pub data Judged : Type 0 where
  OfTrace : Finding → Judged
  OfHistory : Option (List ℕ) → Judged

abbrev pub judged_by : Outcome → Judged
judged_by (outcome.Trace f) = OfTrace f.now
judged_by (outcome.History said) = OfHistory (option_map (λ s. s.now) said)

-- below a picture in text: which line doesn't fit, if the judge of traces found one
abbrev pub misfit_text : Finding → List ℕ
misfit_text (Legal points) = []
misfit_text (Illegal why) = concat (codes "        line " ∷ decimal why.line ∷ codes " doesn't fit those before it\n" ∷ [])

-- and all that the judge of histories says of an illegal history
abbrev pub foot_text : Judged → List ℕ
foot_text (OfTrace f) = misfit_text f
foot_text (OfHistory None) = []
foot_text (OfHistory (Some said)) = said

-- in a picture as SVG that line is marked
abbrev pub misfit_line : Finding → Option ℕ
misfit_line (Legal points) = None
misfit_line (Illegal why) = Some why.line

-- the first line of what is said
abbrev pub first_in : List (List ℕ) → List ℕ
first_in [] = []
first_in (line ∷ more) = line

abbrev pub title_line : List ℕ → List ℕ
title_line said = first_in (lines_of said)

-- of a trace that shows an illegal history and has this many lines, the last line, as line 1 is the head
abbrev pub history_mark : ℕ → List ℕ → Marked
history_mark count said = record { line = count + 1; note = Some (title_line said) }

abbrev pub trace_mark : ℕ → Marked
trace_mark line = record { line = line; note = None }

abbrev pub mark_in : ℕ → Judged → Option Marked
mark_in count (OfTrace f) = option_map trace_mark (misfit_line f)
mark_in count (OfHistory said) = option_map (history_mark count) said

-- a page says what was found
abbrev pub page_of : Called → Told → Judged → List ℕ
page_of n t (OfTrace f) = page_text n t f
page_of n t (OfHistory said) = history_page_text n t said

abbrev pub picture : Kind → Called → Told → Judged → List ℕ
picture Text n t j = drawn n t.head.threads t.head.mutexes t.lines.items t.last ++ foot_text j
picture Svg n t j =
    svg_marked n t.head.threads t.head.mutexes t.lines.items t.last (mark_in (length t.lines.items) j)
picture Html n t j = page_of n t j

-- ---- what is written

-- why not all of a picture was written: after a beginning of it; of a page nothing is written where memory was refused
abbrev pub IsBegun : List ℕ → Option (List ℕ) → Option (List ℕ) → Type 0
IsBegun p old new = (new ≡ old) ⊎ AppendsFront old new p

abbrev pub IsUndrawn : Kind → List ℕ → Option (List ℕ) → Option (List ℕ) → Unwritten → Type 0
IsUndrawn Text p old new u = IsBegun p old new
IsUndrawn Svg p old new u = IsBegun p old new
IsUndrawn Html p old new unwritten.OutOfMemory = new ≡ old
IsUndrawn Html p old new unwritten.Failed = IsBegun p old new

abbrev pub LeavesPicture : {X : Type 0} → Kind → List ℕ → Option (List ℕ) → Option (List ℕ) → Result X Unwritten → Type 0
LeavesPicture kind p old new r = MatchResult r (λ _. Appends old new p) (λ u. IsUndrawn kind p old new u)

-- ---- traces

-- of all of the trace that these bytes are
abbrev pub IsJudged : List ℕ → Finding → Type 0
IsJudged bytes f = Tells (trace_read bytes) (Ok f)

-- these bytes are a trace, which begins as a run of the script does, if there is one
pub record IsOf (script : Option Scope) (bytes : List ℕ) (t : Told) : Type 0 where
  pub reads : trace_read bytes ≡ Ok (trace_of t)
  pub within : IsWithin t
  pub like : is_like script t.head ≡ true

-- and this is all of its picture, with the script's names
pub record IsPictureOf (kind : Kind) (script : Option Scope) (bytes p : List ℕ) : Type 0 where
  pub trace : Told
  pub of : IsOf script bytes trace
  pub finding : Finding
  pub judged : IsJudged bytes finding
  pub is : p ≡ picture kind (called_by script) trace (OfTrace finding)

-- which was written, or not all of it
abbrev pub Draws : Kind → Option Scope → Option (List ℕ) → Option (List ℕ) → List ℕ → Type 0
Draws kind script old new bytes = (p : List ℕ) × IsPictureOf kind script bytes p × Appends old new p

abbrev pub DrawsNot : Kind → Option Scope → Option (List ℕ) → Option (List ℕ) → List ℕ → Unwritten → Type 0
DrawsNot kind script old new bytes u = (p : List ℕ) × IsPictureOf kind script bytes p × IsUndrawn kind p old new u

-- these bytes are a trace that begins otherwise than a run of the script
abbrev pub IsUnlike : Option Scope → List ℕ → Type 0
IsUnlike script bytes = (t : Told) × (trace_read bytes ≡ Ok (trace_of t)) × (is_like script t.head ≡ false)

-- why bytes weren't drawn, or not all: the fault that the judge of traces tells of them, or that they aren't the
-- script's, or memory, before the first byte; or a write that failed, after a beginning, or memory for names or the
-- picture
abbrev pub FailsDrawing : Kind → Option Scope → List ℕ → Option (List ℕ) → Option (List ℕ) → Failure → Type 0
FailsDrawing kind script bytes old new Usage = ⊥
FailsDrawing kind script bytes old new CannotRead = ⊥
FailsDrawing kind script bytes old new CannotWrite = DrawsNot kind script old new bytes unwritten.Failed
FailsDrawing kind script bytes old new OutOfMemory =
    (new ≡ old) ⊎ DrawsNot kind script old new bytes unwritten.OutOfMemory
FailsDrawing kind script bytes old new (Script e) = ⊥
FailsDrawing kind script bytes old new Unlike = (new ≡ old) × IsUnlike script bytes
FailsDrawing kind script bytes old new UnlikeHistory = ⊥
FailsDrawing kind script bytes old new (Trace e) = (new ≡ old) × Gives (trace_read bytes) (Err e)
FailsDrawing kind script bytes old new (History e) = ⊥
FailsDrawing kind script bytes old new (Undecided line event) = ⊥
FailsDrawing kind script bytes old new (Unfit e) = ⊥
