-- What the program did with the bytes of a file: those of a trace, or of a history.
--
-- *Histories.* A file that begins with `history ` is one.
use Rattle.std.specs.Prelude.{ℕ, ◌≡◌, ◌≢◌, ◌≤◌, ◌<◌, ◌+◌, ◌⊎◌, Bool, true, false, List, ◌∷◌, ◌++◌, All, codes, length, nat_eq, nat_lt}
use Rattle.std.specs.Prelude.{Option, Some, None, Ok, if◌then◌else◌}
use Rattle.std.specs.List.{list_all, starts_with}
use Rattle.std.specs.Io.KnownBytes.{Appends, Consumes, IsAtEnd}
use Rattle.histories.specs.declared.entry.Entry.{Entry}
use Rattle.histories.specs.declared.entry.HistoryLine.{HistoryLine}
use Rattle.histories.specs.declared.head.Head.{Head}
use Rattle.histories.specs.Written.{head_line}
use Rattle.verdict.specs.declared.told.Told.{Told}
use Rattle.verdict.specs.Limits.{max_bytes}
use Rattle.windows.specs.Texts.{certificate_text}
use Rattle.judge_report.specs.declared.tracing.Explained.{Explained}
use Rattle.judge_report.specs.declared.tracing.Untraced.TheVariants as untraced
use Rattle.judge_report.specs.Heard.{Heard, history_read}
use Rattle.judge_report.specs.Texts.{undecided_text}
use Rattle.judge_report.specs.Traces.{IsExplained, IsTrace, lines_of}
use Rattle.page.specs.Pages.{history_page_text}
use Rattle.picture.specs.Drawn.{drawn}
use Rattle.picture.specs.Names.{Called}
use Rattle.picture.specs.Svg.{Marked, svg_marked}
use Rattle.script.specs.Scope.{Scope}
use Rattle.draw_report.specs.declared.asking.Kind.{Kind}
use Rattle.draw_report.specs.declared.asking.Kind.TheVariants.{Text, Svg, Html}
use Rattle.draw_report.specs.declared.messages.Failure.{Failure}
use Rattle.draw_report.specs.declared.messages.Failure.TheVariants.{Unfit}
use Rattle.draw_report.specs.Histories.{DrawsHistory, FailsHistory, excess_of, fits, is_inside, untraced_by}
use Rattle.draw_report.specs.Messages.{failure_text}
use Rattle.draw_report.specs.Names.{called_by}
use Rattle.draw_report.specs.Served.{Draws, FailsDrawing, IsUnread}

-- the bytes begin as a history does; more than a trace may have are read as a trace, and found too long
abbrev pub is_history : List ℕ → Bool
is_history bytes = if nat_lt max_bytes (length bytes) then false else starts_with nat_eq bytes (codes "history ")

-- ---- files

-- what a file has was drawn, which is a history, or isn't
abbrev pub DrawsAs : Bool → Kind → Option Scope → Option (List ℕ) → Option (List ℕ) → List ℕ → Type 0
DrawsAs true kind script old new bytes = DrawsHistory kind script old new bytes
DrawsAs false kind script old new bytes = Draws kind script old new bytes

abbrev pub FailsAs : Bool → Kind → Option Scope → List ℕ → Option (List ℕ) → Option (List ℕ) → Failure → Type 0
FailsAs true kind script bytes old new f = FailsHistory kind script bytes old new f
FailsAs false kind script bytes old new f = FailsDrawing kind script bytes old new f

abbrev pub DrawsFile : Kind → Option Scope → Option (List ℕ) → Option (List ℕ) → List ℕ → Type 0
DrawsFile kind script old new bytes = DrawsAs (is_history bytes) kind script old new bytes

abbrev pub FailsFile : Kind → Option Scope → List ℕ → Option (List ℕ) → Option (List ℕ) → Failure → Type 0
FailsFile kind script bytes old new f = FailsAs (is_history bytes) kind script bytes old new f

-- all that the reader had, up to its end, is a trace or a history, and its picture was written
abbrev pub Serves : Kind → Option Scope → Option (List ℕ) → Option (List ℕ) → Option (List ℕ) → Option (List ℕ) → Type 0
Serves kind script had left old new =
    (bytes : List ℕ) × Consumes had left bytes × IsAtEnd left × DrawsFile kind script old new bytes

-- what came of a reader's bytes, which are all that it had, or more than there may be
abbrev pub Comes : Kind → Option Scope → Option (List ℕ) → Option (List ℕ) → Option (List ℕ) → Option (List ℕ) → Failure
    → Type 0
Comes kind script had left old new f = (bytes : List ℕ) × Consumes had left bytes
    × (length bytes ≤ max_bytes → IsAtEnd left) × FailsFile kind script bytes old new f

-- why a file wasn't drawn, or not all: before the first byte it couldn't be read, or memory was needed; or this came
-- of its bytes
abbrev pub Fails : Kind → Option Scope → Option (List ℕ) → Option (List ℕ) → Option (List ℕ) → Option (List ℕ) → Failure
    → Type 0
Fails kind script had left old new f = (IsUnread f × (new ≡ old)) ⊎ Comes kind script had left old new f

-- ---- the laws

-- this is the first line of a text: what comes before the first line feed, or all, if there is none
pub record IsFirstLine (text line : List ℕ) : Type 0 where
  pub rest : List ℕ
  pub cut : (text ≡ line ++ 10 ∷ rest) ⊎ (text ≡ line)
  pub whole : All (λ b. b ≢ 10) line

-- the rows of a trace as text, and the SVG picture in which this is marked
abbrev pub rows : Called → Told → List ℕ
rows n t = drawn n t.head.threads t.head.mutexes t.lines.items t.last

abbrev pub marked : Called → Told → Option Marked → List ℕ
marked n t mark = svg_marked n t.head.threads t.head.mutexes t.lines.items t.last mark

-- in a picture of this kind these lines are drawn, and of an illegal history, whose last line they end with, this is said:
-- a text ends with all of it; as SVG the row of that line is marked, the head being line 1, and its note is the first line
-- of it; a page has all of it
abbrev pub Shows : Kind → Called → Told → Option (List ℕ) → List ℕ → Type 0
Shows Text n t None p = p ≡ rows n t
Shows Text n t (Some said) p = p ≡ rows n t ++ said
Shows Svg n t None p = p ≡ marked n t None
Shows Svg n t (Some said) p = (note : List ℕ) × IsFirstLine said note
    × (p ≡ marked n t (Some (record { line = length t.lines.items + 1; note = Some note })))
Shows Html n t said p = p ≡ history_page_text n t said

-- what is drawn of a history are the lines of a trace that shows it, as the judge of histories writes one, under these
-- names, and what that judge says of the history
pub record IsDrawnAsTrace (kind : Kind) (script : Option Scope) (old new : Option (List ℕ)) (bytes : List ℕ) : Type 0 where
  pub heard : Heard
  pub read : history_read bytes ≡ Ok heard
  pub steps : List Entry
  pub trace : IsTrace heard (certificate_text heard.head steps)
  pub told : Told
  pub threads : told.head.threads ≡ heard.head.threads
  pub mutexes : told.head.mutexes ≡ heard.head.mutexes
  pub conditions : told.head.conditions ≡ heard.head.conditions
  pub lines : told.lines.items ≡ lines_of steps
  pub last : told.last ≡ length (lines_of steps)
  pub said : Option (List ℕ)
  pub explained : IsExplained heard steps said
  pub shown : List ℕ
  pub shows : Shows kind (called_by script) told said shown
  pub written : Appends old new shown

abbrev pub HistoriesAreDrawnAsTraces : Type 0
HistoriesAreDrawnAsTraces = (kind : Kind) (script : Option Scope) (bytes : List ℕ) (old new : Option (List ℕ))
    → is_history bytes ≡ true → DrawsFile kind script old new bytes → IsDrawnAsTrace kind script old new bytes

-- a history's first line says that it is one, so each is drawn as one that isn't too long; and nothing else is
pub record HistoriesAreKnown : Type 0 where
  pub known : (h : Head) (more : List ℕ) → length (head_line (codes "history") h ++ more) ≤ max_bytes
      → is_history (head_line (codes "history") h ++ more) ≡ true
  pub alone : (bytes : List ℕ) → is_history bytes ≡ true → (more : List ℕ) × (bytes ≡ codes "history " ++ more)

-- of an undecided history is said, besides that it can't be drawn, what the judge of histories says in its first line
abbrev pub UndecidedIsSaid : Type 0
UndecidedIsSaid = (file : List ℕ) (l : HistoryLine) → (said rest : List ℕ) × (undecided_text l ≡ said ++ rest)
    × (failure_text file (untraced_by (untraced.Undecided l)) ≡ codes "rfx-draw: cannot draw the history: " ++ said)

-- a history that has more mutexes or condition variables than a trace may have doesn't fit, and that is said of its first
-- line; each other one fits whose lines name only what that line counts
pub record ExcessIsSaid : Type 0 where
  pub mutexes : (file : List ℕ) (x : Explained) → 4096 < x.head.mutexes → (fits x ≡ false)
      × (failure_text file (Unfit (excess_of x))
      ≡ codes "rfx-draw: cannot draw the history: line 1: more than 4096 mutexes\n")
  pub conditions : (file : List ℕ) (x : Explained) → x.head.mutexes ≤ 4096 → 256 < x.head.conditions → (fits x ≡ false)
      × (failure_text file (Unfit (excess_of x))
      ≡ codes "rfx-draw: cannot draw the history: line 1: more than 256 condition variables\n")
  pub others : (x : Explained) → x.head.mutexes ≤ 4096 → x.head.conditions ≤ 256
      → fits x ≡ list_all (is_inside x.head.threads x.head.mutexes) x.lines.items
