-- A page of HTML to step through a trace (the HTML Standard).
--
-- *The page.* Its title, which is its heading too, and tells of the lines that it shows; its data, which a script shows,
-- and its picture, each once. What comes before, between and after them is the same in every page.
use Rattle.std.specs.Prelude.{ℕ, ◌≡◌, List, [], ◌∷◌, ◌++◌, Option, Result, Ok, Err}
use Rattle.std.specs.List.{concat}
use Rattle.std.specs.Io.KnownBytes.{Appends}
use Rattle.streams.specs.Leaves.{AppendsFront}
use Rattle.verdict.specs.declared.checking.Finding.{Finding}
use Rattle.verdict.specs.declared.told.Told.{Told}
use Rattle.picture.specs.declared.drawing.Unwritten.{Unwritten}
use Rattle.picture.specs.declared.drawing.Unwritten.TheVariants.{OutOfMemory, Failed}
use Rattle.picture.specs.Names.{Called}
use Rattle.picture.specs.Svg.{svg_drawn}
use Rattle.page.specs.declared.frame.TheConstants.{BEHIND, BETWEEN, BOTTOM, STATE, STYLE, TOP}
use Rattle.page.specs.declared.script.TheConstants.{SCRIPT}
use Rattle.page.specs.declared.stories.Source.TheVariants.{Trace, History}
use Rattle.page.specs.Data.{data_text, history_data, history_shown, lines_shown}
use Rattle.page.specs.Stories.{title_text}

-- up to the picture, with this title and these data
abbrev pub before_picture : List ℕ → List ℕ → List ℕ
before_picture title states = concat
    (TOP.now ∷ title ∷ STYLE.now ∷ title ∷ STATE.now ∷ states ∷ BETWEEN.now ∷ SCRIPT.now ∷ BEHIND.now ∷ [])

abbrev pub behind_picture : List ℕ
behind_picture = concat (BOTTOM.now ∷ [])

abbrev pub page_of : List ℕ → List ℕ → List ℕ → List ℕ
page_of title states picture = before_picture title states ++ (picture ++ behind_picture)

-- with the picture of this trace
abbrev pub page_with : Called → Told → List ℕ → List ℕ → List ℕ
page_with n t title states =
    page_of title states (svg_drawn n t.head.threads t.head.mutexes t.lines.items t.last)

abbrev pub page_text : Called → Told → Finding → List ℕ
page_text n t f = page_with n t (title_text n Trace (lines_shown t f)) (data_text n t f)

-- of a trace that shows a history, of which this is said, if it is illegal
abbrev pub history_page_text : Called → Told → Option (List ℕ) → List ℕ
history_page_text n t why =
    page_with n t (title_text n History (history_shown t why)) (history_data n t why)

-- the page was written; or memory was refused for it, before its first byte; or a write failed after a beginning of it
abbrev pub LeavesPage : {X : Type 0} → Option (List ℕ) → Option (List ℕ) → Result X Unwritten → List ℕ → Type 0
LeavesPage old new (Ok x) text = Appends old new text
LeavesPage old new (Err OutOfMemory) text = new ≡ old
LeavesPage old new (Err Failed) text = AppendsFront old new text
