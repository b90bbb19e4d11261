-- The data of a page.
--
-- *Which lines a page shows.* Those after the head that fit, up to the first that doesn't; of these the first 100,000.
use Rattle.std.specs.Prelude.{ℕ, ◌+◌, ◌-◌, min, Option, Some, None, List, [], ◌∷◌, ◌++◌, length, take, codes, decimal}
use Rattle.std.specs.Prelude.{slice_get, slice_index_or}
use Rattle.std.specs.List.{concat}
use Rattle.posixmutex.specs.declared.object.Object.{Object}
use Rattle.posixmutex.specs.declared.point.Decision.{Decision}
use Rattle.posixmutex.specs.Objects.{fresh}
use Rattle.facts.specs.declared.fact.Line.{Line}
use Rattle.verdict.specs.declared.head.Head.{Head}
use Rattle.verdict.specs.declared.told.Told.{Told}
use Rattle.picture.specs.Names.{Called}
use Rattle.verdict.specs.declared.checking.Finding.{Finding}
use Rattle.verdict.specs.declared.checking.Finding.TheVariants.{Legal, Illegal}
use Rattle.verdict.specs.declared.misfit.TraceMisfit.{TraceMisfit}
use Rattle.reasons.specs.Reasons.{reason_text}
use Rattle.page.specs.Escapes.{escaped}
use Rattle.page.specs.Names.{names_text}
use Rattle.page.specs.Shows.{items_behind}
use Rattle.page.specs.States.{Mutex}
use Rattle.page.specs.Texts.{items_text, line_text}

-- what the mutex of a step is, among these
abbrev pub mutex_in : List Object → Decision → Mutex
mutex_in os d = record { number = d.mutex; object = slice_index_or os d.mutex fresh }

abbrev pub most_lines : ℕ
most_lines = 100000

-- how many of that many lines fit, as the judge of traces finds; the first line after the head is line 2
abbrev pub fitting_lines : Finding → ℕ → ℕ
fitting_lines (Legal points) count = count
fitting_lines (Illegal found) count = min count (found.line - 2)

abbrev pub shown_lines : Finding → ℕ → ℕ
shown_lines f count = min (fitting_lines f count) most_lines

abbrev pub lines_shown : Told → Finding → List Line
lines_shown t f = take (shown_lines f (length t.lines.items)) t.lines.items

-- ---- the text

abbrev pub start_text : Called → Head → List ℕ
start_text n h = codes "[\n" ++ names_text n h.threads h.mutexes h.conditions

-- of a legal trace: a word for that, the number on its last line, and how many lines it has between the first and the last
abbrev pub legal_with : List ℕ → List ℕ → List ℕ → List ℕ
legal_with word last lines = concat (codes "[\"" ∷ word ∷ codes "\"," ∷ last ∷ codes "," ∷ lines ∷ codes "]\n]\n" ∷ [])

abbrev pub legal_text : List ℕ → ℕ → ℕ → List ℕ
legal_text word last lines = legal_with word (decimal last) (decimal lines)

-- of one that isn't legal: these, its first line that doesn't fit, whether the page shows it or not, and why
abbrev pub illegal_with : List ℕ → List ℕ → List ℕ → List ℕ → List ℕ
illegal_with word last lines line =
    concat (codes "[\"" ∷ word ∷ codes "\"," ∷ last ∷ codes "," ∷ lines ∷ codes "," ∷ line ∷ codes ",\"" ∷ [])

abbrev pub illegal_start : List ℕ → ℕ → ℕ → ℕ → List ℕ
illegal_start word last lines line = illegal_with word (decimal last) (decimal lines) (decimal line)

-- and what that line tells; nothing where it is the trace's last line, which isn't among these
abbrev pub misfit_line : List Line → ℕ → Option Line
misfit_line ls line = slice_get ls (line - 2)

abbrev pub misfit_text : Option Line → List ℕ
misfit_text None = codes "0"
misfit_text (Some e) = line_text e ++ codes "0]"

abbrev pub illegal_end : Option Line → List ℕ
illegal_end e = codes "\"," ++ (misfit_text e ++ codes "]\n]\n")

abbrev pub illegal_text : ℕ → List Line → TraceMisfit → List ℕ
illegal_text last ls found = illegal_start (codes "illegal") last (length ls) found.line
    ++ (escaped (reason_text found.misfit) ++ illegal_end (misfit_line ls found.line))

abbrev pub end_text : Finding → ℕ → List Line → List ℕ
end_text (Legal points) last ls = legal_text (codes "legal") last (length ls)
end_text (Illegal found) last ls = illegal_text last ls found

-- the states after these lines of a trace
abbrev pub states_text : Head → List Line → List ℕ
states_text h ls = items_text (items_behind h.threads h.mutexes [] ls)

abbrev pub data_text : Called → Told → Finding → List ℕ
data_text n t f = start_text n t.head ++ (states_text t.head (lines_shown t f) ++ end_text f t.last t.lines.items)

-- ---- of a history

-- how many of that many lines are shown: of an illegal history, of which something is said, not the illegal line, which
-- is the last
abbrev pub history_lines : Option (List ℕ) → ℕ → ℕ
history_lines None count = min count most_lines
history_lines (Some why) count = min (count - 1) most_lines

abbrev pub history_shown : Told → Option (List ℕ) → List Line
history_shown t why = take (history_lines why (length t.lines.items)) t.lines.items

-- the last of the trace's lines is the illegal one; the head is line 1
abbrev pub history_illegal : List ℕ → ℕ → List Line → List ℕ
history_illegal why last ls = illegal_start (codes "illegal history") last (length ls) (length ls + 1)
    ++ (escaped why ++ illegal_end (misfit_line ls (length ls + 1)))

abbrev pub history_end : Option (List ℕ) → ℕ → List Line → List ℕ
history_end None last ls = legal_text (codes "legal history") last (length ls)
history_end (Some why) last ls = history_illegal why last ls

abbrev pub history_data : Called → Told → Option (List ℕ) → List ℕ
history_data n t why =
    start_text n t.head ++ (states_text t.head (history_shown t why) ++ history_end why t.last t.lines.items)
