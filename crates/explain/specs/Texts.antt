-- The text of what is said of a file.
use Rattle.std.specs.Prelude.{ℕ, ◌+◌, ◌-◌, Bool, true, false, ◌==◌, min, max, List, [], ◌∷◌, ◌++◌, length, take}
use Rattle.std.specs.Prelude.{drop, replicate, Option, Some, None, option_map, codes, decimal, if◌then◌else◌}
use Rattle.std.specs.List.{concat, flat_map}
use Rattle.lines.specs.Lines.{words_of}
use Rattle.script.specs.declared.command.Mode.{Mode}
use Rattle.script.specs.declared.fault.ScriptFault.{ScriptFault}
use Rattle.script.specs.Faults as script
use Rattle.verdict.specs.declared.fault.TraceFault.{TraceFault}
use Rattle.verdict.specs.declared.misfit.TraceMisfit.{TraceMisfit}
use Rattle.verdict.specs.Faults as traces
use Rattle.grammar.specs.declared.next.Next.{Next}
use Rattle.grammar.specs.Known.{known_words}
use Rattle.grammar.specs.Wrongs.{ends_at, offset_of}
use Rattle.explain.specs.declared.explanation.Title.{Title}
use Rattle.explain.specs.declared.explanation.Title.TheVariants.{Good, Script, Legal, Illegal, Trace}
use Rattle.explain.specs.declared.explanation.Mark.{Mark}
use Rattle.explain.specs.declared.explanation.Explanation.{Explanation}
use Rattle.explain.specs.Words.{expected_words, mode_words}
use Rattle.reasons.specs.Reasons.{reason_text}
use Rattle.explain.specs.Notes.{note_text}
use Rattle.explain.specs.Shown.{columns, shown, width}
use Rattle.explain.specs.Stray.{line_of}

-- ---- what the file is

abbrev pub programs : Bool → Bool → List ℕ
programs true false = codes "`rfx run`"
programs false true = codes "`rfx threads`"
programs true true = codes "`rfx run` and `rfx threads`"
programs false false = codes "`rfx run` and `rfx threads`"

abbrev pub good_text : List ℕ → Bool → Bool → List ℕ
good_text file run threads =
    concat (file ∷ codes ": a good script for " ∷ []) ++ concat (programs run threads ∷ codes "\n" ∷ [])

abbrev pub place_text : List ℕ → ℕ → List ℕ
place_text file line = concat (file ∷ codes ": line " ∷ decimal line ∷ codes ": " ∷ [])

abbrev pub fault_text : ℕ → List ℕ → List ℕ
fault_text number words = concat (codes "fault " ∷ decimal number ∷ codes ": " ∷ words ∷ [])

abbrev pub script_text : List ℕ → Mode → ScriptFault → List ℕ
script_text file k e = place_text file e.line
    ++ (fault_text (script.number_of e.fault) (script.words_of e.fault)
    ++ concat (codes " (a script for " ∷ mode_words k ∷ codes ")\n" ∷ []))

abbrev pub trace_text : List ℕ → TraceFault → List ℕ
trace_text file e = place_text file e.line
    ++ (fault_text (traces.number_of e.fault) (traces.words_of e.fault) ++ concat (codes " (a trace)\n" ∷ []))

unfoldable pub point_words : ℕ → List ℕ
point_words n = if n == 1 then codes " point\n" else codes " points\n"

abbrev pub points_text : List ℕ → ℕ → List ℕ
points_text file points =
    concat (file ∷ codes ": a legal trace, of " ∷ []) ++ concat (decimal points ∷ point_words points ∷ [])

-- the line of a legal trace that no run has
abbrev pub spoiling_text : List ℕ → Option ℕ → List ℕ
spoiling_text file None = []
spoiling_text file (Some line) =
    place_text file line ++ concat (codes "no run has this: the wait makes its mutex unusable\n" ∷ [])

abbrev pub legal_text : List ℕ → ℕ → Option ℕ → List ℕ
legal_text file points spoiling = points_text file points ++ spoiling_text file spoiling

abbrev pub illegal_text : List ℕ → TraceMisfit → List ℕ
illegal_text file why = place_text file why.line
    ++ (concat (codes "illegal: " ∷ []) ++ (reason_text why.misfit ++ concat (codes "\n" ∷ [])))

abbrev pub title_text : List ℕ → Title → List ℕ
title_text file (Good run threads) = good_text file run threads
title_text file (Script k e) = script_text file k e
title_text file (Legal points spoiling) = legal_text file points spoiling
title_text file (Illegal why) = illegal_text file why
title_text file (Trace e) = trace_text file e

-- the line that it names
abbrev pub line_named : Title → Option ℕ
line_named (Good run threads) = None
line_named (Script k e) = Some e.line
line_named (Legal points spoiling) = spoiling
line_named (Illegal why) = Some why.line
line_named (Trace e) = Some e.line

-- ---- its line

abbrev pub line_text : List ℕ → List ℕ
line_text line = concat (codes "  | " ∷ []) ++ (shown line ++ concat (codes "\n" ∷ []))

-- under the bytes from start to end of the line stand carets, one at least, and blanks before them; a start one after
-- the line's end is a column more. What comes after the columns that are shown is marked by one caret, at the
-- ellipsis
abbrev pub carets : List ℕ → ℕ → ℕ → List ℕ
carets line start end =
    let front = min start (length line) in
    let back = min end (length line) in
    let before = min (columns (take front line)) width in
    let marked = max (columns (take (back - front) (drop front line))) 1 in
    concat (codes "  | " ∷ []) ++ (replicate before 32 ++ (replicate (start - front) 32
    ++ (replicate (min marked (width + 1 - before)) 94 ++ concat (codes "\n" ∷ []))))

-- word i of the line is marked
abbrev pub caret_text : List ℕ → ℕ → List ℕ
caret_text line i = carets line (offset_of i (words_of line)) (ends_at i (words_of line))

abbrev pub known_text : List (List ℕ) → List ℕ
known_text ws = flat_map (λ w. concat (codes " `" ∷ w ∷ codes "`" ∷ [])) ws

abbrev pub expected_text : Option Next → List ℕ
expected_text None = []
expected_text (Some n) =
    concat (codes "  = expected " ∷ expected_words n ∷ []) ++ (known_text (known_words n) ++ concat (codes "\n" ∷ []))

abbrev pub near_text : Option (List ℕ) → List ℕ
near_text None = []
near_text (Some v) = concat (codes "  = did you mean `" ∷ v ∷ codes "`?\n" ∷ [])

abbrev pub mark_text : List ℕ → Option Mark → List ℕ
mark_text line None = []
mark_text line (Some m) =
    caret_text line m.word ++ (expected_text m.expected ++ near_text (option_map (λ w. w.now) m.near))

abbrev pub marked_line : List ℕ → Option Mark → List ℕ
marked_line line m = if length line == 0 then [] else line_text line ++ mark_text line m

abbrev pub told_line : List ℕ → Option ℕ → Option Mark → List ℕ
told_line lines None m = []
told_line lines (Some n) m = marked_line (line_of lines n) m

-- the line that the title names, unless it is empty, with its mark
abbrev pub quote_text : List ℕ → Title → Option Mark → List ℕ
quote_text lines title m = told_line lines (line_named title) m

-- ---- the earlier line

abbrev pub earlier_text : List ℕ → ℕ → List ℕ
earlier_text lines n = concat (codes "  = see line " ∷ decimal n ∷ codes ":\n" ∷ []) ++ line_text (line_of lines n)

abbrev pub origin_text : List ℕ → Option ℕ → List ℕ
origin_text lines None = []
origin_text lines (Some n) = earlier_text lines n

-- ---- all of it

-- of a file of this name, whose text is this
abbrev pub explanation_text : List ℕ → List ℕ → Explanation → List ℕ
explanation_text file lines x = title_text file x.title
    ++ (quote_text lines x.title x.advice.mark
    ++ (note_text x.advice.note ++ (note_text x.advice.also ++ origin_text lines x.advice.origin)))
