use Rattle.std.proofs.Common.{◌≡◌, Some, sym, ap, ◌∙◌}
use Rattle.lines.specs.Lines.{lines_of, words_of}
use Rattle.grammar.specs.Nexts.{mode_of_word}
use Rattle.explain.specs.Explains.{mode_in, mode_or}
use Rattle.explain.specs.Stray.{word_of}
use Rattle.explain.proofs.Pointing.{at_line}
use Rattle.explain.proofs.modes.mode_of.Goals as goal

pub returns-in-Some-mode_of_line : goal.returns-in-Some-mode_of_line
returns-in-Some-mode_of_line c =
    let line = c.in-Some.line.now in
    let behind = c.in-Some.behind.now in
    let found : mode_of_word (word_of (words_of line) 0) ≡ Some c.in-Some-mode_of_line.mode = sym c.mode_of_line.ensures ∙ c.in-Some-mode_of_line.is in
    sym (ap (λ o. mode_or o (mode_in (lines_of behind))) found) ∙ sym (at_line line (lines_of c.lines.rest.now) (lines_of behind) c.in-Some.ensures.parts) ∙ c.lines.invariant
