use Rattle.std.proofs.Common.{◌≡◌, ◌++◌, length}
use denote.Text.{Utf8}
use denote.Shadow.{shadow}
use Rattle.lines.specs.Lines.{lines_of}
use Rattle.explore_report.specs.Spelled.{kinds_of, spelled_text}
use Rattle.explore_report.proofs.spelling.spell.Given as goal

abbrev pub invariant-loop-line : goal.invariant-loop-line
invariant-loop-line l = record {
  is_text : shadow (Utf8 l.rest);
  text : l.spelling.text.items ++ spelled_text (lines_of l.rest) ≡ spelled_text (lines_of l.text);
  kinds : l.spelling.kinds.items ++ kinds_of (lines_of l.rest) ≡ kinds_of (lines_of l.text);
}

abbrev pub decreases-loop-line : goal.decreases-loop-line
decreases-loop-line l = length l.rest
