use Rattle.std.proofs.Common.{◌≡◌, ◌+◌, ◌≤◌, length}
use denote.Text.{Utf8}
use denote.Shadow.{shadow}
use Rattle.lines.specs.Lines.{words_of}
use Rattle.grammar.specs.Wrongs.{first_of, wrong_in}
use Rattle.grammar.proofs.wrong.scan.Given as goal

abbrev pub invariant-words : goal.invariant-words
invariant-words l = record {
  is_text : shadow (Utf8 l.rest);
  room : l.start + length l.rest ≡ length l.text;
  few : l.word ≤ l.start;
  so_far : wrong_in l.next l.word l.start (words_of l.rest) ≡ wrong_in (first_of l.fn.kind) 0 0 (words_of l.text);
}

abbrev pub decreases-words : goal.decreases-words
decreases-words l = length l.rest
