use Rattle.std.proofs.Common.{◌≡◌, length}
use Rattle.std.specs.Prelude.{slice_get}
use denote.Text.{Utf8}
use denote.Shadow.{shadow}
use Rattle.lines.specs.Lines.{words_of}
use Rattle.grammar.proofs.place.word_at.Given as goal

abbrev pub invariant-words : goal.invariant-words
invariant-words l = record {
  is_text : shadow (Utf8 l.rest);
  so_far : slice_get (words_of l.rest) l.left ≡ slice_get (words_of l.fn.text) l.fn.index;
}

abbrev pub decreases-words : goal.decreases-words
decreases-words l = length l.rest
