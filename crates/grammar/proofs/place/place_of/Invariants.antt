use Rattle.std.proofs.Common.{◌≡◌, ◌+◌, length}
use denote.Text.{Utf8}
use denote.Shadow.{shadow}
use Rattle.lines.specs.Lines.{words_of}
use Rattle.grammar.specs.Wrongs.{ends_at, offset_of}
use Rattle.grammar.proofs.place.place_of.Given as goal

abbrev pub invariant-words : goal.invariant-words
invariant-words l = record {
  is_text : shadow (Utf8 l.rest);
  room : l.start + length l.rest ≡ length l.text;
  starts : l.start + offset_of l.left (words_of l.rest) ≡ offset_of l.fn.index (words_of l.text);
  ends : l.start + ends_at l.left (words_of l.rest) ≡ ends_at l.fn.index (words_of l.text);
}

abbrev pub decreases-words : goal.decreases-words
decreases-words l = length l.rest
