use Rattle.std.proofs.Common.{take}
use Rattle.std.specs.Io.KnownBytes.{Appends}
use Rattle.texts.specs.Text.{notes_text}
use Rattle.texts.proofs.text.write_notes.Given as goal

abbrev pub invariant-loop-i : goal.invariant-loop-i
invariant-loop-i g l = Appends (g.W.Write.contents l.initial.out) (g.W.Write.contents l.out) (notes_text 1 (take l.i l.notes))
