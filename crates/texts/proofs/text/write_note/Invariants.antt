use Rattle.std.specs.Io.KnownBytes.{Appends}
use Rattle.texts.specs.Text.{facts_text}
use Rattle.texts.proofs.text.write_note.Given as goal

abbrev pub invariant-loop-fact : goal.invariant-loop-fact
invariant-loop-fact g l = Appends (g.W.Write.contents l.initial.out) (g.W.Write.contents l.out) (facts_text l.event l.yielded)
