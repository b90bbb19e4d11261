use Rattle.std.proofs.Common.{take}
use Rattle.std.specs.Io.KnownBytes.{Appends}
use Rattle.texts.specs.Replies.{conditions_text}
use Rattle.texts.proofs.replies.write_conditions.Given as goal

abbrev pub invariant-loop-condition : goal.invariant-loop-condition
invariant-loop-condition g l = Appends (g.W.Write.contents l.initial.out) (g.W.Write.contents l.out) (conditions_text (take l.condition-index l.conditions))
