use Rattle.std.proofs.Common.{take}
use Rattle.std.specs.Io.KnownBytes.{Appends}
use Rattle.judge_report.specs.Texts.{ors_text}
use Rattle.judge_report.proofs.illegal.write_ors.Given as goal

abbrev pub invariant-loop-reply : goal.invariant-loop-reply
invariant-loop-reply g l = Appends (g.W.Write.contents l.initial.out) (g.W.Write.contents l.out) (ors_text (take l.reply-index l.replies))
