use Rattle.std.proofs.Common.{take}
use Rattle.std.specs.Io.KnownBytes.{Appends}
use Rattle.judge_report.specs.Texts.{cuts_text}
use Rattle.judge_report.proofs.telling.write_cuts.Given as goal

abbrev pub invariant-loop-cut : goal.invariant-loop-cut
invariant-loop-cut g l = Appends (g.W.Write.contents l.initial.out) (g.W.Write.contents l.out) (cuts_text (take l.cut-index l.cuts))
