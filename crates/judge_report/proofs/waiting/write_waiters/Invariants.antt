use Rattle.std.proofs.Common.{take}
use Rattle.std.specs.Io.KnownBytes.{Appends}
use Rattle.judge_report.specs.Texts.{waiters_text}
use Rattle.judge_report.proofs.waiting.write_waiters.Given as goal

abbrev pub invariant-loop-waiter : goal.invariant-loop-waiter
invariant-loop-waiter g l = Appends (g.W.Write.contents l.initial.out) (g.W.Write.contents l.out) (waiters_text l.lines (take l.waiter-index l.waiters))
