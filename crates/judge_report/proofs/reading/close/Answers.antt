use Rattle.std.proofs.Common.{true}
use Rattle.judge_report.proofs.Lines.{known, more_behind}
use Rattle.judge_report.proofs.reading.close.Goals as goal

pub returns-then-more : goal.returns-then-more
returns-then-more g c = more_behind _ _ c.args.number _ c.ill.result (known _ _ _ true _ c.if-more.true c.in-Ok.ensures.cuts) c.ill.ensures
