use Rattle.judge_report.proofs.Cutting.{cuts}
use Rattle.judge_report.proofs.reading.next_line.Goals as goal

pub returns-in-Ok-clause-cuts : goal.returns-in-Ok-clause-cuts
returns-in-Ok-clause-cuts g c = cuts _ _ _ _ _ _ c.clear.ensures.items c.in-Ok.ensures.bytes c.in-Ok.ensures.rest c.strip.ensures.feed c.strip.ensures.rest
