use Rattle.report.proofs.judging.judge_bytes.Goals as goal

pub returns-in-Ok-write_verdict_out-clause-finds : goal.returns-in-Ok-write_verdict_out-clause-finds
returns-in-Ok-write_verdict_out-clause-finds g c = (c.in-Ok.verdict, c.in-Ok.ensures, c.in-Ok-write_verdict_out.ensures.text, c.status_of.ensures)
