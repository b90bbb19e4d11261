use Rattle.report.specs.Verdicts.{verdict_text}
use Rattle.streams.proofs.Writers.{kept_leaves}
use Rattle.report.proofs.judging.write_verdict_out.Goals as goal

pub returns-clause-text : goal.returns-clause-text
returns-clause-text g c = kept_leaves _ _ _ c.let_go.result (verdict_text c.args.verdict) c.in_ok-write_verdict.ensures c.let_go.ensures.kept
