use Rattle.texts.specs.Text.{trace_text}
use Rattle.streams.proofs.Writers.{kept_leaves}
use Rattle.report.proofs.serving.write_out.Goals as goal

pub returns-clause-text : goal.returns-clause-text
returns-clause-text g c = kept_leaves _ _ _ c.let_go.result (trace_text c.args.trace.now) c.in_ok-write_trace.ensures c.let_go.ensures.kept
