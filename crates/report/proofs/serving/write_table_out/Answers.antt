use Rattle.interleave.specs.Shown.{state_of}
use Rattle.texts.specs.Tables.{table_text}
use Rattle.streams.proofs.Writers.{kept_leaves}
use Rattle.report.proofs.serving.write_table_out.Goals as goal

pub returns-clause-text : goal.returns-clause-text
returns-clause-text g c = kept_leaves _ _ _ c.let_go.result (table_text c.args.script.now (state_of c.args.machine.now) c.args.trace.now.notes.items) c.in_ok-write_table.ensures c.let_go.ensures.kept
