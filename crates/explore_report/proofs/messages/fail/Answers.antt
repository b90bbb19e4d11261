use Rattle.explore_report.specs.Messages.{failure_text}
use Rattle.explore_report.proofs.Ends.{leaves_is_front}
use Rattle.explore_report.proofs.messages.fail.Goals as goal

pub returns-clause-told : goal.returns-clause-told
returns-clause-told g c = leaves_is_front (g.E.Write.contents c.args.err.now) (g.E.Write.contents c.write_failure.new.err) (g.E.Write.contents c.flush.new.self) c.write_failure.result (failure_text c.args.file.now c.args.failure) c.write_failure.ensures c.flush.ensures.bytes
