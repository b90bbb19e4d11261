use Rattle.report.specs.Messages.{failure_text}
use Rattle.report.proofs.Failures.{leaves_is_front}
use Rattle.report.proofs.messages.tell.Goals as goal

pub returns : goal.returns
returns g c =
    leaves_is_front (g.E.Write.contents c.args.err.now) (g.E.Write.contents c.write_failure.new.err) (g.E.Write.contents c.flush.new.self) c.write_failure.result (failure_text c.args.file.now c.args.failure) c.write_failure.ensures c.flush.ensures.bytes
