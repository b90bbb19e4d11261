use Rattle.judge_report.proofs.Ends.{is_read, is_unread}
use Rattle.judge_report.proofs.serving.read_file.Goals as goal

pub returns-in-Ok-read_history-clause-gives : goal.returns-in-Ok-read_history-clause-gives
returns-in-Ok-read_history-clause-gives g c = is_read g.R.Read.remaining c.in-Ok.input c.args.input c.in-Ok-read_history.history c.in-Ok.ensures.inner c.in-Ok.ensures.empty c.in-Ok.ensures.capacity c.in-Ok-read_history.ensures.gives

pub returns-clause-fails : goal.returns-clause-fails
returns-clause-fails g c = is_unread g.R.Read.remaining c.in-Ok.input c.args.input c.in-Err.fault c.failed_by.result c.in-Ok.ensures.inner c.in-Ok.ensures.empty c.in-Ok.ensures.capacity c.in-Err.ensures.gives c.failed_by.ensures
