use Rattle.std.proofs.Common.{[], refl}
use Rattle.judge_report.specs.Heard.{heard_of}
use Rattle.judge_report.proofs.Ends.{says_not, says_then}
use Rattle.judge_report.proofs.serving.tell_alone.Goals as goal

pub returns-in-Ok : goal.returns-in-Ok
returns-in-Ok g c = says_then c.args.waiting (heard_of c.args.history.now) c.args.judgement.now [] _ _ _ c.args.failure c.args.failure refl refl c.in-Ok.ensures.tells c.in-Ok.ensures.let_go

pub returns-in-Err : goal.returns-in-Err
returns-in-Err g c = says_not c.args.waiting (heard_of c.args.history.now) c.args.judgement.now [] _ _ _ c.args.failure _ refl refl c.in-Err.ensures.tells
