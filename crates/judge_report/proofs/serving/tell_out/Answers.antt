use Rattle.judge_report.specs.Heard.{heard_of}
use Rattle.judge_report.proofs.Ends.{kept_front, kept_whole, tells_err}
use Rattle.judge_report.proofs.serving.tell_out.Goals as goal

pub returns-in_err-tell-clause-tells : goal.returns-in_err-tell-clause-tells
returns-in_err-tell-clause-tells g c = tells_err c.args.waiting (heard_of c.args.history.now) c.args.judgement.now c.args.cuts.now _ _ c.from_residual.result c.from_residual.ensures.0 c.in_err-tell.ensures

pub returns-in-Ok-clause-tells : goal.returns-in-Ok-clause-tells
returns-in-Ok-clause-tells g c = kept_whole c.args.waiting (heard_of c.args.history.now) c.args.judgement.now c.args.cuts.now _ _ _ c.in_ok-tell.ensures c.let_go.ensures.kept

pub returns-in-Err-clause-tells : goal.returns-in-Err-clause-tells
returns-in-Err-clause-tells g c = kept_front c.args.waiting (heard_of c.args.history.now) c.args.judgement.now c.args.cuts.now _ _ _ c.in_ok-tell.ensures c.let_go.ensures.kept
