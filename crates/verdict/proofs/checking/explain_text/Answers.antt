use Rattle.verdict.proofs.Whole.{answered, refused}
use Rattle.verdict.proofs.checking.explain_text.Goals as goal

pub returns-in-Ok : goal.returns-in-Ok
returns-in-Ok c = answered c.args.text.now c.in-Some.first.now c.in-Some.rest.now c.in-Ok.pass c.judge_lines.result c.in-Some.ensures.parts c.in-Ok.ensures.0 c.judge_lines.ensures

pub returns-in-Err : goal.returns-in-Err
returns-in-Err c = refused c.args.text.now c.in-Some.first.now c.in-Some.rest.now c.in-Err.fault c.in-Some.ensures.parts c.in-Err.ensures
