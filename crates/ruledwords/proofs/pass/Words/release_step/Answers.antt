use Rattle.ruledwords.proofs.ReleaseSteps.{not_owing, is_one, goes_on, is_refused}
use Rattle.ruledwords.proofs.pass.Words.release_step.Goals as goal

pub advance-requires-clause-step : goal.advance-requires-clause-step
advance-requires-clause-step g c =
    let not = not_owing c.args.program.now.phase c.phase.result c.owing.result c.is_some.result c.is_some.ensures c.if-is_some.false c.owing.ensures c.phase.ensures in
    let s = c.requires in
    is_one c.args.self.now s.0 s.1 c.args.pass.now c.args.program.now s.2 not

pub returns-in-None-clause-steps : goal.returns-in-None-clause-steps
returns-in-None-clause-steps g c = λ x m is.
    let not = not_owing c.args.program.now.phase c.phase.result c.owing.result c.is_some.result c.is_some.ensures c.if-is_some.false c.owing.ensures c.phase.ensures in
    goes_on c.args.self.now x m c.args.pass.now c.args.program.now is not c.advance.new.pass c.advance.new.program c.in-None.ensures

pub returns-in-None-clause-once : goal.returns-in-None-clause-once
returns-in-None-clause-once g c =
    let not = not_owing c.args.program.now.phase c.phase.result c.owing.result c.is_some.result c.is_some.ensures c.if-is_some.false c.owing.ensures c.phase.ensures in
    let s = c.requires in
    ((s.0, s.1, goes_on c.args.self.now s.0 s.1 c.args.pass.now c.args.program.now s.2 not c.advance.new.pass c.advance.new.program c.in-None.ensures), λ v of. let t = c.in-None.ensures of in (t.0, t.1.1))

pub returns-in-Some-clause-steps : goal.returns-in-Some-clause-steps
returns-in-Some-clause-steps g c = λ x m is.
    let not = not_owing c.args.program.now.phase c.phase.result c.owing.result c.is_some.result c.is_some.ensures c.if-is_some.false c.owing.ensures c.phase.ensures in
    is_refused c.args.self.now x m c.args.pass.now c.args.program.now is not c.advance.new.pass c.in-Some.reply c.advance.new.program c.in-Some.ensures
