use Rattle.std.proofs.Common.{subst}
use Rattle.mutex.specs.Whole.{whole_access}
use Rattle.ruledwords.specs.Turns.{IsOneStep}
use Rattle.ruledwords.proofs.ReleaseSteps.{ends_alone, stays_on}
use Rattle.ruledwords.specs.Passes.{card, layout_of}
use Rattle.ruledwords.proofs.OwnTurns.{answered_untrimmed}
use Rattle.ruledwords.proofs.pass.Words.step.Goals as goal

pub returns-in-None-clause-steps : goal.returns-in-None-clause-steps
returns-in-None-clause-steps g c =
    let one : IsOneStep (whole_access c.args.program.now) = subst IsOneStep c.next.ensures (c.is_step.ensures.step c.if-not-is_step.false) in
    ((c.in-None.ensures c.requires).0, (λ x call is. let t = c.in-None.ensures is.0 in (t.0, t.1.2 x call is.1)), (λ m e y is. let t = c.in-None.ensures is.0 in (t.0, t.1.3 m e y is.1)), (λ x m is. stays_on c.args.self.now x m c.args.pass.now c.args.program.now one is c.advance.new.pass c.advance.new.program c.in-None.ensures), let t = c.in-None.ensures c.requires in let turned = t.1.1 in answered_untrimmed (layout_of c.args.self.now) c.args.program.now c.args.program.now.phase (card c.args.pass.now) (card c.advance.new.pass) turned.0 turned.1)

pub returns-in-None-clause-once : goal.returns-in-None-clause-once
returns-in-None-clause-once g c = λ one of. let t = c.in-None.ensures of in (t.0, t.1.1)

pub returns-in-Some-clause-steps : goal.returns-in-Some-clause-steps
returns-in-Some-clause-steps g c =
    let one : IsOneStep (whole_access c.args.program.now) = subst IsOneStep c.next.ensures (c.is_step.ensures.step c.if-not-is_step.false) in
    ((λ x call is. (c.in-Some.ensures is.0).2 x call is.1), (λ m e y is. (c.in-Some.ensures is.0).3 m e y is.1), (λ x m is. ends_alone c.args.self.now x m c.args.pass.now c.args.program.now one is c.advance.new.pass c.in-Some.reply c.advance.new.program c.in-Some.ensures), let t = c.in-Some.ensures c.requires in let turned = t.1 in answered_untrimmed (layout_of c.args.self.now) c.args.program.now c.args.program.now.phase (card c.args.pass.now) (card c.advance.new.pass) turned.0 turned.1)
