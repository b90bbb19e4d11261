use Rattle.std.proofs.Common.{ap, subst, ◌∙◌}
use Rattle.ruledwords.specs.declared.pass.Card.{Card}
use Rattle.ruledwords.specs.Stretches.{ComesToEnd}
use Rattle.ruledwords.proofs.Stretching.{in_place, goes_on, replies, dies}
use Rattle.ruledwords.proofs.turn.Running.more.Goals as goal

pub more_steps-requires : goal.more_steps-requires
more_steps-requires g c = in_place c.args.words.now c.args.self c.requires.words

pub returns-in-Ok-clause-stretches : goal.returns-in-Ok-clause-stretches
returns-in-Ok-clause-stretches g c = goes_on c.args.words.now c.args.self c.requires.words c.more_steps.new.pass c.in-Ok.program c.in-Ok.ensures.steps

pub returns-in-Replied-clause-stretches : goal.returns-in-Replied-clause-stretches
returns-in-Replied-clause-stretches g c =
    let r = c.args.self in
    replies c.args.words.now r c.requires.words c.more_steps.new.pass c.in-Replied.said (subst (ComesToEnd c.args.words.now r.pass r.program c.more_steps.new.pass) c.in-Replied.is c.in-Err.ensures.steps)

pub returns-in-Stopped-clause-stretches : goal.returns-in-Stopped-clause-stretches
returns-in-Stopped-clause-stretches g c =
    let r = c.args.self in
    let ends = subst (ComesToEnd c.args.words.now r.pass r.program c.more_steps.new.pass) c.in-Stopped.is c.in-Err.ensures.steps in
    dies c.args.words.now r c.requires.words c.more_steps.new.pass ends c.died.result c.died.ensures.card (c.died.ensures.words c.args.words.now)

pub returns-in-Ok-clause-alone : goal.returns-in-Ok-clause-alone
returns-in-Ok-clause-alone g c = (c.in-Ok.ensures.steps.3, c.in-Ok.ensures.steps.4)

pub returns-in-Replied-clause-alone : goal.returns-in-Replied-clause-alone
returns-in-Replied-clause-alone g c =
    let r = c.args.self in
    let ends = subst (ComesToEnd c.args.words.now r.pass r.program c.more_steps.new.pass) c.in-Replied.is c.in-Err.ensures.steps in
    (ends.2, ends.3)

pub returns-in-Stopped-clause-alone : goal.returns-in-Stopped-clause-alone
returns-in-Stopped-clause-alone g c =
    let r = c.args.self in
    let ends = subst (ComesToEnd c.args.words.now r.pass r.program c.more_steps.new.pass) c.in-Stopped.is c.in-Err.ensures.steps in
    ap (λ (z : Card). z.trims) c.died.ensures.card ∙ ends.1.4
