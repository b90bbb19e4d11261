use Rattle.std.proofs.Common.{ap, subst, ◌∙◌}
use Rattle.mutex.specs.declared.call.Call.TheVariants.{Unlock}
use Rattle.ruledwords.specs.declared.pass.Card.{Card}
use Rattle.ruledwords.specs.InLine.{loading_unlock, stands}
use Rattle.ruledwords.specs.Stretches.{ComesToEnd}
use Rattle.ruledwords.proofs.InLine.{dies_in, unlock_begins_in, unlock_begins_releasing}
use Rattle.ruledwords.proofs.turn.Running.unlock.Goals as goal

pub unlock_in_line-requires-clause-call : goal.unlock_in_line-requires-clause-call
unlock_in_line-requires-clause-call g c = (unlock_begins_in c.args.words.now c.args.pass c.args.mutex c.line-line.result c.requires.pass c.requires.mutex c.line-line.ensures).0

pub returns-in-Ok-clause-unlocks : goal.returns-in-Ok-clause-unlocks
returns-in-Ok-clause-unlocks g c =
    let a = c.args.pass in
    let begun = unlock_begins_in c.args.words.now a c.args.mutex c.line-line.result c.requires.pass c.requires.mutex c.line-line.ensures in
    (record { knows = c.in-Ok.ensures.steps.knows; found = c.in-Ok.ensures.steps.found; trims = c.in-Ok.ensures.steps.trims; goes = λ under. (c.in-Ok.ensures.steps.goes under).1 a (Unlock c.args.mutex) begun; ends = λ y ended. (c.in-Ok.ensures.steps.ends y ended).0 a (Unlock c.args.mutex) begun })

pub returns-in-Replied-clause-unlocks : goal.returns-in-Replied-clause-unlocks
returns-in-Replied-clause-unlocks g c =
    let w = c.args.words.now in
    let a = c.args.pass in
    let begun = unlock_begins_in w a c.args.mutex c.line-line.result c.requires.pass c.requires.mutex c.line-line.ensures in
    let ends = subst (ComesToEnd w a (stands c.line-line.result loading_unlock) c.unlock_in_line.new.pass) c.in-Replied.is c.in-Err.ensures.steps.0 in
    (ends.0 a (Unlock c.args.mutex) begun, ends.3)

pub returns-in-Ok-clause-frees : goal.returns-in-Ok-clause-frees
returns-in-Ok-clause-frees g c = λ under.
    let a = c.args.pass in
    (c.in-Ok.ensures.steps.goes under).3 a c.args.mutex (unlock_begins_releasing c.args.words.now a c.args.mutex c.line-line.result c.requires.pass c.requires.mutex c.line-line.ensures)

pub returns-in-Replied-clause-frees : goal.returns-in-Replied-clause-frees
returns-in-Replied-clause-frees g c =
    let w = c.args.words.now in
    let a = c.args.pass in
    let begun = unlock_begins_releasing w a c.args.mutex c.line-line.result c.requires.pass c.requires.mutex c.line-line.ensures in
    let ends = subst (ComesToEnd w a (stands c.line-line.result loading_unlock) c.unlock_in_line.new.pass) c.in-Replied.is c.in-Err.ensures.steps.0 in
    ends.2 a c.args.mutex begun

pub returns-in-Stopped-clause-unlocks : goal.returns-in-Stopped-clause-unlocks
returns-in-Stopped-clause-unlocks g c =
    let w = c.args.words.now in
    let a = c.args.pass in
    let begun = unlock_begins_in w a c.args.mutex c.line-line.result c.requires.pass c.requires.mutex c.line-line.ensures in
    let ends = subst (ComesToEnd w a (stands c.line-line.result loading_unlock) c.unlock_in_line.new.pass) c.in-Stopped.is c.in-Err.ensures.steps.0 in
    (dies_in w a (Unlock c.args.mutex) c.unlock_in_line.new.pass c.died.result (ends.0, ends.1.1 a (Unlock c.args.mutex) begun) c.died.ensures.card (c.died.ensures.words w), ap (λ (z : Card). z.trims) c.died.ensures.card ∙ ends.1.4)
