use Rattle.std.proofs.Common.{◌<◌, ap, arith, inl, subst, sym, ◌∙◌}
use Rattle.std.specs.Prelude.{nat_le}
use Rattle.mutex.specs.declared.call.Call.TheVariants.{Lock}
use Rattle.ruledwords.specs.declared.pass.Card.{Card}
use Rattle.ruledwords.specs.InLine.{announcing_lock, stands, RepliesOk}
use Rattle.ruledwords.specs.Passes.{card}
use Rattle.ruledwords.specs.Seen.{held}
use Rattle.ruledwords.specs.Stretches.{ComesToEnd}
use Rattle.ruledwords.proofs.Beginnings.{picks_false}
use Rattle.ruledwords.proofs.InLine.{dies_in, few, lock_begins_in}
use Rattle.ruledwords.proofs.turn.Running.lock.Goals as goal

pub lock_in_line-requires-clause-call : goal.lock_in_line-requires-clause-call
lock_in_line-requires-clause-call g c =
    let a = c.args.pass in
    let not_many = c.if-pass-ge-HELD_LIMIT.false in
    let low : a.held < 2048 = omega arith in
    (lock_begins_in c.args.words.now a c.args.mutex c.line-line.result c.requires.pass c.requires.mutex (few a.held low) c.line-line.ensures).0

pub returns-in-Ok-clause-locks : goal.returns-in-Ok-clause-locks
returns-in-Ok-clause-locks g c =
    let a = c.args.pass in
    let not_many = c.if-pass-ge-HELD_LIMIT.false in
    let low : a.held < 2048 = omega arith in
    let begun = lock_begins_in c.args.words.now a c.args.mutex c.line-line.result c.requires.pass c.requires.mutex (few a.held low) c.line-line.ensures in
    picks_false (nat_le 2048 (held (card a))) _ _ (ap (nat_le 2048) (sym a.count) ∙ few a.held low) (record { knows = c.in-Ok.ensures.steps.knows; found = c.in-Ok.ensures.steps.found; trims = c.in-Ok.ensures.steps.trims; goes = λ under. (c.in-Ok.ensures.steps.goes under).1 a (Lock c.args.mutex) begun; ends = λ y ended. (c.in-Ok.ensures.steps.ends y ended).0 a (Lock c.args.mutex) begun })

pub returns-in-Replied-clause-locks : goal.returns-in-Replied-clause-locks
returns-in-Replied-clause-locks g c =
    let w = c.args.words.now in
    let a = c.args.pass in
    let not_many = c.if-pass-ge-HELD_LIMIT.false in
    let low : a.held < 2048 = omega arith in
    let begun = lock_begins_in w a c.args.mutex c.line-line.result c.requires.pass c.requires.mutex (few a.held low) c.line-line.ensures in
    let ends = subst (ComesToEnd w a (stands c.line-line.result announcing_lock) c.lock_in_line.new.pass) c.in-Replied.is c.in-Err.ensures.steps.0 in
    picks_false (nat_le 2048 (held (card a))) _ _ (ap (nat_le 2048) (sym a.count) ∙ few a.held low) (ends.0 a (Lock c.args.mutex) begun, ends.3)

pub returns-in-Stopped-clause-locks : goal.returns-in-Stopped-clause-locks
returns-in-Stopped-clause-locks g c =
    let w = c.args.words.now in
    let a = c.args.pass in
    let not_many = c.if-pass-ge-HELD_LIMIT.false in
    let low : a.held < 2048 = omega arith in
    let begun = lock_begins_in w a c.args.mutex c.line-line.result c.requires.pass c.requires.mutex (few a.held low) c.line-line.ensures in
    let ends = subst (ComesToEnd w a (stands c.line-line.result announcing_lock) c.lock_in_line.new.pass) c.in-Stopped.is c.in-Err.ensures.steps.0 in
    let died = dies_in w a (Lock c.args.mutex) c.lock_in_line.new.pass c.died.result (ends.0, ends.1.1 a (Lock c.args.mutex) begun) c.died.ensures.card (c.died.ensures.words w) in
    picks_false (nat_le 2048 (held (card a))) _ _ (ap (nat_le 2048) (sym a.count) ∙ few a.held low) (died, ap (λ (z : Card). z.trims) c.died.ensures.card ∙ ends.1.4)

pub returns-in-Replied-clause-replies : goal.returns-in-Replied-clause-replies
returns-in-Replied-clause-replies g c = inl (subst RepliesOk c.in-Replied.is c.in-Err.ensures.steps.1)
