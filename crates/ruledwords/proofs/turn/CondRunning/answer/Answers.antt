use Rattle.std.proofs.Common.{◌≡◌, ◌≤◌, refl, sym, ap, ◌∙◌, subst}
use Rattle.mutex.specs.Standings.{Whole}
use Rattle.mutex.specs.Whole.{retaking, IsUnderWay}
use Rattle.condvar.specs.declared.phase.CondPhase.{CondPhase}
use Rattle.condvar.specs.declared.phase.CondPhase.TheVariants.{Locking}
use Rattle.condvar.specs.Standings.{CondWhole}
use Rattle.condvar.specs.Whole.{cond_led}
use Rattle.ruledwords.specs.Calls.{most, row_in, standing_of, Ready}
use Rattle.ruledwords.specs.Conditions.{cond_row_in, condition_at, most_behind, IsAtCondition}
use Rattle.ruledwords.specs.Counts.{mutex_at}
use Rattle.ruledwords.specs.Passes.{card, layout_of}
use Rattle.ruledwords.proofs.ConditionTurns.{at_condition, goes_answered, goes_under, has_lock, lives_answered, locks_answered, no_lock, returns_ended, section_room}
use Rattle.ruledwords.proofs.ConditionKeeps.{ends_answered, keeps_answered, lock_answered, releases_answered}
use Rattle.ruledwords.proofs.turn.CondRunning.answer.Goals as goal

pub invariant_of-result : goal.invariant_of-result
invariant_of-result c =
    let r = c.args.self in
    let p : CondWhole = r.program in
    let led = cond_led p c.args.answer in
    let locks : led.phase ≡ Locking c.in-Some.lock = ap (λ (z : CondWhole). z.phase) (sym c.resume.ensures.moved) ∙ has_lock c.resume.new.self.phase c.in-Some.lock (sym c.lock.ensures ∙ c.in-Some.is) in
    let room = (section_room p.thread p.head p.entry p.cell p.counter p.phase r.there c.args.answer r.pass.held c.requires r.room).1 c.in-Some.lock locks in
    let is : retaking p.thread p.head p.entry p.cell ≡ c.in-Some.lock = sym room.1 in
    record {
      ready = subst (λ (z : Whole). Ready (standing_of z) (card r.pass)) is (r.mine, tt, λ q o small there run. tt);
      room = subst (λ (z : Whole). r.pass.held ≤ most (row_in z.phase)) is room.0;
      going = subst (λ (z : Whole). IsUnderWay z.phase) is tt;
    }

pub invariant_of-result-in-None : goal.invariant_of-result-in-None
invariant_of-result-in-None c =
    let r = c.args.self in
    let p : CondWhole = r.program in
    let led = cond_led p c.args.answer in
    let going = goes_under led.point led.phase c.resume.result c.in-Goes.point c.in-Goes.is c.resume.ensures.progress in
    let to = c.resume.ensures.moved in
    let same : led.phase ≡ c.resume.new.self.phase = ap (λ (z : CondWhole). z.phase) (sym to) in
    record {
      mine = ap (λ (z : CondWhole). z.thread) to ∙ r.mine;
      room = subst (λ (f : CondPhase). r.pass.held ≤ most_behind (cond_row_in f)) same (section_room p.thread p.head p.entry p.cell p.counter p.phase r.there c.args.answer r.pass.held c.requires r.room).0;
      there = subst IsAtCondition same (at_condition led.phase going.0 (λ l e. no_lock c.resume.new.self.phase (sym c.lock.ensures ∙ c.in-None.is) l (sym same ∙ e)));
    }

pub returns-in-Some-clause-words : goal.returns-in-Some-clause-words
returns-in-Some-clause-words c = λ w of.
    let r = c.args.self in
    let p : CondWhole = r.program in
    let led = cond_led p c.args.answer in
    let locks : led.phase ≡ Locking c.in-Some.lock = ap (λ (z : CondWhole). z.phase) (sym c.resume.ensures.moved) ∙ has_lock c.resume.new.self.phase c.in-Some.lock (sym c.lock.ensures ∙ c.in-Some.is) in
    (of.0, (mutex_at (layout_of w) (condition_at (layout_of w) p), locks_answered w r of c.args.answer c.requires c.in-Some.lock locks))

pub returns-in-None-clause-words : goal.returns-in-None-clause-words
returns-in-None-clause-words c = λ w of.
    let r = c.args.self in
    let p : CondWhole = r.program in
    let led = cond_led p c.args.answer in
    let going = goes_under led.point led.phase c.resume.result c.in-Goes.point c.in-Goes.is c.resume.ensures.progress in
    let to = c.resume.ensures.moved in
    let same : led.phase ≡ c.resume.new.self.phase = ap (λ (z : CondWhole). z.phase) (sym to) in
    let there = subst IsAtCondition same (at_condition led.phase going.0 (λ l e. no_lock c.resume.new.self.phase (sym c.lock.ensures ∙ c.in-None.is) l (sym same ∙ e))) in
    (of.0, goes_answered w r of c.args.answer c.requires c.resume.new.self to there)

pub returns-in-Returns-clause-onward : goal.returns-in-Returns-clause-onward
returns-in-Returns-clause-onward c =
    let led = cond_led c.args.self.program c.args.answer in
    (refl, (returns_ended led.point led.phase c.resume.result c.in-Returns.reply c.in-Returns.point c.in-Returns.is c.resume.ensures.progress).0)

pub returns-in-Returns-clause-words : goal.returns-in-Returns-clause-words
returns-in-Returns-clause-words c = λ w of.
    let led = cond_led c.args.self.program c.args.answer in
    (of.0, lives_answered w c.args.self of c.args.answer c.requires c.in-Returns.reply (returns_ended led.point led.phase c.resume.result c.in-Returns.reply c.in-Returns.point c.in-Returns.is c.resume.ensures.progress).0)

pub returns-in-Some-clause-keeps : goal.returns-in-Some-clause-keeps
returns-in-Some-clause-keeps c = λ w a cl u.
    let r = c.args.self in
    let p : CondWhole = r.program in
    let led = cond_led p c.args.answer in
    let locks : led.phase ≡ Locking c.in-Some.lock = ap (λ (z : CondWhole). z.phase) (sym c.resume.ensures.moved) ∙ has_lock c.resume.new.self.phase c.in-Some.lock (sym c.lock.ensures ∙ c.in-Some.is) in
    let room = (section_room p.thread p.head p.entry p.cell p.counter p.phase r.there c.args.answer r.pass.held c.requires r.room).1 c.in-Some.lock locks in
    let it = lock_answered w r u.0 a cl u c.args.answer c.requires c.in-Some.lock (sym room.1) in (
      releases_answered w r u.0 a cl u c.args.answer c.requires c.in-Some.lock locks,
      ((u.0.0, (mutex_at (layout_of w) (condition_at (layout_of w) p), locks_answered w r u.0 c.args.answer c.requires c.in-Some.lock locks)), it.0, it.1),
    )

pub returns-in-None-clause-keeps : goal.returns-in-None-clause-keeps
returns-in-None-clause-keeps c = λ w a cl u.
    let r = c.args.self in
    let p : CondWhole = r.program in
    let led = cond_led p c.args.answer in
    let going = goes_under led.point led.phase c.resume.result c.in-Goes.point c.in-Goes.is c.resume.ensures.progress in
    let to = c.resume.ensures.moved in
    let same : led.phase ≡ c.resume.new.self.phase = ap (λ (z : CondWhole). z.phase) (sym to) in
    let there = subst IsAtCondition same (at_condition led.phase going.0 (λ l e. no_lock c.resume.new.self.phase (sym c.lock.ensures ∙ c.in-None.is) l (sym same ∙ e))) in
    let s = keeps_answered w r u.0 a cl u c.args.answer c.requires c.resume.new.self to there in
    ((u.0.0, goes_answered w r u.0 c.args.answer c.requires c.resume.new.self to there), s.0, s.1)

pub returns-in-Returns-clause-keeps : goal.returns-in-Returns-clause-keeps
returns-in-Returns-clause-keeps c = λ w a cl u.
    let led = cond_led c.args.self.program c.args.answer in
    let ended = (returns_ended led.point led.phase c.resume.result c.in-Returns.reply c.in-Returns.point c.in-Returns.is c.resume.ensures.progress).0 in
    ((u.0.0, lives_answered w c.args.self u.0 c.args.answer c.requires c.in-Returns.reply ended), ends_answered w c.args.self u.0 a cl u c.args.answer c.requires c.in-Returns.reply ended)
