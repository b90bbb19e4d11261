use Rattle.std.proofs.Common.{◌≡◌, refl, sym, ap, ◌∙◌}
use Rattle.stepprograms.specs.declared.access.Access.{Access}
use Rattle.stepprograms.specs.Accesses.{answer_at}
use Rattle.condvar.specs.Standings.{CondWhole}
use Rattle.condvar.specs.Whole.{cond_access, cond_led}
use Rattle.ruledwords.specs.declared.pass.Pass.{Pass}
use Rattle.ruledwords.specs.declared.pass.Live.{Live}
use Rattle.ruledwords.proofs.ConditionTurns.{goes_under, returns_ended, whose, count, few_then, there_then, mine_then, room_then, goes_then, lives_then}
use Rattle.ruledwords.proofs.ConditionKeeps.{keeps_goes, keeps_lives}
use Rattle.ruledwords.proofs.turn.CondRunning.access.Goals as goal

pub invariant_of-pass : goal.invariant_of-pass
invariant_of-pass c =
    let w = c.args.words.now in
    let r = c.args.self in
    let of = c.requires.words in
    let p : CondWhole = r.program in
    let f = c.found_in_condition-found in
    let x = c.answer.result in
    let is_x : x ≡ answer_at (cond_access p) f.result = c.answer.ensures ∙ ap (λ (a : Access). answer_at a f.result) c.next-access.ensures in
    let led = cond_led p x in
    let going = goes_under led.point led.phase c.resume.result c.in-Goes.point c.in-Goes.is c.resume.ensures.progress in
    let h = c.count in
    record { one = f.ensures.1; own = whose w r of c.requires.step f.new.seat f.result f.ensures x is_x; count = count w r of c.requires.step f.new.seat f.result f.ensures x is_x c.in-Goes.point h.result going.1 h.ensures; few = few_then w r of c.requires.step f.new.seat f.result f.ensures x is_x c.in-Goes.point h.result going.1 h.ensures }

pub invariant_of-pass-in-Returns : goal.invariant_of-pass-in-Returns
invariant_of-pass-in-Returns c =
    let w = c.args.words.now in
    let r = c.args.self in
    let of = c.requires.words in
    let p : CondWhole = r.program in
    let f = c.found_in_condition-found in
    let x = c.answer.result in
    let is_x : x ≡ answer_at (cond_access p) f.result = c.answer.ensures ∙ ap (λ (a : Access). answer_at a f.result) c.next-access.ensures in
    let led = cond_led p x in
    let back = returns_ended led.point led.phase c.resume.result c.in-Returns.reply c.in-Returns.point c.in-Returns.is c.resume.ensures.progress in
    let h = c.count-in-Returns in
    record { one = f.ensures.1; own = whose w r of c.requires.step f.new.seat f.result f.ensures x is_x; count = count w r of c.requires.step f.new.seat f.result f.ensures x is_x c.in-Returns.point h.result back.1 h.ensures; few = few_then w r of c.requires.step f.new.seat f.result f.ensures x is_x c.in-Returns.point h.result back.1 h.ensures }

pub invariant_of-result : goal.invariant_of-result
invariant_of-result c =
    let w = c.args.words.now in
    let r = c.args.self in
    let of = c.requires.words in
    let p : CondWhole = r.program in
    let f = c.found_in_condition-found in
    let x = c.answer.result in
    let is_x : x ≡ answer_at (cond_access p) f.result = c.answer.ensures ∙ ap (λ (a : Access). answer_at a f.result) c.next-access.ensures in
    let led = cond_led p x in
    let going = goes_under led.point led.phase c.resume.result c.in-Goes.point c.in-Goes.is c.resume.ensures.progress in
    let h = c.count in
    record {
      mine = mine_then w r of c.requires.step f.new.seat f.result f.ensures x is_x going.0 c.resume.new.self c.resume.ensures.moved;
      room = room_then w r of c.requires.step f.new.seat f.result f.ensures x is_x going.0 c.resume.new.self c.resume.ensures.moved c.in-Goes.point h.result going.1 h.ensures;
      there = there_then w r of c.requires.step f.new.seat f.result f.ensures x is_x going.0 c.resume.new.self c.resume.ensures.moved;
    }

pub returns-in-Goes-clause-words : goal.returns-in-Goes-clause-words
returns-in-Goes-clause-words c =
    let w = c.args.words.now in
    let r = c.args.self in
    let of = c.requires.words in
    let p : CondWhole = r.program in
    let f = c.found_in_condition-found in
    let x = c.answer.result in
    let is_x : x ≡ answer_at (cond_access p) f.result = c.answer.ensures ∙ ap (λ (a : Access). answer_at a f.result) c.next-access.ensures in
    let led = cond_led p x in
    let going = goes_under led.point led.phase c.resume.result c.in-Goes.point c.in-Goes.is c.resume.ensures.progress in
    let h = c.count in
    let b : Pass Live = record { seat = f.new.seat; thread = r.pass.thread; held = h.result; state = r.pass.state; one = f.ensures.1; own = whose w r of c.requires.step f.new.seat f.result f.ensures x is_x; count = count w r of c.requires.step f.new.seat f.result f.ensures x is_x c.in-Goes.point h.result going.1 h.ensures; few = few_then w r of c.requires.step f.new.seat f.result f.ensures x is_x c.in-Goes.point h.result going.1 h.ensures } in
    goes_then w r of c.requires.step f.new.seat f.result f.ensures x is_x going.0 c.resume.new.self c.resume.ensures.moved b f.ensures.0 refl

pub returns-in-Goes-clause-turned : goal.returns-in-Goes-clause-turned
returns-in-Goes-clause-turned c =
    let w = c.args.words.now in
    let r = c.args.self in
    let of = c.requires.words in
    let p : CondWhole = r.program in
    let f = c.found_in_condition-found in
    let x = c.answer.result in
    let is_x : x ≡ answer_at (cond_access p) f.result = c.answer.ensures ∙ ap (λ (a : Access). answer_at a f.result) c.next-access.ensures in
    let led = cond_led p x in
    (f.result, f.ensures.2, c.resume.ensures.moved ∙ ap (λ y. Rattle.condvar.specs.Whole.cond_moved p (cond_led p y)) is_x)

pub returns-in-Returns-clause-words : goal.returns-in-Returns-clause-words
returns-in-Returns-clause-words c =
    let w = c.args.words.now in
    let r = c.args.self in
    let of = c.requires.words in
    let p : CondWhole = r.program in
    let f = c.found_in_condition-found in
    let x = c.answer.result in
    let is_x : x ≡ answer_at (cond_access p) f.result = c.answer.ensures ∙ ap (λ (a : Access). answer_at a f.result) c.next-access.ensures in
    let led = cond_led p x in
    let back = returns_ended led.point led.phase c.resume.result c.in-Returns.reply c.in-Returns.point c.in-Returns.is c.resume.ensures.progress in
    let h = c.count-in-Returns in
    let b : Pass Live = record { seat = f.new.seat; thread = r.pass.thread; held = h.result; state = r.pass.state; one = f.ensures.1; own = whose w r of c.requires.step f.new.seat f.result f.ensures x is_x; count = count w r of c.requires.step f.new.seat f.result f.ensures x is_x c.in-Returns.point h.result back.1 h.ensures; few = few_then w r of c.requires.step f.new.seat f.result f.ensures x is_x c.in-Returns.point h.result back.1 h.ensures } in
    lives_then w r of c.requires.step f.new.seat f.result f.ensures x is_x c.in-Returns.reply back.0 b f.ensures.0 refl

pub returns-in-Returns-clause-turned : goal.returns-in-Returns-clause-turned
returns-in-Returns-clause-turned c =
    let w = c.args.words.now in
    let r = c.args.self in
    let of = c.requires.words in
    let p : CondWhole = r.program in
    let f = c.found_in_condition-found in
    let x = c.answer.result in
    let is_x : x ≡ answer_at (cond_access p) f.result = c.answer.ensures ∙ ap (λ (a : Access). answer_at a f.result) c.next-access.ensures in
    let led = cond_led p x in
    let back = returns_ended led.point led.phase c.resume.result c.in-Returns.reply c.in-Returns.point c.in-Returns.is c.resume.ensures.progress in
    let h = c.count-in-Returns in
    (f.result, f.ensures.2, sym (ap (λ y. (cond_led p y).phase) is_x) ∙ back.0)

pub returns-in-Goes-clause-keeps : goal.returns-in-Goes-clause-keeps
returns-in-Goes-clause-keeps c = λ a cl u.
    let w = c.args.words.now in
    let r = c.args.self in
    let of = c.requires.words in
    let p : CondWhole = r.program in
    let f = c.found_in_condition-found in
    let x = c.answer.result in
    let is_x : x ≡ answer_at (cond_access p) f.result = c.answer.ensures ∙ ap (λ (a : Access). answer_at a f.result) c.next-access.ensures in
    let led = cond_led p x in
    let going = goes_under led.point led.phase c.resume.result c.in-Goes.point c.in-Goes.is c.resume.ensures.progress in
    let h = c.count in
    let b : Pass Live = record { seat = f.new.seat; thread = r.pass.thread; held = h.result; state = r.pass.state; one = f.ensures.1; own = whose w r of c.requires.step f.new.seat f.result f.ensures x is_x; count = count w r of c.requires.step f.new.seat f.result f.ensures x is_x c.in-Goes.point h.result going.1 h.ensures; few = few_then w r of c.requires.step f.new.seat f.result f.ensures x is_x c.in-Goes.point h.result going.1 h.ensures } in
    let s = keeps_goes w r of a cl u c.requires.step f.new.seat f.result f.ensures x is_x going.0 c.resume.new.self c.resume.ensures.moved b refl in
    (goes_then w r of c.requires.step f.new.seat f.result f.ensures x is_x going.0 c.resume.new.self c.resume.ensures.moved b f.ensures.0 refl, s.0, s.1)

pub returns-in-Returns-clause-keeps : goal.returns-in-Returns-clause-keeps
returns-in-Returns-clause-keeps c = λ a cl u.
    let w = c.args.words.now in
    let r = c.args.self in
    let of = c.requires.words in
    let p : CondWhole = r.program in
    let f = c.found_in_condition-found in
    let x = c.answer.result in
    let is_x : x ≡ answer_at (cond_access p) f.result = c.answer.ensures ∙ ap (λ (a : Access). answer_at a f.result) c.next-access.ensures in
    let led = cond_led p x in
    let back = returns_ended led.point led.phase c.resume.result c.in-Returns.reply c.in-Returns.point c.in-Returns.is c.resume.ensures.progress in
    let h = c.count-in-Returns in
    let b : Pass Live = record { seat = f.new.seat; thread = r.pass.thread; held = h.result; state = r.pass.state; one = f.ensures.1; own = whose w r of c.requires.step f.new.seat f.result f.ensures x is_x; count = count w r of c.requires.step f.new.seat f.result f.ensures x is_x c.in-Returns.point h.result back.1 h.ensures; few = few_then w r of c.requires.step f.new.seat f.result f.ensures x is_x c.in-Returns.point h.result back.1 h.ensures } in
    (lives_then w r of c.requires.step f.new.seat f.result f.ensures x is_x c.in-Returns.reply back.0 b f.ensures.0 refl, keeps_lives w r of a cl u c.requires.step f.new.seat f.result f.ensures x is_x c.in-Returns.reply back.0 b refl)
