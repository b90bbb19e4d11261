use Rattle.std.proofs.Common.{refl, sym, ap, ◌∙◌, subst}
use Rattle.mutex.specs.Standings.{Whole}
use Rattle.mutex.specs.Whole.{whole_led, whole_point, IsUnderWay}
use Rattle.ruledwords.specs.declared.pass.Pass.{Pass}
use Rattle.ruledwords.specs.declared.pass.Live.{Live}
use Rattle.ruledwords.proofs.Advancing.{of_thread, count, few, goes, lives}
use Rattle.ruledwords.proofs.Phases.{goes_under_way, returns_ended}
use Rattle.ruledwords.proofs.pass.Words.advance.Goals as goal

pub invariant_of-pass : goal.invariant_of-pass
invariant_of-pass c =
    let w = c.args.self.now in
    let a = c.args.pass.now in
    let p : Whole = c.args.program.now in
    let f = c.found-found in
    let x = c.answer.result in
    let led = whole_led p x in
    let point = (goes_under_way (whole_point p led.point) led.phase c.resume.result c.in-Goes.point c.in-Goes.is c.resume.ensures.progress).1 in
    let h = c.count-pass in
    record {
      one = f.ensures.1;
      own = of_thread w a p c.requires.call c.requires.step f.new.seat f.result f.ensures c.next-access.result c.next-access.ensures x c.answer.ensures c.resume.new.self c.resume.ensures.moved c.in-Goes.point point h.result h.ensures;
      count = count w a p c.requires.call c.requires.step f.new.seat f.result f.ensures c.next-access.result c.next-access.ensures x c.answer.ensures c.resume.new.self c.resume.ensures.moved c.in-Goes.point point h.result h.ensures;
      few = few w a p c.requires.call c.requires.step f.new.seat f.result f.ensures c.next-access.result c.next-access.ensures x c.answer.ensures c.resume.new.self c.resume.ensures.moved c.in-Goes.point point h.result h.ensures;
    }

pub invariant_of-pass-in-Returns : goal.invariant_of-pass-in-Returns
invariant_of-pass-in-Returns c =
    let w = c.args.self.now in
    let a = c.args.pass.now in
    let p : Whole = c.args.program.now in
    let f = c.found-found in
    let x = c.answer.result in
    let led = whole_led p x in
    let point = (returns_ended (whole_point p led.point) led.phase c.resume.result c.in-Returns.reply c.in-Returns.point c.in-Returns.is c.resume.ensures.progress).1 in
    let h = c.count-pass-in-Returns in
    record {
      one = f.ensures.1;
      own = of_thread w a p c.requires.call c.requires.step f.new.seat f.result f.ensures c.next-access.result c.next-access.ensures x c.answer.ensures c.resume.new.self c.resume.ensures.moved c.in-Returns.point point h.result h.ensures;
      count = count w a p c.requires.call c.requires.step f.new.seat f.result f.ensures c.next-access.result c.next-access.ensures x c.answer.ensures c.resume.new.self c.resume.ensures.moved c.in-Returns.point point h.result h.ensures;
      few = few w a p c.requires.call c.requires.step f.new.seat f.result f.ensures c.next-access.result c.next-access.ensures x c.answer.ensures c.resume.new.self c.resume.ensures.moved c.in-Returns.point point h.result h.ensures;
    }

pub returns-in-Goes : goal.returns-in-Goes
returns-in-Goes c = λ of.
    let w = c.args.self.now in
    let a = c.args.pass.now in
    let p : Whole = c.args.program.now in
    let f = c.found-found in
    let x = c.answer.result in
    let led = whole_led p x in
    let going = goes_under_way (whole_point p led.point) led.phase c.resume.result c.in-Goes.point c.in-Goes.is c.resume.ensures.progress in
    let h = c.count-pass in
    let b : Pass Live = record { seat = f.new.seat; thread = a.thread; held = h.result; state = a.state; one = _; own = _; count = _; few = _ } in
    let under = subst (λ (q : Whole). IsUnderWay q.phase) (sym c.resume.ensures.moved) going.0 in
    goes w a p of c.requires.step f.new.seat f.result f.ensures c.next-access.result c.next-access.ensures x c.answer.ensures c.resume.new.self c.resume.ensures.moved c.in-Goes.point going.1 h.result h.ensures b f.ensures.0 refl refl under

pub returns-in-Returns : goal.returns-in-Returns
returns-in-Returns c = λ of.
    let w = c.args.self.now in
    let a = c.args.pass.now in
    let p : Whole = c.args.program.now in
    let f = c.found-found in
    let x = c.answer.result in
    let led = whole_led p x in
    let back = returns_ended (whole_point p led.point) led.phase c.resume.result c.in-Returns.reply c.in-Returns.point c.in-Returns.is c.resume.ensures.progress in
    let h = c.count-pass-in-Returns in
    let ended = ap (λ (q : Whole). q.phase) c.resume.ensures.moved ∙ back.0 in
    let b : Pass Live = record {
      seat = f.new.seat;
      thread = a.thread;
      held = h.result;
      state = a.state;
      one = f.ensures.1;
      own = of_thread w a p of c.requires.step f.new.seat f.result f.ensures c.next-access.result c.next-access.ensures x c.answer.ensures c.resume.new.self c.resume.ensures.moved c.in-Returns.point back.1 h.result h.ensures;
      count = count w a p of c.requires.step f.new.seat f.result f.ensures c.next-access.result c.next-access.ensures x c.answer.ensures c.resume.new.self c.resume.ensures.moved c.in-Returns.point back.1 h.result h.ensures;
      few = few w a p of c.requires.step f.new.seat f.result f.ensures c.next-access.result c.next-access.ensures x c.answer.ensures c.resume.new.self c.resume.ensures.moved c.in-Returns.point back.1 h.result h.ensures;
    } in
    lives w a p of c.requires.step f.new.seat f.result f.ensures c.next-access.result c.next-access.ensures x c.answer.ensures c.resume.new.self c.resume.ensures.moved c.in-Returns.point back.1 h.result h.ensures b f.ensures.0 refl refl c.in-Returns.reply ended
