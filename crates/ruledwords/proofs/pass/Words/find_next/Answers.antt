use Rattle.std.proofs.Common.{refl, ap, ◌∙◌}
use Rattle.stepprograms.specs.declared.access.Access.{Access}
use Rattle.stepprograms.specs.declared.access.Answer.{Answer}
use Rattle.stepprograms.specs.Accesses.{answer_at}
use Rattle.mutex.specs.Standings.{Whole}
use Rattle.mutex.specs.Whole.{whole_led, whole_point}
use Rattle.ruledwords.specs.InLine.{told_in}
use Rattle.ruledwords.proofs.Advancing.{of_thread, count, few}
use Rattle.ruledwords.proofs.InLine.{leads, told}
use Rattle.ruledwords.proofs.pass.Words.find_next.Goals as goal

pub invariant_of-pass : goal.invariant_of-pass
invariant_of-pass c =
    let w = c.args.self.now in
    let a = c.args.pass.now in
    let p : Whole = c.args.program.now in
    let f = c.found-found in
    let x = c.answer.result in
    let led = whole_led p x in
    let point = c.point_in-point.ensures ∙ ap told_in c.resume.ensures.progress ∙ told (whole_point p led.point) led.phase in
    let h = c.count-pass in
    record {
      one = f.ensures.1;
      own = of_thread w a p c.requires.call c.requires.step f.new.seat f.result f.ensures c.next-access.result c.next-access.ensures x c.answer.ensures c.resume.new.self c.resume.ensures.moved c.point_in-point.result point h.result h.ensures;
      count = count w a p c.requires.call c.requires.step f.new.seat f.result f.ensures c.next-access.result c.next-access.ensures x c.answer.ensures c.resume.new.self c.resume.ensures.moved c.point_in-point.result point h.result h.ensures;
      few = few w a p c.requires.call c.requires.step f.new.seat f.result f.ensures c.next-access.result c.next-access.ensures x c.answer.ensures c.resume.new.self c.resume.ensures.moved c.point_in-point.result point h.result h.ensures;
    }

pub returns : goal.returns
returns c =
    let w = c.args.self.now in
    let a = c.args.pass.now in
    let p : Whole = c.args.program.now in
    let f = c.found-found in
    let x = c.answer.result in
    let led = whole_led p x in
    let point = c.point_in-point.ensures ∙ ap told_in c.resume.ensures.progress ∙ told (whole_point p led.point) led.phase in
    let same = c.answer.ensures ∙ ap (λ (y : Access). answer_at y f.result) c.next-access.ensures in
    let counted = point ∙ ap (λ (y : Answer). whole_point p (whole_led p y).point) same in
    leads w a p c.requires.call c.requires.step f.new.seat f.result f.ensures c.point_in-point.result counted c.count-pass.result c.count-pass.ensures _ f.ensures.0 refl refl
