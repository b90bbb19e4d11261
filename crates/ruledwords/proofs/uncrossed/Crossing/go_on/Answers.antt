use Rattle.std.proofs.Common.{ap, sym, ◌∙◌}
use Rattle.stepprograms.specs.declared.access.Answer.{Answer}
use Rattle.mutex.specs.Standings.{Whole}
use Rattle.mutex.specs.Whole.{whole_led, whole_point}
use Rattle.ruledwords.specs.InLine.{stands}
use Rattle.ruledwords.specs.Straight.{crossed_answer}
use Rattle.ruledwords.proofs.Phases.{returns_ended}
use Rattle.ruledwords.proofs.uncrossed.Crossing.go_on.Goals as goal

pub returns-in-Returns-clause-goes : goal.returns-in-Returns-clause-goes
returns-in-Returns-clause-goes c = λ w a call so.
    let x = c.args.self in
    let p : Whole = c.at-program.result in
    let led = whole_led p c.answer.result in
    let ended = (returns_ended (whole_point p led.point) led.phase c.resume.result c.in-Returns.reply c.in-Returns.point c.in-Returns.is c.resume.ensures.progress).0 in
    let same = c.at-program.ensures ∙ ap (stands x.line) c.phase.ensures in
    so.ends c.in-Returns.reply (ap (λ (y : Whole). (whole_led y (crossed_answer x.at)).phase) (sym same) ∙ ap (λ (y : Answer). (whole_led p y).phase) (sym c.answer.ensures) ∙ ended)
