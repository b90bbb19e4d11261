use Rattle.std.proofs.Common.{◌≡◌, ◌≤◌, refl, sym, ap, ◌∙◌, subst, arith}
use Rattle.stepprograms.specs.declared.access.Access.{Access}
use Rattle.mutex.specs.declared.phase.Phase.TheVariants.{Ended}
use Rattle.mutex.specs.Programs.{led, moved}
use Rattle.mutex.specs.Standings.{Standing, Whole}
use Rattle.mutex.specs.Whole.{whole_led, whole_moved, whole_point, IsUnderWay}
use Rattle.ruledwords.specs.Calls.{Ready, most, standing_of}
use Rattle.ruledwords.specs.Passes.{card}
use Rattle.ruledwords.specs.Turns.{IsAnswerOf}
use Rattle.ruledwords.proofs.CellTurns.{runs_answered, stands_answered_on, decided_answered, lives_answered, ended_answered, reply_answered}
use Rattle.ruledwords.proofs.Phases.{answered_at_cell, cell_access, cell_moved, goes_under_way, returns_ended}
use Rattle.ruledwords.proofs.Sections.{passes, ready_answered}
use Rattle.ruledwords.proofs.turn.Running.answer.Goals as goal

pub invariant_of-result : goal.invariant_of-result
invariant_of-result c =
    let r = c.args.self in
    let p : Whole = r.program in
    let x = c.args.answer in
    let at = answered_at_cell p x r.going c.requires in
    let fits = subst (λ (a : Access). IsAnswerOf a x) (cell_access p at) c.requires in
    let to : c.resume.new.self ≡ whole_moved p (whole_led p x) = c.resume.ensures.moved in
    let going = goes_under_way (whole_point p (whole_led p x).point) (whole_led p x).phase c.resume.result c.in-Goes.point c.in-Goes.is c.resume.ensures.progress in
    let under = subst (λ (q : Whole). IsUnderWay q.phase) (sym to) going.0 in
    let z : Standing = standing_of p in
    let moves : standing_of c.resume.new.self ≡ moved z (led z x) = ap standing_of to ∙ cell_moved p x at in
    let room = (passes z.thread z.cell z.row x fits).room in
    let had = r.room in
    record {
      ready = subst (λ (y : Standing). Ready y (card r.pass)) (sym moves) (ready_answered z (card r.pass) x fits r.ready);
      room = subst (λ (y : Standing). r.pass.held ≤ most y.row) (sym moves) (omega arith);
      going = under;
    }

pub returns-in-Goes-clause-words : goal.returns-in-Goes-clause-words
returns-in-Goes-clause-words c = λ w of.
    let r = c.args.self in
    let p : Whole = r.program in
    let x = c.args.answer in
    let at = answered_at_cell p x r.going c.requires in
    let fits = subst (λ (a : Access). IsAnswerOf a x) (cell_access p at) c.requires in
    let to : c.resume.new.self ≡ whole_moved p (whole_led p x) = c.resume.ensures.moved in
    let going = goes_under_way (whole_point p (whole_led p x).point) (whole_led p x).phase c.resume.result c.in-Goes.point c.in-Goes.is c.resume.ensures.progress in
    let under = subst (λ (q : Whole). IsUnderWay q.phase) (sym to) going.0 in
    runs_answered w r of at x fits c.resume.new.self to under

pub returns-in-Goes-clause-keeps : goal.returns-in-Goes-clause-keeps
returns-in-Goes-clause-keeps c = λ w a call u.
    let r = c.args.self in
    let p : Whole = r.program in
    let x = c.args.answer in
    let at = answered_at_cell p x r.going c.requires in
    let fits = subst (λ (a : Access). IsAnswerOf a x) (cell_access p at) c.requires in
    let to : c.resume.new.self ≡ whole_moved p (whole_led p x) = c.resume.ensures.moved in
    let going = goes_under_way (whole_point p (whole_led p x).point) (whole_led p x).phase c.resume.result c.in-Goes.point c.in-Goes.is c.resume.ensures.progress in
    let under = subst (λ (q : Whole). IsUnderWay q.phase) (sym to) going.0 in
    let s = stands_answered_on w r u.0 at x fits c.resume.new.self to a call u in
    (runs_answered w r u.0 at x fits c.resume.new.self to under, s.0, s.1)

pub returns-in-Goes-clause-decided : goal.returns-in-Goes-clause-decided
returns-in-Goes-clause-decided c = λ w m e y was.
    let r = c.args.self in
    let p : Whole = r.program in
    let x = c.args.answer in
    let at = answered_at_cell p x r.going c.requires in
    let fits = subst (λ (a : Access). IsAnswerOf a x) (cell_access p at) c.requires in
    let to : c.resume.new.self ≡ whole_moved p (whole_led p x) = c.resume.ensures.moved in
    let going = goes_under_way (whole_point p (whole_led p x).point) (whole_led p x).phase c.resume.result c.in-Goes.point c.in-Goes.is c.resume.ensures.progress in
    let under = subst (λ (q : Whole). IsUnderWay q.phase) (sym to) going.0 in
    let s = decided_answered w r was.0 at x fits c.resume.new.self to m e y was in
    (runs_answered w r was.0 at x fits c.resume.new.self to under, s.0, s.1, s.2)

pub returns-in-Returns-clause-turned : goal.returns-in-Returns-clause-turned
returns-in-Returns-clause-turned c =
    let r = c.args.self in
    let p : Whole = r.program in
    let x = c.args.answer in
    let at = answered_at_cell p x r.going c.requires in
    let fits = subst (λ (a : Access). IsAnswerOf a x) (cell_access p at) c.requires in
    let to : c.resume.new.self ≡ whole_moved p (whole_led p x) = c.resume.ensures.moved in
    let back = returns_ended (whole_point p (whole_led p x).point) (whole_led p x).phase c.resume.result c.in-Returns.reply c.in-Returns.point c.in-Returns.is c.resume.ensures.progress in
    let ended : c.resume.new.self.phase ≡ Ended c.in-Returns.reply = ap (λ (q : Whole). q.phase) to ∙ back.0 in
    (refl, back.0)

pub returns-in-Returns-clause-words : goal.returns-in-Returns-clause-words
returns-in-Returns-clause-words c = λ w of.
    let r = c.args.self in
    let p : Whole = r.program in
    let x = c.args.answer in
    let at = answered_at_cell p x r.going c.requires in
    let fits = subst (λ (a : Access). IsAnswerOf a x) (cell_access p at) c.requires in
    let to : c.resume.new.self ≡ whole_moved p (whole_led p x) = c.resume.ensures.moved in
    let back = returns_ended (whole_point p (whole_led p x).point) (whole_led p x).phase c.resume.result c.in-Returns.reply c.in-Returns.point c.in-Returns.is c.resume.ensures.progress in
    let ended : c.resume.new.self.phase ≡ Ended c.in-Returns.reply = ap (λ (q : Whole). q.phase) to ∙ back.0 in
    lives_answered w r of at x fits c.resume.new.self to c.in-Returns.reply ended

pub returns-in-Returns-clause-keeps : goal.returns-in-Returns-clause-keeps
returns-in-Returns-clause-keeps c = λ w a call u.
    let r = c.args.self in
    let p : Whole = r.program in
    let x = c.args.answer in
    let at = answered_at_cell p x r.going c.requires in
    let fits = subst (λ (a : Access). IsAnswerOf a x) (cell_access p at) c.requires in
    let to : c.resume.new.self ≡ whole_moved p (whole_led p x) = c.resume.ensures.moved in
    let back = returns_ended (whole_point p (whole_led p x).point) (whole_led p x).phase c.resume.result c.in-Returns.reply c.in-Returns.point c.in-Returns.is c.resume.ensures.progress in
    let ended : c.resume.new.self.phase ≡ Ended c.in-Returns.reply = ap (λ (q : Whole). q.phase) to ∙ back.0 in
    let s = ended_answered w r u.0 at x fits c.resume.new.self to c.in-Returns.reply ended a call u in
    (lives_answered w r u.0 at x fits c.resume.new.self to c.in-Returns.reply ended, s.0, s.1, s.2)

pub returns-in-Returns-clause-decided : goal.returns-in-Returns-clause-decided
returns-in-Returns-clause-decided c = λ w m e y was.
    let r = c.args.self in
    let p : Whole = r.program in
    let x = c.args.answer in
    let at = answered_at_cell p x r.going c.requires in
    let fits = subst (λ (a : Access). IsAnswerOf a x) (cell_access p at) c.requires in
    let to : c.resume.new.self ≡ whole_moved p (whole_led p x) = c.resume.ensures.moved in
    let back = returns_ended (whole_point p (whole_led p x).point) (whole_led p x).phase c.resume.result c.in-Returns.reply c.in-Returns.point c.in-Returns.is c.resume.ensures.progress in
    let ended : c.resume.new.self.phase ≡ Ended c.in-Returns.reply = ap (λ (q : Whole). q.phase) to ∙ back.0 in
    (lives_answered w r was.0 at x fits c.resume.new.self to c.in-Returns.reply ended, reply_answered w r was.0 at x fits c.resume.new.self to c.in-Returns.reply ended m e y was, was.3)
