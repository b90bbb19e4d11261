use Rattle.explore_report.specs.Asked.{choices_of}
use Rattle.explore_report.specs.Told.{question_in}
use Rattle.explore_report.proofs.Reading.{found_so, tells_so, untells_so}
use Rattle.explore_report.proofs.exploring.tell.Goals as goal

pub returns-in-Ok-explore-clause-tells : goal.returns-in-Ok-explore-clause-tells
returns-in-Ok-explore-clause-tells g c =
    let choices = choices_of c.args.options.now in
    let e = c.in-Ok-explore.ensures in
    tells_so c.args.bytes.now choices (question_in c.in-Ok.question) c.in-Ok-explore.found c.answer.result c.in-Ok.ensures.asks (found_so c.in-Ok.question.plan c.in-Ok-explore.found choices c.states.result c.states.ensures e.sound e.complete e.once e.few e.stopped) c.answer.ensures.answers

pub returns-in-Ok-explore-clause-fails : goal.returns-in-Ok-explore-clause-fails
returns-in-Ok-explore-clause-fails g c =
    let choices = choices_of c.args.options.now in
    let e = c.in-Ok-explore.ensures in
    untells_so c.args.bytes.now choices (question_in c.in-Ok.question) c.in-Ok-explore.found c.answer.result c.in-Ok.ensures.asks (found_so c.in-Ok.question.plan c.in-Ok-explore.found choices c.states.result c.states.ensures e.sound e.complete e.once e.few e.stopped) c.answer.ensures.fails
