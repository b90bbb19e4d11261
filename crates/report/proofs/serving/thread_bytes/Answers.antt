use Rattle.std.proofs.Common.{length, ap, ◌∙◌}
use Rattle.std.proofs.lemmas.Result.{IfErr-weaker, IfOk-weaker}
use Rattle.report.proofs.Failures.{told_fails}
use Rattle.report.proofs.Servings.{answered, as_many_dies, told}
use Rattle.report.proofs.Possible.{right_phases}
use Rattle.report.proofs.serving.thread_bytes.Goals as goal

pub answers_of-requires-clause-possible : goal.answers_of-requires-clause-possible
answers_of-requires-clause-possible g c κs within = right_phases c.in-Ok.script c.in-Ok-jobs.jobs.phases.items c.in-Ok.ensures.well_formed c.in-Ok-jobs.ensures.ok

pub returns-in-Ok-answers_of-clause-ends : goal.returns-in-Ok-answers_of-clause-ends
returns-in-Ok-answers_of-clause-ends g c =
    let s = c.in-Ok.script in
    let a = c.in-Ok-answers_of.answers in
    let answer = answered s a c.in-Ok-jobs.jobs.phases.items c.in-Ok-jobs.jobs.dies.items c.in-Ok-jobs.ensures.ok c.in-Ok-jobs.ensures.dies c.in-Ok-answers_of.ensures.answered in
    IfOk-weaker c.tell_answers.result _ _ (λ status w. (w.0, told _ _ c.args.bytes.now s a c.in-Ok.ensures.reads answer w.1)) c.tell_answers.ensures.ends

pub returns-in-Ok-answers_of-clause-fails : goal.returns-in-Ok-answers_of-clause-fails
returns-in-Ok-answers_of-clause-fails g c =
    let s = c.in-Ok.script in
    let a = c.in-Ok-answers_of.answers in
    let answer = answered s a c.in-Ok-jobs.jobs.phases.items c.in-Ok-jobs.jobs.dies.items c.in-Ok-jobs.ensures.ok c.in-Ok-jobs.ensures.dies c.in-Ok-answers_of.ensures.answered in
    IfErr-weaker c.tell_answers.result _ _ (λ f h. told_fails _ _ c.args.bytes.now s a c.in-Ok.ensures.reads answer f h) c.tell_answers.ensures.fails

pub answers_of-requires-clause-numbers : goal.answers_of-requires-clause-numbers
answers_of-requires-clause-numbers g c κs within = ap length c.in-Ok-jobs.ensures.dies ∙ as_many_dies c.in-Ok.script
