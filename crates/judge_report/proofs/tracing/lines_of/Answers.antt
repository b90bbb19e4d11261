use Rattle.std.proofs.Common.{ap, ◌∙◌}
use Rattle.std.proofs.lemmas.List.{take_all}
use Rattle.judge_report.specs.Traces.{lines_of}
use Rattle.judge_report.proofs.Shown.{one_step}
use Rattle.judge_report.proofs.tracing.lines_of.Goals as goal

pub loop-step-preserved : goal.loop-step-preserved
loop-step-preserved c = one_step c.args.steps.now c.loop-step.step-index c.step-item.result c.loop-step.lines.items c.add_step.new.lines.items c.loop-step-test.true c.step-item.is c.loop-step.invariant c.in_ok-add_step.ensures.added

pub returns-clause-lines : goal.returns-clause-lines
returns-clause-lines c = c.loop-step.invariant ∙ ap lines_of (take_all c.loop-step.step-index c.args.steps.now c.loop-step-test.false)
