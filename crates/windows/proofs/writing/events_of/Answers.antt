use Rattle.std.proofs.Common.{arith, ap, ◌∙◌}
use Rattle.std.proofs.lemmas.List.{take_all}
use Rattle.windows.specs.Texts.{steps_count}
use Rattle.windows.proofs.Steps.{count_grows, counts_on}
use Rattle.windows.proofs.writing.events_of.Goals as goal

pub loop-step-preserved : goal.loop-step-preserved
loop-step-preserved c =
    let i = c.loop-step.invariant in
    record {
      count = counts_on c.args.steps.now c.loop-step.step-index c.step-item.result c.loop-step.events _ c.loop-step-test.true c.step-item.is i.count c.counted-events.ensures;
      few = omega (arith, i.few, c.counted-events.ensures, count_grows c.loop-step.events c.step-item.result);
    }

pub returns : goal.returns
returns c = c.loop-step.invariant.count ∙ ap steps_count (take_all c.loop-step.step-index c.args.steps.now c.loop-step-test.false)
