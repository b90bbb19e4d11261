use Rattle.std.proofs.Common.{arith, ap, ◌∙◌, subst}
use Rattle.std.proofs.lemmas.List.{take_all}
use Rattle.std.specs.Io.KnownBytes.{Appends}
use Rattle.windows.specs.Texts.{steps_count, steps_lines}
use Rattle.windows.proofs.Steps.{count_grows, counts_on, goes_on, stops_at}
use Rattle.windows.proofs.writing.write_steps.Goals as goal

pub returns-in_err-events-clause-text : goal.returns-in_err-events-clause-text
returns-in_err-events-clause-text g c =
    stops_at c.args.steps.now c.loop-step.step-index c.step-item.result c.loop-step.events _ _ _ c.from_residual.result c.loop-step-test.true c.step-item.is c.from_residual.ensures.0 c.loop-step.invariant.count c.loop-step.invariant.text c.in_err-events.ensures.text

pub loop-step-preserved : goal.loop-step-preserved
loop-step-preserved g c =
    let i = c.loop-step.invariant in
    record {
      text = goes_on c.args.steps.now c.loop-step.step-index c.step-item.result c.loop-step.events _ _ _ c.loop-step-test.true c.step-item.is i.count i.text c.in_ok-events.ensures.text;
      count = counts_on c.args.steps.now c.loop-step.step-index c.step-item.result c.loop-step.events _ c.loop-step-test.true c.step-item.is i.count c.in_ok-events.ensures.count;
      few = omega (arith, i.few, c.in_ok-events.ensures.count, count_grows c.loop-step.events c.step-item.result);
    }

pub returns-clause-text : goal.returns-clause-text
returns-clause-text g c =
    let all = take_all c.loop-step.step-index c.args.steps.now c.loop-step-test.false in
    subst (Appends _ _) (ap steps_lines all) c.loop-step.invariant.text

pub returns-clause-count : goal.returns-clause-count
returns-clause-count g c = c.loop-step.invariant.count ∙ ap steps_count (take_all c.loop-step.step-index c.args.steps.now c.loop-step-test.false)
