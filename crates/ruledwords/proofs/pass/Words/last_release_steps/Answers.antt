use Rattle.std.proofs.Common.{sym, ◌∙◌, arith}
use Rattle.ruledwords.specs.Turns.{running_of}
use Rattle.ruledwords.proofs.Releasing.{owes_nothing}
use Rattle.ruledwords.proofs.ReleaseSteps.{after, all_handed_on, releases_fall}
use Rattle.ruledwords.proofs.Stepping.{counts_on}
use Rattle.ruledwords.proofs.pass.Words.last_release_steps.Goals as goal

pub returns-in-Some-clause-steps : goal.returns-in-Some-clause-steps
returns-in-Some-clause-steps g c = let i = c.loop-wakes.invariant in (i.releases, i.stays, sym c.phase.ensures ∙ c.in-Some.ensures)

pub loop-wakes-smaller : goal.loop-wakes-smaller
loop-wakes-smaller g c =
    let w = c.args.self.now in
    let not = owes_nothing c.loop-wakes.program.phase c.phase.result c.owing.result (λ v e. c.in_default.not-Some v e) c.owing.ensures c.phase.ensures in
    let s = c.loop-wakes.invariant.releases in
    let t = c.in_ok-release_step.ensures.once.1 not s.2.0 in
    releases_fall w s.0 s.1 c.loop-wakes.pass c.loop-wakes.program s.2 not (running_of w c.release_step.new.pass c.release_step.new.program t.0) t.1

pub loop-wakes-preserved : goal.loop-wakes-preserved
loop-wakes-preserved g c = record {
  releases = c.in_ok-release_step.ensures.once.0;
  stays = λ x m is. c.in_ok-release_step.ensures.steps x m (c.loop-wakes.invariant.stays x m is);
  fate = let now = c.in_ok-release_step.ensures.fate in let so_far = c.loop-wakes.invariant.fate in omega arith;
}

pub returns-in_err-release_step-clause-steps : goal.returns-in_err-release_step-clause-steps
returns-in_err-release_step-clause-steps g c =
    let e = c.in_err-release_step.field-0.0 in
    let ends = after c.args.self.now c.args.pass.now c.args.begun c.loop-wakes.pass c.loop-wakes.program c.release_step.new.pass e c.loop-wakes.invariant.stays c.in_err-release_step.ensures.steps in
    all_handed_on c.args.self.now c.args.pass.now c.args.begun c.release_step.new.pass c.from_residual.result e c.from_residual.ensures.1 ends

pub returns-in_err-release_step-clause-fate : goal.returns-in_err-release_step-clause-fate
returns-in_err-release_step-clause-fate g c =
    let so_far = c.loop-wakes.invariant.fate in
    let told = c.in_err-release_step.ensures.fate in
    counts_on c.from_residual.result c.in_err-release_step.field-0.0 _ _ c.from_residual.ensures.1 (omega arith)
