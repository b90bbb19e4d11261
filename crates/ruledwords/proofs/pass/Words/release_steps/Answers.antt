use Rattle.ruledwords.proofs.ReleaseSteps.{all_after}
use Rattle.ruledwords.proofs.pass.Words.release_steps.Goals as goal

pub returns-in-None-clause-steps : goal.returns-in-None-clause-steps
returns-in-None-clause-steps g c = all_after c.args.self.now c.args.pass.now c.args.begun c.first_release_steps.new.pass c.in_ok-program.program c.last_release_steps.new.pass c.last_release_steps.result c.in_ok-program.ensures.steps.1 c.last_release_steps.ensures.steps
