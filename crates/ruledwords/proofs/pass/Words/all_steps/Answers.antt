use Rattle.std.proofs.Common.{◌∙◌}
use Rattle.ruledwords.proofs.Stepping.{ends_after, ends_in, still_nonblocking, untrimmed}
use Rattle.ruledwords.proofs.pass.Words.all_steps.Goals as goal

pub last_steps-requires : goal.last_steps-requires
last_steps-requires g c = still_nonblocking c.args.self.now c.args.pass.now c.args.program c.first_steps.new.pass c.in-Ok.program c.requires c.in-Ok.ensures.steps

pub returns-in-Ok-clause-ends : goal.returns-in-Ok-clause-ends
returns-in-Ok-clause-ends g c = ends_after c.args.self.now c.args.pass.now c.args.program c.first_steps.new.pass c.in-Ok.program c.last_steps.new.pass c.last_steps.result c.in-Ok.ensures.steps c.last_steps.ensures.ends

pub returns-in-Err-clause-ends : goal.returns-in-Err-clause-ends
returns-in-Err-clause-ends g c = ends_in c.args.self.now c.args.pass.now c.args.program c.first_steps.new.pass c.in-Err.end c.in-Err.ensures.steps

pub returns-in-Ok-clause-trims : goal.returns-in-Ok-clause-trims
returns-in-Ok-clause-trims g c = c.last_steps.ensures.trims ∙ c.in-Ok.ensures.steps.4

pub returns-in-Err-clause-trims : goal.returns-in-Err-clause-trims
returns-in-Err-clause-trims g c = untrimmed c.args.self.now c.args.pass.now c.args.program c.first_steps.new.pass c.in-Err.end c.in-Err.ensures.steps
