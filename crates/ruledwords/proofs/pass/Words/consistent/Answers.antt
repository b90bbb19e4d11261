use Rattle.std.proofs.Common.{ap, ◌∙◌}
use Rattle.ruledwords.specs.declared.pass.Pass.{Pass}
use Rattle.ruledwords.specs.declared.pass.Live.{Live}
use Rattle.ruledwords.specs.Passes.{card}
use Rattle.mutex.specs.declared.call.Call.TheVariants as call
use Rattle.ruledwords.proofs.Finishing.{stands_in, declared}
use Rattle.ruledwords.proofs.pass.Words.consistent.Goals as goal

pub finish-requires : goal.finish-requires
finish-requires g c = (c.args.pass, call.Consistent c.args.mutex, tt, stands_in c.args.self.now c.args.pass c.in-Ok.running (call.Consistent c.args.mutex) c.in-Ok.ensures.2)

pub returns-in-Ok-clause-declared : goal.returns-in-Ok-clause-declared
returns-in-Ok-clause-declared g c = declared c.args.self.now c.args.pass c.in-Ok.running c.args.mutex c.finish.result c.in-Ok.ensures.2 c.finish.ensures.finishes (c.finish.ensures.trims ∙ ap (λ (z : Pass Live). (card z).trims) c.in-Ok.ensures.1)
