use Rattle.std.proofs.Common.{ap, ◌∙◌}
use Rattle.ruledwords.specs.declared.pass.Pass.{Pass}
use Rattle.ruledwords.specs.declared.pass.Live.{Live}
use Rattle.mutex.specs.declared.call.Call.TheVariants as call
use Rattle.ruledwords.specs.Passes.{card, layout_of}
use Rattle.ruledwords.specs.Seen.{held}
use Rattle.ruledwords.proofs.Beginnings.{try_begins}
use Rattle.ruledwords.proofs.Finishing.{stands_in, tried}
use Rattle.ruledwords.proofs.pass.Words.try_lock.Goals as goal

pub finish-requires : goal.finish-requires
finish-requires g c = (c.args.pass, call.TryLock c.args.mutex, tt, stands_in c.args.self.now c.args.pass c.in-Ok.running (call.TryLock c.args.mutex) c.in-Ok.ensures.2)

pub returns-in-Ok-clause-tried : goal.returns-in-Ok-clause-tried
returns-in-Ok-clause-tried g c =
    let a = c.args.pass in
    let few = (try_begins (layout_of c.args.self.now) (card a).thread (held (card a)) c.args.mutex c.in-Ok.running.program c.in-Ok.ensures.0).0 in
    tried c.args.self.now a c.in-Ok.running c.args.mutex c.finish.result c.in-Ok.ensures.2 few c.finish.ensures.finishes (c.finish.ensures.trims ∙ ap (λ (z : Pass Live). (card z).trims) c.in-Ok.ensures.1)
