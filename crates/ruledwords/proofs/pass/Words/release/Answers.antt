use Rattle.ruledwords.proofs.ReleaseSteps.{releases_begun}
use Rattle.ruledwords.proofs.pass.Words.release.Goals as goal

pub release_to_wake-requires : goal.release_to_wake-requires
release_to_wake-requires g c = (c.args.pass, c.args.mutex, releases_begun c.args.self.now c.args.pass c.args.mutex c.in-Ok.running c.in-Ok.ensures.0 c.in-Ok.ensures.1 c.in-Ok.ensures.2)

pub returns-in-Ok-clause-frees : goal.returns-in-Ok-clause-frees
returns-in-Ok-clause-frees g c = c.release_to_wake.ensures.frees c.args.pass c.args.mutex (releases_begun c.args.self.now c.args.pass c.args.mutex c.in-Ok.running c.in-Ok.ensures.0 c.in-Ok.ensures.1 c.in-Ok.ensures.2)
