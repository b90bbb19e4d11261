use Rattle.std.proofs.Common.{subst}
use Rattle.interleave.specs.Reached.{IsReached}
use Rattle.interleave.proofs.machine.Machine.reached.Goals as goal

pub returns : goal.returns
returns c = subst IsReached c.self.view_is c.self.invariant
