use Rattle.protocol.proofs.Releases.{waits_release}
use Rattle.protocol.proofs.laws.waits_release_consistent_mutexes.Goals as goal

pub returns : goal.returns
returns c = waits_release
