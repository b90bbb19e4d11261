use Rattle.protocol.proofs.Undivided.{nobody_stranded}
use Rattle.protocol.proofs.laws.no_sleeper_is_stranded.Goals as goal

pub returns : goal.returns
returns c = nobody_stranded
