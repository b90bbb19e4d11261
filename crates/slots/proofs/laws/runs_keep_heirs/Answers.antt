use Rattle.slots.proofs.Following.{heirs_kept}
use Rattle.slots.proofs.laws.runs_keep_heirs.Goals as goal

pub returns : goal.returns
returns c = heirs_kept
