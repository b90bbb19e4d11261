use Rattle.page.proofs.Flagging as flagging
use Rattle.page.proofs.laws.flags_are_read.Goals as goal

pub returns : goal.returns
returns c = flagging.flags_are_read
