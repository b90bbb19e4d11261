use Rattle.script.proofs.Killing.{kills_one}
use Rattle.script.proofs.laws.killall_kills_one_process.Goals as goal

pub returns : goal.returns
returns c = kills_one
