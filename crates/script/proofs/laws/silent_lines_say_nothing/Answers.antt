use Rattle.script.proofs.Silences.{silence}
use Rattle.script.proofs.laws.silent_lines_say_nothing.Goals as goal

pub returns : goal.returns
returns _ = silence
