use Rattle.script.proofs.Firsts.{no_processes}
use Rattle.script.proofs.laws.one_process_without_a_line.Goals as goal

pub returns : goal.returns
returns c = no_processes
