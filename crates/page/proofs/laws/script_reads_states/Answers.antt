use Rattle.page.proofs.Decoding as decoding
use Rattle.page.proofs.laws.script_reads_states.Goals as goal

pub returns : goal.returns
returns c = decoding.script_reads_states
