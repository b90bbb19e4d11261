use Rattle.mutex.proofs.WholeLists.{right}
use Rattle.mutex.proofs.laws.whole_calls_keep_lists.Goals as goal

pub returns : goal.returns
returns c = right
