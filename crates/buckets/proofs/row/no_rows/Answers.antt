use Rattle.buckets.proofs.Rows.{nobody}
use Rattle.buckets.proofs.row.no_rows.Goals as goal
use Rattle.lockword.specs.Threads.{most_threads}

pub returns : goal.returns
returns c = nobody most_threads
