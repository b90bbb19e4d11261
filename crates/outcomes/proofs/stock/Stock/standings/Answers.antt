use Rattle.outcomes.proofs.Storing.{comparable_at}
use Rattle.outcomes.proofs.stock.Stock.standings.Goals as goal

pub standing_again-requires : goal.standing_again-requires
standing_again-requires c = comparable_at c.args.threads.now c.requires.comparable c.loop-index.index c.index-threads-index.result c.loop-index-test.true c.index-threads-index.is
