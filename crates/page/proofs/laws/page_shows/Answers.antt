use Rattle.page.proofs.ReadBack as reads
use Rattle.page.proofs.laws.page_shows.Goals as goal

pub returns : goal.returns
returns c = reads.page_shows
