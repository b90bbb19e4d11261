use Rattle.page.proofs.Quoting as quoting
use Rattle.page.proofs.laws.names_stand_in_quotes.Goals as goal

pub returns : goal.returns
returns c = quoting.names_stand_in_quotes
