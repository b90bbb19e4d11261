use Rattle.page.proofs.Escapes as escapes
use Rattle.page.proofs.laws.names_are_escaped.Goals as goal

pub returns : goal.returns
returns c = escapes.names_are_escaped
