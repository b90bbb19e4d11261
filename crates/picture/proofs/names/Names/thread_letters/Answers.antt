use Rattle.std.proofs.Common.{map, arith}
use Rattle.std.specs.Prelude.{string_bytes}
use Rattle.picture.proofs.Roomy.{at_least}
use Rattle.picture.proofs.names.Names.thread_letters.Goals as goal

pub returns-clause-some : goal.returns-clause-some
returns-clause-some c = let some = at_least 1 (map string_bytes c.deref.result.now) in omega (arith, some, c.min.ensures, c.longest.ensures)
