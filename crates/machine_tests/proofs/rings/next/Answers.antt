use Rattle.std.proofs.lemmas.Nat.{mod_below}
use Rattle.machine_tests.proofs.rings.next.Goals as goal

pub returns : goal.returns
returns c = mod_below _ _ c.requires
