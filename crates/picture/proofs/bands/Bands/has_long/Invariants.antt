use Rattle.std.proofs.Common.{◌≡◌}
use Rattle.picture.specs.Bands.{has_long}
use Rattle.picture.proofs.bands.Bands.has_long.Given as goal

abbrev pub invariant-loop-index : goal.invariant-loop-index
invariant-loop-index l = l.has_long ≡ has_long l.self.mutexes l.index
