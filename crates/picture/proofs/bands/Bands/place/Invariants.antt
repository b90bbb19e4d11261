use Rattle.std.proofs.Common.{◌≡◌, ◌<◌, IfSome}
use Rattle.picture.specs.Bands.{band_in}
use Rattle.picture.proofs.bands.Bands.place.Given as goal

abbrev pub invariant-loop-index : goal.invariant-loop-index
invariant-loop-index l = record {
  value : l.place ≡ band_in l.self.mutexes l.mutex l.index;
  inside : IfSome l.place (λ i. i < l.index);
}
