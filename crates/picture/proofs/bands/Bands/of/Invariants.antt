use Rattle.std.proofs.Common.{◌≡◌, ◌≤◌, drop}
use Rattle.picture.specs.Bands.{first_bands, used}
use Rattle.picture.proofs.bands.Bands.of.Given as goal

abbrev pub invariant-loop-line : goal.invariant-loop-line
invariant-loop-line l = record {
  value : used l.room (first_bands 0) l.lines ≡ used l.room l.bands (drop l.line-index l.lines);
  few : l.bands.count ≤ l.room;
}
