use Rattle.std.proofs.Common.{◌≡◌, ◌++◌}
use Rattle.std.specs.Prelude.{string_bytes}
use Rattle.picture.specs.Pieces.{each}
use Rattle.picture.specs.Rows.{band_at}
use Rattle.picture.proofs.rows.add_bands.Given as goal

abbrev pub invariant-loop-band : goal.invariant-loop-band
invariant-loop-band l = string_bytes l.text ≡ string_bytes l.initial.text ++ each (band_at l.names l.extent l.objects) l.band
