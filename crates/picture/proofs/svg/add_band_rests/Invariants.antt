use Rattle.std.proofs.Common.{◌≡◌, ◌++◌}
use Rattle.std.specs.Prelude.{string_bytes}
use Rattle.picture.specs.Pieces.{each}
use Rattle.picture.specs.Svg.{band_rest}
use Rattle.picture.proofs.svg.add_band_rests.Given as goal

abbrev pub invariant-loop-band : goal.invariant-loop-band
invariant-loop-band l = string_bytes l.text ≡ string_bytes l.initial.text ++ each (band_rest l.sheet.names.now l.sheet.extent l.scene.objects l.since.bands l.line) l.band
