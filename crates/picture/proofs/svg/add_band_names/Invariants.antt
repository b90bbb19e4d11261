use Rattle.std.proofs.Common.{◌≡◌, ◌++◌}
use Rattle.std.specs.Prelude.{string_bytes}
use Rattle.picture.specs.Pieces.{each}
use Rattle.picture.specs.Svg.{svg_band}
use Rattle.picture.proofs.svg.add_band_names.Given as goal

abbrev pub invariant-loop-band : goal.invariant-loop-band
invariant-loop-band l = string_bytes l.text ≡ string_bytes l.initial.text ++ each (svg_band l.sheet.names.now l.sheet.extent) l.band
