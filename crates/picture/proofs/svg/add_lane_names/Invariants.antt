use Rattle.std.proofs.Common.{◌≡◌, ◌++◌}
use Rattle.std.specs.Prelude.{string_bytes}
use Rattle.picture.specs.Pieces.{each}
use Rattle.picture.specs.Svg.{svg_lane_behind}
use Rattle.picture.proofs.svg.add_lane_names.Given as goal

abbrev pub invariant-loop-index : goal.invariant-loop-index
invariant-loop-index l = string_bytes l.text ≡ string_bytes l.initial.text ++ each (svg_lane_behind l.sheet.names.now l.sheet.extent l.fn.bottom) l.index
