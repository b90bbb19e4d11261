use Rattle.std.proofs.Common.{◌≡◌, ◌++◌}
use Rattle.std.specs.Prelude.{string_bytes}
use Rattle.picture.specs.Pieces.{each}
use Rattle.picture.specs.Svg.{lane_rest}
use Rattle.picture.proofs.svg.add_lane_rests.Given as goal

abbrev pub invariant-loop-index : goal.invariant-loop-index
invariant-loop-index l = string_bytes l.text ≡ string_bytes l.initial.text ++ each (lane_rest l.extent l.scene.lanes l.since.lanes l.line) l.index
