use Rattle.std.proofs.Common.{drop, ◌+◌}
use Rattle.picture.specs.Svg.{first_since, parts}
use Rattle.picture.specs.Scenes.{first_scene}
use Rattle.picture.proofs.Going.{Sofar}
use Rattle.picture.proofs.svg_drawing.write_parts.Given as goal

abbrev pub invariant-loop-index : goal.invariant-loop-index
invariant-loop-index g l = Sofar (g.W.Write.contents l.initial.out) (g.W.Write.contents l.out) (parts l.sheet.names.now l.sheet.extent first_scene first_since 1 l.lines) (parts l.sheet.names.now l.sheet.extent l.scene l.since (l.index + 1) (drop l.index l.lines))
