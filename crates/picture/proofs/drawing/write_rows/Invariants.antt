use Rattle.std.proofs.Common.{drop}
use Rattle.picture.specs.Drawn.{rows_text}
use Rattle.picture.specs.Scenes.{first_scene}
use Rattle.picture.proofs.Going.{Sofar}
use Rattle.picture.proofs.drawing.write_rows.Given as goal

abbrev pub invariant-loop-index : goal.invariant-loop-index
invariant-loop-index g l = Sofar (g.W.Write.contents l.initial.out) (g.W.Write.contents l.out) (rows_text l.sheet.names.now l.sheet.extent first_scene l.lines) (rows_text l.sheet.names.now l.sheet.extent l.scene (drop l.index l.lines))
