use Rattle.std.proofs.Common.{◌≡◌, ◌++◌}
use Rattle.std.specs.Prelude.{string_bytes}
use Rattle.picture.specs.Pieces.{each}
use Rattle.std.proofs.Common.{map}
use Rattle.picture.specs.Rows.{cell_at}
use Rattle.picture.proofs.rows.add_cells.Given as goal

abbrev pub invariant-loop-index : goal.invariant-loop-index
invariant-loop-index l = string_bytes l.text ≡ string_bytes l.initial.text ++ each (cell_at l.row.extent l.row.thread l.row.from l.row.sign.now (map (λ w. w.now) l.row.words.now) l.lanes) l.index
