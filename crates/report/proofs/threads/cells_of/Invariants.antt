use Rattle.std.proofs.Common.{◌≡◌, ◌<◌, ℕ, length, get_or}
use Rattle.memorymap.specs.Layouts.{cell_place}
use Rattle.ruledwords.specs.Passes.{last_layout, last_words}
use Rattle.report.proofs.threads.cells_of.Given as goal

abbrev pub invariant-loop-mutex : goal.invariant-loop-mutex
invariant-loop-mutex l = (length l.cells.items ≡ l.mutex) × ((m : ℕ) → m < l.mutex → get_or l.cells.items m 0 ≡ get_or (last_words l.last) (cell_place (last_layout l.last) m) 0)
