-- Where a section looks.
use Rattle.std.proofs.Common.{◌≡◌, ℕ, ap, ◌∙◌, arith}
use Rattle.stepprograms.specs.Accesses.{address_of}
use Rattle.memorymap.specs.Layouts.{Layout', cell_place, place_in}
use Rattle.mutex.specs.Standings.{Whole}
use Rattle.mutex.specs.Whole.{whole_access}
use Rattle.mutex.proofs.Addresses.{again}
use Rattle.mutex.proofs.Steps.{at_cell}
use Rattle.ruledwords.specs.declared.pass.Words.{Words}
use Rattle.ruledwords.specs.declared.turn.Running.{Running}
use Rattle.ruledwords.specs.Calls.{row_in, IsOnMutex}
use Rattle.ruledwords.specs.Passes.{card, layout_of}
use Rattle.ruledwords.specs.Turns.{place_at, running_program, IsOneStep, IsRunningOf}
use Rattle.ruledwords.proofs.Phases.{cell_access, section_at_cell}

-- it is at its mutex's cell
pub section_place : (w : Words) (r : Running) → IsRunningOf w r → (IsOneStep (whole_access r.program) → ⊥) → (m : ℕ) → IsOnMutex (layout_of w) (running_program r) m → place_at (layout_of w) r ≡ cell_place (layout_of w) m
section_place w r of section m here =
    let k = layout_of w in
    let p : Whole = r.program in
    let at = section_at_cell p r.going section in
    let low = here.0 in
    ap (λ a. place_in k (card r.pass).thread (address_of a)) (cell_access p at)
    ∙ ap (place_in k (card r.pass).thread) (at_cell p.thread p.cell (row_in p.phase) ∙ here.1 ∙ ap (λ (t : ℕ). Rattle.memorymap.specs.Layouts.address_in k t (cell_place k m)) r.ready.0)
    ∙ again k (card r.pass).thread of.0.1.layout of.0.1.first of.0.1.thread (cell_place k m) (omega arith)
