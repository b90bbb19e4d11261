-- Which accesses of calls are steps on one word.
use Rattle.std.proofs.Common.{⊎_elim, ℕ, sym, subst}
use Rattle.stepprograms.specs.declared.access.Access.{Access}
use Rattle.stepprograms.specs.declared.access.Access.TheVariants as access
use Rattle.posixmutex.specs.declared.point.Operation.TheVariants as operation
use Rattle.mutex.specs.declared.call.Call.TheVariants as call
use Rattle.mutex.specs.declared.row.Row.{Row}
use Rattle.mutex.specs.declared.row.Row.TheVariants.{Lock, TryLock, Unlock, Consistent, Ended}
use Rattle.mutex.specs.declared.consistent.ConsistentRow.TheVariants as consistent
use Rattle.mutex.specs.Laws.{IsOf}
use Rattle.mutex.specs.Programs.{access_of, row_access}
use Rattle.mutex.specs.Rows.{IsGoing}
use Rattle.mutex.specs.Steps.{IsStep}
use Rattle.mutex.specs.WholeLists.{IsOwnAccess}
use Rattle.mutex.proofs.Steps.{try_steps}
use Rattle.ruledwords.specs.declared.pass.Words.{Words}
use Rattle.ruledwords.specs.declared.pass.Pass.{Pass}
use Rattle.ruledwords.specs.declared.pass.Live.{Live}
use Rattle.ruledwords.specs.declared.turn.Running.{Running}
use Rattle.ruledwords.specs.Calls.{row_in, standing_of}
use Rattle.ruledwords.specs.Turns.{access_in, running_call, IsAtCell, IsOneStep, IsRunningOf, IsUnderWay}
use Rattle.ruledwords.proofs.CellTurns.{going}
use Rattle.ruledwords.proofs.Phases.{cell_access, is_load_or_store, one_own}
use Rattle.ruledwords.proofs.Ranks.{own_or_at_cell}

step_is_one : (a : Access) → IsStep a → IsOneStep a
step_is_one (access.Store at v) step = tt
step_is_one a step = step

consistent_steps : (t cell : ℕ) (r : Row) → IsGoing r → IsOf operation.Consistent r → IsStep (row_access t cell r)
consistent_steps t cell (Lock r) going of = absurd (cc of)
consistent_steps t cell (TryLock r) going of = absurd (cc of)
consistent_steps t cell (Unlock r) going of = absurd (cc of)
consistent_steps t cell (Consistent consistent.Load) going of = tt
consistent_steps t cell (Consistent consistent.Declare) going of = tt
consistent_steps t cell (Ended x) going of = absurd going

-- an access at an own word is one; and one at the cell is, where its row's is
pub one_step : (w : Words) (r : Running) → IsRunningOf w r → (IsAtCell (running_call r).phase → IsGoing (row_in r.program.phase) → IsStep (access_of (standing_of r.program))) → IsOneStep (access_in r)
one_step w r of steps = ⊎_elim
    (λ (own : IsOwnAccess r.program.phase). one_own (access_in r) (is_load_or_store r.program own))
    (λ (at : IsAtCell r.program.phase). subst IsOneStep (sym (cell_access r.program at)) (step_is_one _ (steps at (going w r of at))))
    (own_or_at_cell r.program.phase r.going)

pub try_step : (w : Words) (a : Pass Live) (m : ℕ) (r : Running) → IsUnderWay w a (call.TryLock m) r → IsOneStep (access_in r)
try_step w a m r u = one_step w r u.0 (λ at goes. try_steps r.program.thread r.program.cell (row_in r.program.phase) goes u.2.of)

pub consistent_step : (w : Words) (a : Pass Live) (m : ℕ) (r : Running) → IsUnderWay w a (call.Consistent m) r → IsOneStep (access_in r)
consistent_step w a m r u = one_step w r u.0 (λ at goes. consistent_steps r.program.thread r.program.cell (row_in r.program.phase) goes u.2.of)
