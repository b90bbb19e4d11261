-- Calls that are refused where they look.
use Rattle.std.proofs.Common.{◌≡◌, ◌≢◌, ◌==◌, ℕ, Bool, true, false, Some, None, [], ◌∷◌, refl, sym, rules}
use Rattle.lockword.specs.Cells.{fields_of}
use Rattle.lockword.specs.declared.reply.Reply.{Reply}
use Rattle.posixmutex.specs.declared.point.Operation.{Operation}
use Rattle.posixmutex.specs.declared.point.Operation.TheVariants as operation
use Rattle.mutex.specs.Whole.{pending_place}
use Rattle.condvar.specs.Rows.{full}
use Rattle.pazdrig_c.specs.Accesses.{operation_number}
use Rattle.pazdrig_c.specs.Running.{begun}
use Rattle.pazdrig_c.specs.Plans.{LoadAlike}
use Rattle.pazdrig_c.specs.Shorts.{refusal_plan, RefusalByPlan, RefusalsByPlan, GoesOnUndecided, refused, progresses, up_to_look, wakes_all, is_own}
use Rattle.pazdrig_c.specs.declared.structs.PzCall.{PzCall}
use Rattle.pazdrig_c.specs.declared.running.Running.{Running}
use Rattle.pazdrig_c.proofs.Loads.{elsewhere}

-- (the tests of a trylock, a signal and a broadcast are split by hand: the search would split too much)
refuses : (op : Operation) (k : PzCall) (r : Running) (w s : ℕ) (x : Reply) → begun (operation_number op) k ≡ Some r → refused op k.thread (fields_of w) s ≡ Some x → RefusalByPlan op k r w s x
refuses operation.Lock k r w s x is refusal = search rules
refuses operation.TryLock k r w s x is refusal = go (fields_of w).unusable refl ((fields_of w).owner == 0) refl
  where
    go : (u : Bool) → (fields_of w).unusable ≡ u → (o : Bool) → ((fields_of w).owner == 0) ≡ o → RefusalByPlan operation.TryLock k r w s x
    go true eu o eo = search rules
    go false eu true eo = search rules
    go false eu false eo = search rules
refuses operation.Unlock k r w s x is refusal = search rules
refuses operation.Consistent k r w s x is refusal = search rules
refuses operation.Wait k r w s x is refusal = search rules
refuses operation.Signal k r w s x is refusal = go (is_own k.thread w) refl (s == full) refl
  where
    go : (o : Bool) → is_own k.thread w ≡ o → (f : Bool) → (s == full) ≡ f → RefusalByPlan operation.Signal k r w s x
    go true eo true ef = search rules
    go true eo false ef = search rules
    go false eo f ef = search rules
refuses operation.Broadcast k r w s x is refusal = go (is_own k.thread w) refl (s == full) refl
  where
    go : (o : Bool) → is_own k.thread w ≡ o → (f : Bool) → (s == full) ≡ f → RefusalByPlan operation.Broadcast k r w s x
    go true eo true ef = search rules
    go true eo false ef = search rules
    go false eo f ef = search rules
refuses operation.Death k r w s x is refusal = search rules
refuses operation.Reinit k r w s x is refusal = search rules
refuses operation.TimedLock k r w s x is refusal = search rules
refuses operation.TimedWait k r w s x is refusal = search rules

else_goes_on : (op : Operation) (k : PzCall) (r : Running) (w s : ℕ) → begun (operation_number op) k ≡ Some r → refused op k.thread (fields_of w) s ≡ None → wakes_all op (fields_of w) ≡ false → GoesOnUndecided (progresses r (up_to_look op (is_own k.thread w) w s))
else_goes_on operation.Lock k r w s is none one = search rules
else_goes_on operation.TryLock k r w s is none one = search rules
else_goes_on operation.Unlock k r w s is none one = search rules
else_goes_on operation.Consistent k r w s is none one = search rules
else_goes_on operation.Wait k r w s is none one = search rules
else_goes_on operation.Signal k r w s is none one = search rules
else_goes_on operation.Broadcast k r w s is none one = search rules
else_goes_on operation.Death k r w s is none one = search rules
else_goes_on operation.Reinit k r w s is none one = search rules
else_goes_on operation.TimedLock k r w s is none one = search rules
else_goes_on operation.TimedWait k r w s is none one = search rules

loads : (op : Operation) (k : PzCall) (own : Bool) → k.cell ≢ pending_place k.head → LoadAlike (refusal_plan op own k.head k.entry k.cell k.counter)
loads operation.Lock k own apart words = λ i. sym (elsewhere k.cell (pending_place k.head) k.entry (words k.cell) apart) i ∷ []
loads operation.TryLock k own apart words = λ i. sym (elsewhere k.cell (pending_place k.head) k.entry (words k.cell) apart) i ∷ []
loads operation.Signal k true apart words = refl
loads operation.Signal k false apart words = refl
loads operation.Broadcast k true apart words = refl
loads operation.Broadcast k false apart words = refl
loads op k own apart words = refl

pub by_plan : RefusalsByPlan
by_plan = record { refuses = refuses; loads = loads; else_goes_on = else_goes_on }
