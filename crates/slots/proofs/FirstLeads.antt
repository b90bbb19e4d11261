-- Where a call's first look leads, and the announcement and the release of a wait.
use Rattle.std.proofs.Common.{◌≡◌, ℕ, ◌+◌, ◌%◌, ◌^◌, ◌<◌, ◌==◌, Bool, true, false, Some, List, [], ◌∷◌, ◌++◌, length, refl, sym, ap, ◌∙◌, subst, arith, eqb-true, eq-eqb}
use Rattle.std.specs.Prelude.{nat_lt, not, slice_index, ◌&&◌}
use Rattle.std.proofs.lemmas.Bool.Decides.{nat_tests}
use Rattle.lockword.specs.Cells.{Fields, fields_of}
use Rattle.lockword.specs.declared.reply.Reply.{Reply}
use Rattle.lockword.specs.declared.reply.Reply.TheVariants.{EINVAL, EPERM, XSTATE}
use Rattle.stepprograms.specs.declared.access.Access.{Access}
use Rattle.stepprograms.specs.declared.access.Answer.TheVariants.{Value}
use Rattle.posixmutex.specs.Objects.{acquires}
use Rattle.posixmutex.specs.declared.point.Operation.{Operation}
use Rattle.posixmutex.specs.declared.point.Operation.TheVariants as operation
use Rattle.memorymap.specs.Layouts.{cell_place, counter_place, head_place, place_in}
use Rattle.robustlist.specs.Standings.{UnlinkStanding}
use Rattle.robustlist.specs.Unlink.{unlink_started}
use Rattle.mutex.specs.declared.call.Call.{Call}
use Rattle.mutex.specs.declared.call.Call.TheVariants as call
use Rattle.mutex.specs.declared.phase.Phase.TheVariants.{Ended}
use Rattle.mutex.specs.Calls as calls
use Rattle.mutex.specs.Consistent.{consistent_sees}
use Rattle.mutex.specs.Unlock.{unlock_sees}
use Rattle.mutex.specs.Rows.{ends}
use Rattle.mutex.specs.Whole as whole
use Rattle.mutex.specs.Whole.{from_cell, whole_access, whole_led}
use Rattle.condvar.specs.declared.call.CondCall.{CondCall}
use Rattle.condvar.specs.declared.call.CondCall.TheVariants as cond_call
use Rattle.condvar.specs.declared.phase.CondPhase.{CondPhase}
use Rattle.condvar.specs.declared.row.CondRow as cond_rows
use Rattle.condvar.specs.declared.row.CondRow.TheVariants as cond_row
use Rattle.condvar.specs.declared.wait.WaitRow.TheVariants as wait
use Rattle.condvar.specs.declared.signal.SignalRow.TheVariants as signal
use Rattle.condvar.specs.declared.broadcast.BroadcastRow.TheVariants as broadcast
use Rattle.condvar.specs.Broadcast.{broadcast_sees}
use Rattle.condvar.specs.Calls.{condition_of}
use Rattle.condvar.specs.Programs as programs
use Rattle.condvar.specs.Rows as rows
use Rattle.condvar.specs.Signal.{signal_sees}
use Rattle.condvar.specs.Standings.{CondWhole}
use Rattle.condvar.specs.Wait.{wait_sees}
use Rattle.condvar.specs.Whole.{cond_access, cond_led, from_words}
use Rattle.condvar.specs.declared.op.Op.TheVariants.{OnMutex, OnCondition}
use Rattle.condvar.specs.Ops.{may_call, operation_of}
use Rattle.protocol.specs.declared.event.Event.{Event}
use Rattle.protocol.specs.declared.event.Event.TheVariants.{Begin, Step}
use Rattle.protocol.specs.declared.thread.Thread.{Thread}
use Rattle.protocol.specs.declared.thread.Stage.{Stage}
use Rattle.protocol.specs.declared.thread.Stage.TheVariants.{Idle, AtCondition}
use Rattle.protocol.specs.Machine.{State, held_after, put, run}
use Rattle.protocol.proofs.Kept.{Kept}
use Rattle.protocol.proofs.CondSteps.{cond_of}
use Rattle.protocol.proofs.Puts.{put-same}
use Rattle.protocol.proofs.Seeing.{cell_in, cell_again, entry_in, head_in}
use Rattle.slots.specs.Places.{cell_of}
use Rattle.slots.specs.Rows.{Choice, Row, Taking}
use Rattle.slots.specs.Rows.Giving.{OfUnlock, OfWait}
use Rattle.slots.specs.Shown.{Slots, shown}
use Rattle.slots.specs.Stands.{StandsAs}
use Rattle.slots.specs.Words.{is_free}
use Rattle.slots.specs.Seen.{begins, wait_of}
use Rattle.slots.specs.Table.{Made, makes, refused_count, wait_begins}
use Rattle.slots.specs.Invariant.{fields_at}
use Rattle.slots.specs.Accesses.{IsAtRow}
use Rattle.slots.specs.Further.{IsOfCell, OwnsInside}
use Rattle.slots.specs.Goes.{LeadsOn}
use Rattle.slots.proofs.Free.{reached_kept}
use Rattle.slots.proofs.Leading.{Leads, begins_more, by_test, cond_loads, loads_more, on, stays}
use Rattle.slots.proofs.Meets.{cell_says}
use Rattle.slots.proofs.Refusals.{no_try, own_lock}
use Rattle.slots.proofs.Releasing as releasing

pub other_unlock : (t : ℕ) (c : Fields) → (c.owner == t) ≡ false → unlock_sees t c ≡ ends EPERM
other_unlock t c other = grind (arith)

pub other_mends : (t : ℕ) (c : Fields) → (c.owner == t) ≡ false → consistent_sees t c ≡ ends EPERM
other_mends t c other = grind (arith)

pub none_mends : (t : ℕ) (c : Fields) → (c.owner == t) ≡ true → c.died ≡ false → consistent_sees t c ≡ ends EINVAL
none_mends t c own well = grind (arith)

pub other_waits : (t : ℕ) (c : Fields) → (c.owner == t) ≡ false → wait_sees t c ≡ rows.ends operation.Wait EPERM
other_waits t c other = grind (arith)

pub marked_waits : (t : ℕ) (c : Fields) → (c.owner == t) ≡ true → c.died ≡ true → wait_sees t c ≡ rows.ends operation.Wait XSTATE
marked_waits t c own died = grind (arith)

pub other_signals : (t : ℕ) (c : Fields) → (c.owner == t) ≡ false → signal_sees t c ≡ rows.ends operation.Signal EPERM
other_signals t c other = grind (arith)

pub other_broadcasts : (t : ℕ) (c : Fields) → (c.owner == t) ≡ false → broadcast_sees t c ≡ rows.ends operation.Broadcast EPERM
other_broadcasts t c other = grind (arith)

module _ (x : Slots) (t : ℕ) (c : Choice) (at : IsAtRow x t) where
  abbrev z : State
  z = x.machine

  abbrev g : Stage
  g = (z.threads t).stage

  abbrev h : ℕ
  h = (z.threads t).held

  inv : Kept z
  inv = reached_kept z at.reached

  abbrev word : ℕ → ℕ
  word m = shown x (cell_place z.layout (cell_of m))

  abbrev Lead : Made → Type 0
  Lead n = StandsAs n.next ((run z n.events).threads t).stage

  idles : (es : List Event) → Leads z t es z.words z.queues (on Idle h) → ((run z es).threads t).stage ≡ Idle
  idles es l = ap (λ (s : State). (s.threads t).stage) l.to ∙ ap (λ (y : Thread). y.stage) (put-same z.threads t (on Idle h))

  -- ---- calls on a mutex

  ends_first : (o : Call) (k : ℕ) (y : Reply) → g ≡ Idle → k < z.layout.mutexes → may_call z.layout (OnMutex o) ≡ true → acquires (operation_of (OnMutex o)) ≡ false → whole_access (whole.begins z.layout t o) ≡ Access.Load (cell_in z.layout t k)
      → whole_led (whole.begins z.layout t o) (Value (z.words (cell_place z.layout k))) ≡ record { phase = Ended y; point = Some y } → held_after h (calls.acts_as o) (Some y) ≡ h → Leads z t (Begin t (OnMutex o) ∷ Step t ∷ []) z.words z.queues (on Idle h)
  ends_first o k y is inside may free access leads held = loads_more z t (Begin t (OnMutex o) ∷ []) z.words z.queues (OnMutex o) (whole.begins z.layout t o) h at.first at.last
      (begins_more z t [] z.words z.queues h at.first at.last (stays z t Idle inv is) (OnMutex o) may (let e = free in grind (arith))) at.out (cell_in z.layout t k) (cell_place z.layout k)
      (record { phase = Ended y; point = Some y }) (on Idle h) access (cell_again z.layout t inv.layout at.first at.last k inside) leads refl held

  below : (k : ℕ) → k < z.layout.mutexes → nat_lt k z.layout.mutexes ≡ true
  below k inside = grind (arith, nat_tests)

  pub looks_lead : (k : Taking) → g ≡ Idle → cell_of k.mutex < z.layout.mutexes → h < 2048 → LeadsOn x t c (Row.Looks k)
  looks_lead k is inside room = by_test Lead ((fields_of (word k.mutex)).owner == t)
      (makes (Access.Load (cell_in z.layout t (cell_of k.mutex))) (begins t (call.TimedLock (cell_of k.mutex)) ++ Step t ∷ Step t ∷ []) Row.Rests) (makes (Access.Load (cell_in z.layout t (cell_of k.mutex))) [] (Row.Pends k (word k.mutex)))
      (λ own. idles _ (own_lock x t c at k.mutex is inside room (sym (cell_says x k.mutex inside).owner ∙ eqb-true (fields_of (word k.mutex)).owner t own)).leads)
      (λ other. is)

  pub try_looks_lead : (m : ℕ) → g ≡ Idle → cell_of m < z.layout.mutexes → h < 2048 → LeadsOn x t c (Row.TryLooks m)
  try_looks_lead m is inside room = by_test Lead (is_free (word m))
      (makes (Access.Load (cell_in z.layout t (cell_of m))) [] (Row.TryPends m (word m))) (makes (Access.Load (cell_in z.layout t (cell_of m))) (begins t (call.TryLock (cell_of m)) ++ Step t ∷ Step t ∷ []) Row.Rests)
      (λ free. is)
      (λ taken. idles _ (no_try x t c at m is inside room ((λ i. (sym (cell_says x m inside).owner i == 0) && not (sym (cell_says x m inside).unusable i)) ∙ taken)).leads)

  pub give_looks_lead : (m : ℕ) → g ≡ Idle → cell_of m < z.layout.mutexes → LeadsOn x t c (Row.GiveLooks m)
  give_looks_lead m is inside = by_test Lead ((fields_of (word m)).owner == t)
      (makes (Access.Load (cell_in z.layout t (cell_of m))) [] (Row.GivePends m (OfUnlock (fields_of (word m)).died))) (makes (Access.Load (cell_in z.layout t (cell_of m))) (Begin t (OnMutex (call.Unlock (cell_of m))) ∷ Step t ∷ []) Row.Rests)
      (λ own. is)
      (λ other. idles _ (ends_first (call.Unlock (cell_of m)) (cell_of m) EPERM is inside (below (cell_of m) inside) refl refl
      (ap (from_cell (whole.begins z.layout t (call.Unlock (cell_of m)))) (other_unlock t (fields_at z (cell_of m)) (ap (λ (n : ℕ). n == t) (sym (cell_says x m inside).owner) ∙ other))) refl))

  pub mend_looks_lead : (m : ℕ) → g ≡ Idle → cell_of m < z.layout.mutexes → LeadsOn x t c (Row.MendLooks m)
  mend_looks_lead m is inside = by_test Lead (((fields_of (word m)).owner == t) && (fields_of (word m)).died)
      (makes (Access.Load (cell_in z.layout t (cell_of m))) [] (Row.Mends m)) (makes (Access.Load (cell_in z.layout t (cell_of m))) (Begin t (OnMutex (call.Consistent (cell_of m))) ∷ Step t ∷ []) Row.Rests)
      (λ own. is)
      (λ refused. idles _ (go ((fields_at z (cell_of m)).owner == t) refl (fields_at z (cell_of m)).died refl ((λ i. (sym (cell_says x m inside).owner i == t) && sym (cell_says x m inside).died i) ∙ refused)))
    where
      looked : (y : Reply) → consistent_sees t (fields_at z (cell_of m)) ≡ ends y → from_cell (whole.begins z.layout t (call.Consistent (cell_of m))) (ends y) ≡ record { phase = Ended y; point = Some y } → held_after h operation.Consistent (Some y) ≡ h → Leads z t (Begin t (OnMutex (call.Consistent (cell_of m))) ∷ Step t ∷ []) z.words z.queues (on Idle h)
      looked y sees leads held = ends_first (call.Consistent (cell_of m)) (cell_of m) y is inside (below (cell_of m) inside) refl refl (ap (from_cell (whole.begins z.layout t (call.Consistent (cell_of m)))) sees ∙ leads) held

      go : (a : Bool) → ((fields_at z (cell_of m)).owner == t) ≡ a → (d : Bool) → (fields_at z (cell_of m)).died ≡ d → (a && d) ≡ false → Leads z t (Begin t (OnMutex (call.Consistent (cell_of m))) ∷ Step t ∷ []) z.words z.queues (on Idle h)
      go false other d e all = looked EPERM (other_mends t (fields_at z (cell_of m)) other) refl refl
      go true own false well all = looked EINVAL (none_mends t (fields_at z (cell_of m)) own well) refl refl
      go true own true died all = absurd cc

  -- ---- calls on a condition variable, at their first look

  ends_word : (o : CondCall) (r : cond_rows.CondRow) (op : Operation) (y : Reply) (k : ℕ) → Leads z t (Begin t (OnCondition o) ∷ []) z.words z.queues (on (AtCondition o (cond_of z.layout t o (CondPhase.AtWords r))) h) → cond_access (cond_of z.layout t o (CondPhase.AtWords r)) ≡ Access.Load (cell_in z.layout t (programs.mutex_of z.layout o))
      → programs.mutex_of z.layout o ≡ k → k < z.layout.mutexes → cond_led (cond_of z.layout t o (CondPhase.AtWords r)) (Value (z.words (cell_place z.layout k))) ≡ from_words (cond_of z.layout t o (CondPhase.AtWords r)) (rows.ends op y) → held_after h op (Some y) ≡ h
      → Leads z t (Begin t (OnCondition o) ∷ Step t ∷ []) z.words z.queues (on Idle h)
  ends_word o r op y k l access about inside leads held = cond_loads z t (Begin t (OnCondition o) ∷ []) z.words z.queues o (cond_of z.layout t o (CondPhase.AtWords r)) h at.first at.last l (cell_in z.layout t (programs.mutex_of z.layout o)) (cell_place z.layout k)
      (from_words (cond_of z.layout t o (CondPhase.AtWords r)) (rows.ends op y)) (on Idle h) access (ap (λ (j : ℕ). place_in z.layout t (cell_in z.layout t j)) about ∙ cell_again z.layout t inv.layout at.first at.last k inside) leads refl held

  may_so : (k : ℕ) → k < length z.layout.conditions → nat_lt k (length z.layout.conditions) ≡ true
  may_so k inside = grind (arith, nat_tests)

  refuses_wait : (m k : ℕ) (timed : Bool) (y : Reply) → g ≡ Idle → IsOfCell z.layout m k → cell_of m < z.layout.mutexes → wait_sees t (fields_at z (cell_of m)) ≡ rows.ends operation.Wait y → held_after h operation.Wait (Some y) ≡ h → Leads z t (wait_begins x t c k timed) z.words z.queues (on Idle h)
  refuses_wait m k true y is of inside sees held = ends_word (wait_of k true) (cond_row.Wait wait.LoadCell) operation.Wait y (cell_of m) (releasing.wait_begun x t c at (wait_of k true) (λ i. may_so k of.inside i && true) refl is) refl of.cell inside (ap (from_words (cond_of z.layout t (wait_of k true) (CondPhase.AtWords (cond_row.Wait wait.LoadCell)))) sees) held
  refuses_wait m k false y is of inside sees held = ends_word (wait_of k false) (cond_row.Wait wait.LoadCell) operation.Wait y (cell_of m) (releasing.wait_begun x t c at (wait_of k false) (λ i. may_so k of.inside i && true) refl is) refl of.cell inside (ap (from_words (cond_of z.layout t (wait_of k false) (CondPhase.AtWords (cond_row.Wait wait.LoadCell)))) sees) held

  pub wait_looks_lead : (m k : ℕ) (timed : Bool) → g ≡ Idle → IsOfCell z.layout m k → cell_of m < z.layout.mutexes → LeadsOn x t c (Row.WaitLooks m k timed)
  wait_looks_lead m k timed is of inside = by_test Lead ((fields_of (word m)).owner == t)
      (makes (Access.Load (cell_in z.layout t (cell_of m))) [] (Row.WaitCounts m k timed (fields_of (word m)).died)) (makes (Access.Load (cell_in z.layout t (cell_of m))) (wait_begins x t c k timed) Row.Rests)
      (λ own. is)
      (λ other. idles _ (refuses_wait m k timed EPERM is of inside (other_waits t (fields_at z (cell_of m)) (ap (λ (n : ℕ). n == t) (sym (cell_says x m inside).owner) ∙ other)) refl))

  pub wait_counts_lead : (m k : ℕ) (timed : Bool) → g ≡ Idle → IsOfCell z.layout m k → OwnsInside z t (cell_of m) → (fields_at z (cell_of m)).died ≡ true → LeadsOn x t c (Row.WaitCounts m k timed true)
  wait_counts_lead m k timed is of owns died = idles _ (refuses_wait m k timed XSTATE is of owns.inside (marked_waits t (fields_at z (cell_of m)) (eq-eqb (fields_at z (cell_of m)).owner t owns.owner) died) refl)

  refuses_count : (m k : ℕ) (all : Bool) → g ≡ Idle → IsOfCell z.layout m k → cell_of m < z.layout.mutexes → ((fields_at z (cell_of m)).owner == t) ≡ false → Leads z t (refused_count x t c k all) z.words z.queues (on Idle h)
  refuses_count m k true is of inside other = ends_word (cond_call.Broadcast k) (cond_row.Broadcast broadcast.LoadCell) operation.Broadcast EPERM (cell_of m) (releasing.wait_begun x t c at (cond_call.Broadcast k) (λ i. may_so k of.inside i && true) refl is) refl of.cell inside (ap (from_words (cond_of z.layout t (cond_call.Broadcast k) (CondPhase.AtWords (cond_row.Broadcast broadcast.LoadCell)))) (other_broadcasts t (fields_at z (cell_of m)) other)) refl
  refuses_count m k false is of inside other = ends_word (cond_call.Signal k) (cond_row.Signal signal.LoadCell) operation.Signal EPERM (cell_of m) (releasing.wait_begun x t c at (cond_call.Signal k) (λ i. may_so k of.inside i && true) refl is) refl of.cell inside (ap (from_words (cond_of z.layout t (cond_call.Signal k) (CondPhase.AtWords (cond_row.Signal signal.LoadCell)))) (other_signals t (fields_at z (cell_of m)) other)) refl

  pub count_looks_lead : (m k : ℕ) (all : Bool) → g ≡ Idle → IsOfCell z.layout m k → cell_of m < z.layout.mutexes → LeadsOn x t c (Row.CountLooks m k all)
  count_looks_lead m k all is of inside = by_test Lead ((fields_of (word m)).owner == t)
      (makes (Access.Load (cell_in z.layout t (cell_of m))) [] (Row.CountLoads m k all)) (makes (Access.Load (cell_in z.layout t (cell_of m))) (refused_count x t c k all) Row.Rests)
      (λ own. is)
      (λ other. idles _ (refuses_count m k all is of inside (ap (λ (n : ℕ). n == t) (sym (cell_says x m inside).owner) ∙ other)))

  -- ---- a wait's announcement

  announces_wait : (m k n : ℕ) (o : CondCall) → condition_of o ≡ k → IsOfCell z.layout m k → OwnsInside z t (cell_of m) → (fields_at z (cell_of m)).died ≡ false → n ≡ z.words (counter_place z.layout k) % 2 ^ 32
      → Leads z t (Begin t (OnCondition o) ∷ []) z.words z.queues (on (AtCondition o (cond_of z.layout t o (CondPhase.AtWords (cond_row.Wait wait.LoadCell)))) h)
      → (p : CondWhole) × (u : UnlinkStanding) × (((run z (Begin t (OnCondition o) ∷ Step t ∷ Step t ∷ Step t ∷ [])).threads t).stage ≡ AtCondition o p) × (p.phase ≡ CondPhase.Unlinking u n)
  announces_wait m k n o is of owns well says l = (_, _, ap (λ (s : State). (s.threads t).stage) more.to ∙ ap (λ (y : Thread). y.stage) (put-same z.threads t _), ap (CondPhase.Unlinking (unlink_started (head_in z.layout t) (entry_in z.layout t (programs.mutex_of z.layout o)))) (ap (λ (j : ℕ). z.words (counter_place z.layout j) % 2 ^ 32) is ∙ sym says))
    where
      about : programs.mutex_of z.layout o ≡ cell_of m
      about = ap (slice_index z.layout.conditions) is ∙ of.cell

      more : Leads z t (Begin t (OnCondition o) ∷ Step t ∷ Step t ∷ Step t ∷ []) (put z.words (head_place t + 2) (entry_in z.layout t (programs.mutex_of z.layout o))) z.queues
          (on (AtCondition o (cond_of z.layout t o (CondPhase.Unlinking (unlink_started (head_in z.layout t) (entry_in z.layout t (programs.mutex_of z.layout o))) (z.words (counter_place z.layout (condition_of o)) % 2 ^ 32)))) h)
      more = releasing.wait_more z t at.first at.last inv (Begin t (OnCondition o) ∷ []) z.words z.queues h o l (subst (λ (j : ℕ). j < length z.layout.conditions) (sym is) of.inside) (subst (λ (j : ℕ). j < z.layout.mutexes) (sym about) owns.inside)
          (ap (λ (j : ℕ). (fields_at z j).owner) about ∙ owns.owner) (ap (λ (j : ℕ). (fields_at z j).died) about ∙ well)

  pub wait_pends_lead : (m k n : ℕ) (slept timed : Bool) → g ≡ Idle → IsOfCell z.layout m k → OwnsInside z t (cell_of m) → (fields_at z (cell_of m)).died ≡ false → n ≡ z.words (counter_place z.layout k) % 2 ^ 32 → LeadsOn x t c (Row.GivePends m (OfWait k n slept timed))
  wait_pends_lead m k n slept true is of owns well says = announces_wait m k n (wait_of k true) refl of owns well says (releasing.wait_begun x t c at (wait_of k true) (λ i. may_so k of.inside i && true) refl is)
  wait_pends_lead m k n slept false is of owns well says = announces_wait m k n (wait_of k false) refl of owns well says (releasing.wait_begun x t c at (wait_of k false) (λ i. may_so k of.inside i && true) refl is)
