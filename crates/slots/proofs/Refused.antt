-- A first look that decides its call is a whole call of the machine, with the same point.
use Rattle.std.proofs.Common.{◌≡◌, ℕ, ◌<◌, ◌≤◌, ◌==◌, Bool, true, false, Option, Some, None, List, [], ◌∷◌, ◌++◌, length, refl, sym, ap, ◌∙◌, subst, arith, eqb-true, eq-eqb}
use Rattle.std.specs.Prelude.{if◌then◌else◌, nat_lt, not, ◌&&◌}
use Rattle.std.proofs.lemmas.Bool.Decides.{nat_tests}
use Rattle.lockword.specs.Cells.{fields_of}
use Rattle.lockword.specs.declared.reply.Reply.{Reply}
use Rattle.lockword.specs.declared.reply.Reply.TheVariants.{EBUSY, EDEADLK, EINVAL, EPERM, ENOTRECOVERABLE, XSTATE}
use Rattle.stepprograms.specs.declared.access.Access.{Access}
use Rattle.stepprograms.specs.declared.access.Answer.TheVariants.{Value}
use Rattle.posixmutex.specs.Objects.{acquires}
use Rattle.posixmutex.specs.declared.point.Decision.{Decision}
use Rattle.posixmutex.specs.declared.point.Operation.{Operation}
use Rattle.posixmutex.specs.declared.point.Operation.TheVariants as op
use Rattle.memorymap.specs.Layouts.{Layout', cell_place, place_in}
use Rattle.mutex.specs.declared.call.Call.{Call}
use Rattle.mutex.specs.declared.call.Call.TheVariants as call
use Rattle.mutex.specs.declared.phase.Phase.TheVariants.{Ended}
use Rattle.mutex.specs.Consistent.{consistent_sees}
use Rattle.mutex.specs.Rows.{ends}
use Rattle.mutex.specs.Whole as whole
use Rattle.mutex.specs.Whole.{from_cell, whole_access, whole_led}
use Rattle.condvar.specs.declared.call.CondCall.{CondCall}
use Rattle.condvar.specs.declared.call.CondCall.TheVariants as cond_call
use Rattle.condvar.specs.declared.phase.CondPhase.{CondPhase}
use Rattle.condvar.specs.declared.row.CondRow as cond_rows
use Rattle.condvar.specs.declared.row.CondRow.TheVariants as cond_row
use Rattle.condvar.specs.declared.wait.WaitRow.TheVariants as wait
use Rattle.condvar.specs.declared.signal.SignalRow.TheVariants as signal
use Rattle.condvar.specs.declared.broadcast.BroadcastRow.TheVariants as broadcast
use Rattle.condvar.specs.Programs as programs
use Rattle.condvar.specs.Rows as rows
use Rattle.condvar.specs.Wait.{wait_sees}
use Rattle.condvar.specs.Whole.{cond_access, cond_led, from_words}
use Rattle.condvar.specs.declared.op.Op.{Op}
use Rattle.condvar.specs.declared.op.Op.TheVariants.{OnMutex, OnCondition}
use Rattle.condvar.specs.Ops.{acts_as, condition_of, may_call, mutex_of, operation_of}
use Rattle.protocol.specs.declared.event.Event.{Event}
use Rattle.protocol.specs.declared.event.Event.TheVariants.{Begin, Step}
use Rattle.protocol.specs.declared.thread.Stage.{Stage}
use Rattle.protocol.specs.declared.thread.Stage.TheVariants.{Idle, AtCondition}
use Rattle.protocol.specs.Machine.{State}
use Rattle.protocol.proofs.Kept.{Kept}
use Rattle.protocol.proofs.CondSteps.{cond_of}
use Rattle.protocol.proofs.Queued.{in_none}
use Rattle.protocol.proofs.Seeing.{cell_in, cell_again}
use Rattle.slots.specs.Places.{cell_of}
use Rattle.slots.specs.Rows.{Choice, Row}
use Rattle.slots.specs.Rows.Giving.{OfUnlock}
use Rattle.slots.specs.Shown.{Slots, begin, shown}
use Rattle.slots.specs.Words.{is_free}
use Rattle.slots.specs.Seen.{begins, wait_of}
use Rattle.slots.specs.Table.{Made, made, makes, refused_count, wait_begins}
use Rattle.slots.specs.Runs.{reached}
use Rattle.slots.specs.Runs.Happening.{Goes}
use Rattle.slots.specs.Invariant.{fields_at}
use Rattle.slots.specs.Stands.{StandsAs}
use Rattle.slots.specs.Accesses.{IsAtRow}
use Rattle.slots.specs.Further.{IsOfCell}
use Rattle.slots.specs.Each.{Assumes}
use Rattle.slots.specs.Goes.{AssumesToo, Grants}
use Rattle.slots.specs.Replies.{Deed, counts_as, decided, deed, locks, tried}
use Rattle.slots.specs.Replies.Deed.{Nothing, Decides}
use Rattle.slots.specs.Premises.{Trusts}
use Rattle.slots.specs.Refused.{AreSteps, IsWholeCall, RefusalsAreTheMachines, condition_at, last_reply, may_refuse}
use Rattle.slots.proofs.FirstLeads.{marked_waits, none_mends, other_broadcasts, other_mends, other_signals, other_unlock, other_waits}
use Rattle.slots.proofs.Following.{begins_steady, layout_then, steady_run}
use Rattle.slots.proofs.Free.{reached_kept, reached_queued}
use Rattle.slots.proofs.Leading.{Leads, begins_more, on, stays}
use Rattle.slots.proofs.Meets.{Says, cell_says}
use Rattle.slots.proofs.Refusals.{no_try, own_lock}
use Rattle.slots.proofs.Releasing as releasing
use Rattle.slots.proofs.Returns.{call_returns, cond_returns}
use Rattle.slots.proofs.Steady.{Steady, granted}

module _ (x : Slots) (t : ℕ) (c : Choice) (at : IsAtRow x t) (d : Decision) where
  abbrev z : State
  z = x.machine

  abbrev g : Stage
  g = (z.threads t).stage

  abbrev h : ℕ
  h = (z.threads t).held

  inv : Kept z
  inv = reached_kept z at.reached

  abbrev word : ℕ → ℕ
  word m = shown x (cell_place z.layout (cell_of m))

  abbrev Whole : Option ℕ → List Event → Type 0
  Whole k es = IsWholeCall z d k es

  -- a look that decides the call, or doesn't
  two : (k : Option ℕ) (b : Bool) (e f : Deed) (n o : Made) → (b ≡ true → e ≡ Decides d → Whole k n.events) → (b ≡ false → f ≡ Decides d → Whole k o.events) → (if b then e else f) ≡ Decides d → Whole k (if b then n else o).events
  two k true e f n o first second = first refl
  two k false e f n o first second = second refl

  abbrev point_of : Deed → Decision
  point_of (Decides e) = e
  point_of e = d

  -- a whole call, which returns that
  whole_call : (o : Op) (m : ℕ) (y : Reply) (es : List Event) → AreSteps t es → mutex_of z.layout o ≡ cell_of m → last_reply z (Begin t o ∷ es) ≡ Some y → Decides (decided t m (acts_as o) y) ≡ Decides d → Whole (condition_of o) (Begin t o ∷ es)
  whole_call o m y es steps of returns same = subst (λ (e : Decision). IsWholeCall z e (condition_of o) (Begin t o ∷ es)) (ap point_of same)
      (record { call = o; steps = es; begins = refl; goes = steps; acts = refl; mutex = of; condition = refl; returns = returns })

  whole_wait : (m k : ℕ) (timed : Bool) (y : Reply) → IsOfCell z.layout m k → last_reply z (wait_begins x t c k timed) ≡ Some y → Decides (decided t m op.Wait y) ≡ Decides d → Whole (Some k) (wait_begins x t c k timed)
  whole_wait m k true y of returns same = whole_call (OnCondition (wait_of k true)) m y (Step t ∷ []) (refl, tt) of.cell returns same
  whole_wait m k false y of returns same = whole_call (OnCondition (wait_of k false)) m y (Step t ∷ []) (refl, tt) of.cell returns same

  whole_count : (m k : ℕ) (all : Bool) (y : Reply) → IsOfCell z.layout m k → last_reply z (refused_count x t c k all) ≡ Some y → Decides (decided t m (counts_as all) y) ≡ Decides d → Whole (Some k) (refused_count x t c k all)
  whole_count m k true y of returns same = whole_call (OnCondition (cond_call.Broadcast k)) m y (Step t ∷ []) (refl, tt) of.cell returns same
  whole_count m k false y of returns same = whole_call (OnCondition (cond_call.Signal k)) m y (Step t ∷ []) (refl, tt) of.cell returns same

  -- ---- calls on a mutex

  ends_first : (o : Call) (k : ℕ) (r : Reply) → g ≡ Idle → k < z.layout.mutexes → may_call z.layout (OnMutex o) ≡ true → acquires (operation_of (OnMutex o)) ≡ false → whole_access (whole.begins z.layout t o) ≡ Access.Load (cell_in z.layout t k)
      → whole_led (whole.begins z.layout t o) (Value (z.words (cell_place z.layout k))) ≡ record { phase = Ended r; point = Some r } → last_reply z (Begin t (OnMutex o) ∷ Step t ∷ []) ≡ Some r
  ends_first o k r is inside may free access leads = call_returns z t (Begin t (OnMutex o) ∷ []) z.words z.queues h at.first at.last (OnMutex o) (whole.begins z.layout t o) at.out
      (begins_more z t [] z.words z.queues h at.first at.last (stays z t Idle inv is) (OnMutex o) may (let e = free in grind (arith)))
      (Access.Load (cell_in z.layout t k)) (cell_place z.layout k) (record { phase = Ended r; point = Some r }) access (cell_again z.layout t inv.layout at.first at.last k inside) leads

  below : (k : ℕ) → k < z.layout.mutexes → nat_lt k z.layout.mutexes ≡ true
  below k inside = grind (arith, nat_tests)

  mends : (m : ℕ) → g ≡ Idle → cell_of m < z.layout.mutexes → ((fields_of (word m)).owner == t && (fields_of (word m)).died) ≡ false
      → last_reply z (Begin t (OnMutex (call.Consistent (cell_of m))) ∷ Step t ∷ []) ≡ Some (if (fields_of (word m)).owner == t then EINVAL else EPERM)
  mends m is inside refused = go ((fields_at z (cell_of m)).owner == t) refl (fields_at z (cell_of m)).died refl ((λ i. (sym says.owner i == t) && sym says.died i) ∙ refused)
      ∙ (λ i. Some (if sym says.owner i == t then EINVAL else EPERM))
    where
      says : Says (z.words (cell_place z.layout (cell_of m))) (word m)
      says = cell_says x m inside

      looked : (r : Reply) → consistent_sees t (fields_at z (cell_of m)) ≡ ends r → from_cell (whole.begins z.layout t (call.Consistent (cell_of m))) (ends r) ≡ record { phase = Ended r; point = Some r } → last_reply z (Begin t (OnMutex (call.Consistent (cell_of m))) ∷ Step t ∷ []) ≡ Some r
      looked r sees leads = ends_first (call.Consistent (cell_of m)) (cell_of m) r is inside (below (cell_of m) inside) refl refl (ap (from_cell (whole.begins z.layout t (call.Consistent (cell_of m)))) sees ∙ leads)

      go : (a : Bool) → ((fields_at z (cell_of m)).owner == t) ≡ a → (d : Bool) → (fields_at z (cell_of m)).died ≡ d → (a && d) ≡ false → last_reply z (Begin t (OnMutex (call.Consistent (cell_of m))) ∷ Step t ∷ []) ≡ Some (if a then EINVAL else EPERM)
      go false other d e all = looked EPERM (other_mends t (fields_at z (cell_of m)) other) refl
      go true own false well all = looked EINVAL (none_mends t (fields_at z (cell_of m)) own well) refl
      go true own true died all = absurd cc

  -- ---- calls on a condition variable

  ends_word : (o : CondCall) (r : cond_rows.CondRow) (p : Operation) (a : Reply) (k : ℕ) → Leads z t (Begin t (OnCondition o) ∷ []) z.words z.queues (on (AtCondition o (cond_of z.layout t o (CondPhase.AtWords r))) h) → cond_access (cond_of z.layout t o (CondPhase.AtWords r)) ≡ Access.Load (cell_in z.layout t (programs.mutex_of z.layout o))
      → programs.mutex_of z.layout o ≡ k → k < z.layout.mutexes → cond_led (cond_of z.layout t o (CondPhase.AtWords r)) (Value (z.words (cell_place z.layout k))) ≡ from_words (cond_of z.layout t o (CondPhase.AtWords r)) (rows.ends p a)
      → last_reply z (Begin t (OnCondition o) ∷ Step t ∷ []) ≡ Some a
  ends_word o r p a k l access about inside leads = cond_returns z t (Begin t (OnCondition o) ∷ []) z.words z.queues h at.first at.last o (cond_of z.layout t o (CondPhase.AtWords r)) l (Access.Load (cell_in z.layout t (programs.mutex_of z.layout o))) (cell_place z.layout k)
      (from_words (cond_of z.layout t o (CondPhase.AtWords r)) (rows.ends p a)) access (ap (λ (j : ℕ). place_in z.layout t (cell_in z.layout t j)) about ∙ cell_again z.layout t inv.layout at.first at.last k inside) leads

  may_so : (k : ℕ) → k < length z.layout.conditions → nat_lt k (length z.layout.conditions) ≡ true
  may_so k inside = grind (arith, nat_tests)

  waits : (m k : ℕ) (timed : Bool) (a : Reply) → g ≡ Idle → IsOfCell z.layout m k → cell_of m < z.layout.mutexes → wait_sees t (fields_at z (cell_of m)) ≡ rows.ends op.Wait a → last_reply z (wait_begins x t c k timed) ≡ Some a
  waits m k true a is of inside sees = ends_word (wait_of k true) (cond_row.Wait wait.LoadCell) op.Wait a (cell_of m) (releasing.wait_begun x t c at (wait_of k true) (λ i. may_so k of.inside i && true) refl is) refl of.cell inside (ap (from_words (cond_of z.layout t (wait_of k true) (CondPhase.AtWords (cond_row.Wait wait.LoadCell)))) sees)
  waits m k false a is of inside sees = ends_word (wait_of k false) (cond_row.Wait wait.LoadCell) op.Wait a (cell_of m) (releasing.wait_begun x t c at (wait_of k false) (λ i. may_so k of.inside i && true) refl is) refl of.cell inside (ap (from_words (cond_of z.layout t (wait_of k false) (CondPhase.AtWords (cond_row.Wait wait.LoadCell)))) sees)

  counts : (m k : ℕ) (all : Bool) → g ≡ Idle → IsOfCell z.layout m k → cell_of m < z.layout.mutexes → ((fields_at z (cell_of m)).owner == t) ≡ false → last_reply z (refused_count x t c k all) ≡ Some EPERM
  counts m k true is of inside other = ends_word (cond_call.Broadcast k) (cond_row.Broadcast broadcast.LoadCell) op.Broadcast EPERM (cell_of m) (releasing.wait_begun x t c at (cond_call.Broadcast k) (λ i. may_so k of.inside i && true) refl is) refl of.cell inside (ap (from_words (cond_of z.layout t (cond_call.Broadcast k) (CondPhase.AtWords (cond_row.Broadcast broadcast.LoadCell)))) (other_broadcasts t (fields_at z (cell_of m)) other))
  counts m k false is of inside other = ends_word (cond_call.Signal k) (cond_row.Signal signal.LoadCell) op.Signal EPERM (cell_of m) (releasing.wait_begun x t c at (cond_call.Signal k) (λ i. may_so k of.inside i && true) refl is) refl of.cell inside (ap (from_words (cond_of z.layout t (cond_call.Signal k) (CondPhase.AtWords (cond_row.Signal signal.LoadCell)))) (other_signals t (fields_at z (cell_of m)) other))

  -- ---- each row

  other_owns : (m : ℕ) → cell_of m < z.layout.mutexes → ((fields_of (word m)).owner == t) ≡ false → ((fields_at z (cell_of m)).owner == t) ≡ false
  other_owns m inside other = ap (λ (n : ℕ). n == t) (sym (cell_says x m inside).owner) ∙ other

  refused_row : (r : Row) → StandsAs r g → Assumes x t r → AssumesToo x t r → may_refuse r ≡ true → deed x t c r ≡ Decides d → Whole (condition_at r) (made x t c r).events
  refused_row (Row.Looks k) is (inside, room) too may = two None ((fields_of (word k.mutex)).owner == t) (locks t k.mutex EDEADLK) Nothing
      (makes (Access.Load (cell_in z.layout t (cell_of k.mutex))) (begins t (call.TimedLock (cell_of k.mutex)) ++ Step t ∷ Step t ∷ []) Row.Rests) (makes (Access.Load (cell_in z.layout t (cell_of k.mutex))) [] (Row.Pends k (word k.mutex)))
      (λ own. whole_call (OnMutex (call.TimedLock (cell_of k.mutex))) k.mutex EDEADLK (Step t ∷ Step t ∷ Step t ∷ []) (refl, (refl, (refl, tt))) refl (own_lock x t c at k.mutex is inside room (sym (cell_says x k.mutex inside).owner ∙ eqb-true (fields_of (word k.mutex)).owner t own)).returns) (λ other e. absurd cc)
  refused_row (Row.TryLooks m) is (inside, room) too may = two None (is_free (word m)) Nothing (tried t m (word m))
      (makes (Access.Load (cell_in z.layout t (cell_of m))) [] (Row.TryPends m (word m))) (makes (Access.Load (cell_in z.layout t (cell_of m))) (begins t (call.TryLock (cell_of m)) ++ Step t ∷ Step t ∷ []) Row.Rests)
      (λ free e. absurd cc)
      (λ taken. whole_call (OnMutex (call.TryLock (cell_of m))) m (if (fields_of (word m)).unusable then ENOTRECOVERABLE else EBUSY) (Step t ∷ Step t ∷ Step t ∷ []) (refl, (refl, (refl, tt))) refl ((no_try x t c at m is inside room ((λ i. (sym (cell_says x m inside).owner i == 0) && not (sym (cell_says x m inside).unusable i)) ∙ taken)).returns
      ∙ (λ i. Some (if sym (cell_says x m inside).unusable i then ENOTRECOVERABLE else EBUSY))))
  refused_row (Row.GiveLooks m) is inside too may = two None ((fields_of (word m)).owner == t) Nothing (Decides (decided t m op.Unlock EPERM))
      (makes (Access.Load (cell_in z.layout t (cell_of m))) [] (Row.GivePends m (OfUnlock (fields_of (word m)).died))) (makes (Access.Load (cell_in z.layout t (cell_of m))) (Begin t (OnMutex (call.Unlock (cell_of m))) ∷ Step t ∷ []) Row.Rests)
      (λ own e. absurd cc)
      (λ other. whole_call (OnMutex (call.Unlock (cell_of m))) m EPERM (Step t ∷ []) (refl, tt) refl (ends_first (call.Unlock (cell_of m)) (cell_of m) EPERM is inside (below (cell_of m) inside) refl refl
      (ap (from_cell (whole.begins z.layout t (call.Unlock (cell_of m)))) (other_unlock t (fields_at z (cell_of m)) (other_owns m inside other)))))
  refused_row (Row.MendLooks m) is inside too may = two None (((fields_of (word m)).owner == t) && (fields_of (word m)).died) Nothing (Decides (decided t m op.Consistent (if (fields_of (word m)).owner == t then EINVAL else EPERM)))
      (makes (Access.Load (cell_in z.layout t (cell_of m))) [] (Row.Mends m)) (makes (Access.Load (cell_in z.layout t (cell_of m))) (Begin t (OnMutex (call.Consistent (cell_of m))) ∷ Step t ∷ []) Row.Rests)
      (λ own e. absurd cc) (λ refused. whole_call (OnMutex (call.Consistent (cell_of m))) m (if (fields_of (word m)).owner == t then EINVAL else EPERM) (Step t ∷ []) (refl, tt) refl (mends m is inside refused))
  refused_row (Row.AnewLooks m) is a too may = λ e. absurd cc
  refused_row (Row.WaitLooks m k timed) is a (of, inside) may = two (Some k) ((fields_of (word m)).owner == t) Nothing (Decides (decided t m op.Wait EPERM))
      (makes (Access.Load (cell_in z.layout t (cell_of m))) [] (Row.WaitCounts m k timed (fields_of (word m)).died)) (makes (Access.Load (cell_in z.layout t (cell_of m))) (wait_begins x t c k timed) Row.Rests)
      (λ own e. absurd cc) (λ other. whole_wait m k timed EPERM of (waits m k timed EPERM is of inside (other_waits t (fields_at z (cell_of m)) (other_owns m inside other))))
  refused_row (Row.WaitCounts m k timed true) is a (of, owns, died) may = whole_wait m k timed XSTATE of (waits m k timed XSTATE is of owns.inside (marked_waits t (fields_at z (cell_of m)) (eq-eqb (fields_at z (cell_of m)).owner t owns.owner) died))
  refused_row (Row.WaitCounts m k timed false) is a too may = λ e. absurd cc
  refused_row (Row.CountLooks m k all) is a (of, inside) may = two (Some k) ((fields_of (word m)).owner == t) Nothing (Decides (decided t m (counts_as all) EPERM))
      (makes (Access.Load (cell_in z.layout t (cell_of m))) [] (Row.CountLoads m k all)) (makes (Access.Load (cell_in z.layout t (cell_of m))) (refused_count x t c k all) Row.Rests)
      (λ own e. absurd cc) (λ other. whole_count m k all EPERM of (counts m k all is of inside (other_owns m inside other)))
  refused_row r is a too may = absurd cc

-- neither bound is asked of these rows
no_few : (x : Slots) (t : ℕ) (r : Row) → may_refuse r ≡ true → Trusts x t r
no_few x t (Row.Looks k) may = record { few = tt; counts = tt }
no_few x t (Row.TryLooks m) may = record { few = tt; counts = tt }
no_few x t (Row.GiveLooks m) may = record { few = tt; counts = tt }
no_few x t (Row.MendLooks m) may = record { few = tt; counts = tt }
no_few x t (Row.AnewLooks m) may = record { few = tt; counts = tt }
no_few x t (Row.WaitLooks m k timed) may = record { few = tt; counts = tt }
no_few x t (Row.WaitCounts m k timed died) may = record { few = tt; counts = tt }
no_few x t (Row.CountLooks m k all) may = record { few = tt; counts = tt }
no_few x t r may = absurd cc

pub refusals_are : RefusalsAreTheMachines
refusals_are l hs t c d is pos known trusted lives awake may e =
    let st : Steady (reached l hs) = steady_run (begin l) hs (begins_steady l is) trusted in
    let here : t ≤ (reached l hs).machine.layout.threads = subst (λ (k : Layout'). t ≤ k.threads) (sym (layout_then (begin l) hs (begins_steady l is) trusted)) known in
    let few = no_few (reached l hs) t ((reached l hs).rows t) may in
    let grant : Grants (reached l hs) (Goes t c) = granted (reached l hs) t pos here st c few in
    refused_row (reached l hs) t c (record { reached = st.reached; first = pos; last = here; there = st.there t pos here lives; about = grant.0; out = in_none (reached l hs).machine t (reached_queued (reached l hs).machine st.reached) awake }) d
    ((reached l hs).rows t) (st.there t pos here lives) grant.1 grant.2 may e
