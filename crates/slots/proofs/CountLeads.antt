-- Where accesses of condition variables, of releases and of a reinit lead.
use Rattle.std.proofs.Common.{◌≡◌, ℕ, ◌+◌, ◌-◌, ◌*◌, ◌/◌, ◌%◌, ◌^◌, ◌<◌, ◌==◌, Bool, true, false, List, [], ◌∷◌, ◌++◌, length, refl, sym, ap, ◌∙◌, subst, arith, eqb-true}
use Rattle.std.specs.Prelude.{if◌then◌else◌, take, drop}
use Rattle.lockword.specs.Cells.{bit, fields_of}
use Rattle.lockword.specs.declared.reply.Reply.{Reply}
use Rattle.lockword.specs.declared.reply.Reply.TheVariants.{OK}
use Rattle.stepprograms.specs.declared.access.Access.{Access}
use Rattle.stepprograms.specs.declared.access.Answer.TheVariants.{Again, Count, Woken}
use Rattle.stepprograms.specs.Accesses.{is_nobody}
use Rattle.posixmutex.specs.declared.point.Operation.TheVariants as operation
use Rattle.memorymap.specs.Layouts.{cell_place, counter_place, head_place, place_in}
use Rattle.robustlist.specs.Unlink.{unlink_started}
use Rattle.mutex.specs.declared.call.Call.TheVariants.{TimedLock, Unlock}
use Rattle.mutex.specs.declared.phase.Phase.{Phase}
use Rattle.mutex.specs.declared.phase.Phase.TheVariants.{AtCell, Clearing, Unlinking}
use Rattle.mutex.specs.declared.row.Row.TheVariants as mutex_row
use Rattle.mutex.specs.declared.unlock.UnlockRow.TheVariants as unlock
use Rattle.mutex.specs.Standings.{Whole}
use Rattle.mutex.specs.Whole.{onward, retaking, whole_led}
use Rattle.robustlist.specs.Standings.{UnlinkStanding}
use Rattle.condvar.specs.declared.call.CondCall.{CondCall}
use Rattle.condvar.specs.declared.call.CondCall.TheVariants as cond_call
use Rattle.condvar.specs.declared.phase.CondPhase.{CondPhase}
use Rattle.condvar.specs.declared.row.CondRow.TheVariants as cond_row
use Rattle.condvar.specs.declared.wait.WaitRow.TheVariants as wait
use Rattle.condvar.specs.declared.signal.SignalRow.TheVariants as signal
use Rattle.condvar.specs.Calls.{acts_as, condition_of}
use Rattle.condvar.specs.Programs as programs
use Rattle.condvar.specs.Standings.{CondWhole}
use Rattle.condvar.specs.Whole as condition
use Rattle.condvar.specs.Whole.{cond_led}
use Rattle.condvar.specs.declared.op.Op.TheVariants.{OnMutex, OnCondition}
use Rattle.protocol.specs.declared.event.Event.{Event}
use Rattle.protocol.specs.declared.event.Event.TheVariants.{Step, Remake}
use Rattle.protocol.specs.declared.thread.Thread.{Thread}
use Rattle.protocol.specs.declared.thread.Stage.{Stage}
use Rattle.protocol.specs.declared.thread.Stage.TheVariants.{Idle, Calling, AtCondition}
use Rattle.protocol.specs.Machine.{State, is_timed, put, run, stage_after}
use Rattle.protocol.proofs.Kept.{Kept}
use Rattle.protocol.proofs.CondSteps.{cond_of}
use Rattle.protocol.proofs.Puts.{put-same}
use Rattle.protocol.proofs.Seeing.{cell_in, counter_in, cell_again, counter_again, entry_in, head_in}
use Rattle.slots.specs.Places.{cell_of, slot_of}
use Rattle.slots.specs.Rows.{Choice, Row}
use Rattle.slots.specs.Rows.Giving.{OfUnlock}
use Rattle.slots.specs.Shown.{Slots, shown}
use Rattle.slots.specs.Stands.RepliesAs.{Same}
use Rattle.slots.specs.Stands.{IsAtWords, IsIn, StandsAs}
use Rattle.slots.specs.Seen.{frees, wait_of}
use Rattle.slots.specs.Table.{Made, counted, counted_row, count_begins, giving_begins, makes, woke_row}
use Rattle.slots.specs.Invariant.{fields_at}
use Rattle.slots.specs.Accesses.{IsAtRow}
use Rattle.slots.specs.Each.{IsToRemake}
use Rattle.slots.specs.Further.{MayCount, OwnsInside}
use Rattle.slots.specs.Goes.{LeadsOn}
use Rattle.slots.proofs.Chains.{clears_more}
use Rattle.slots.proofs.Counting as counting
use Rattle.slots.proofs.Free.{reached_kept}
use Rattle.slots.proofs.Meets.{cell_says}
use Rattle.slots.proofs.Leading.{IsAt, IsAtWord, Leads, all_still, by_test, call_at, cond_more, is_at, is_at_word, on, put_back, stays, steps_more, unmoved}
use Rattle.slots.proofs.Mending as mending
use Rattle.slots.proofs.Releasing as releasing
use Rattle.slots.proofs.Sleeping.{counter_shows}

-- the count that a broadcast has left
count_left : (w : ℕ) (b : Bool) → w < 4294967295 → ((w + bit b 4294967296) / 2 ^ 32 * 2 ^ 32 + (w + bit b 4294967296 + 1) % 2 ^ 32) % 2 ^ 32 ≡ (w % 2 ^ 32 + 1) % 2 ^ 32
count_left w true few = omega arith
count_left w false few = omega arith

module _ (x : Slots) (t : ℕ) (c : Choice) (at : IsAtRow x t) where
  abbrev z : State
  z = x.machine

  abbrev g : Stage
  g = (z.threads t).stage

  abbrev h : ℕ
  h = (z.threads t).held

  inv : Kept z
  inv = reached_kept z at.reached

  led : (es : List Event) (w : ℕ → ℕ) (q : ℕ → List ℕ) (th : Thread) (next : Row) → Leads z t es w q th → StandsAs next th.stage → StandsAs next ((run z es).threads t).stage
  led es w q th next l there = subst (StandsAs next) (sym (ap (λ (s : State). (s.threads t).stage) l.to ∙ ap (λ (y : Thread). y.stage) (put-same z.threads t th))) there

  either : (b : Bool) (r s : Row) (f : Stage) → StandsAs r f → StandsAs s f → StandsAs (if b then r else s) f
  either true r s f this that = this
  either false r s f this that = that

  -- ---- reinit

  pub anews_so : (m v : ℕ) → g ≡ Idle → IsToRemake x m v → LeadsOn x t c (Row.Anews m v)
  anews_so m v is to = by_test (λ (n : Made). StandsAs n.next ((run z n.events).threads t).stage) (word == v)
      (makes (Access.Exchange (cell_in z.layout t (cell_of m)) v (v - 4294967296 + 8589934592)) (Remake t (cell_of m) ∷ []) Row.Rests)
      (makes (Access.Exchange (cell_in z.layout t (cell_of m)) v (v - 4294967296 + 8589934592)) [] (if (fields_of word).unusable then Row.Anews m word else Row.Rests))
      (λ e. ap (λ (s : State). (s.threads t).stage) (mending.goes_to x t c at m v is (record { inside = to.inside; found = eqb-true word v e; unusable = to.unusable; died = to.died (sym (cell_says x m to.inside).unusable ∙ ap (λ (u : ℕ). (fields_of u).unusable) (eqb-true word v e) ∙ to.unusable); room = to.room })) ∙ is)
      (λ e. either (fields_of word).unusable (Row.Anews m word) Row.Rests g is is)
    where
      word : ℕ
      word = shown x (cell_place z.layout (cell_of m))

  -- ---- counts

  counted_so : (m k n : ℕ) → MayCount x t m k n → g ≡ Idle → (all b : Bool) → x.slept k ≡ b → StandsAs (counted_row x t c m k all b (counted x t c n % 2 ^ 32)) ((run z (count_begins x t c k all b)).threads t).stage
  counted_so m k n may is all false e = led (count_begins x t c k all false) _ _ _ Row.Rests (counting.wakes_none x t c at m k n may is (may.quiet e)) refl
  counted_so m k n may is false true e = led (count_begins x t c k false true) _ _ _ (Row.CountWakes m k (counted x t c n % 2 ^ 32)) (counting.signals x t c at m k n may is) (_, refl, refl)
  counted_so m k n may is true true e = led (count_begins x t c k true true) _ _ _ (Row.AllMarks m k (counted x t c n % 2 ^ 32)) (counting.broadcasts x t c at m k n may is)
      (z.words (counter_place z.layout k) % 2 ^ 32, ap (λ (v : ℕ). counted x t c v % 2 ^ 32) (sym may.found ∙ counter_shows x k may.inside) ∙ count_left (z.words (counter_place z.layout k)) (x.slept k) may.few, (_, refl, refl))

  pub counts_lead : (m k n : ℕ) (all : Bool) → MayCount x t m k n → g ≡ Idle → LeadsOn x t c (Row.Counts m k all n)
  counts_lead m k n all may is = subst (λ (b : Bool). StandsAs (counted_row x t c m k all b (counted x t c n % 2 ^ 32)) ((run z (count_begins x t c k all b)).threads t).stage) (sym (counting.shows x t c at m k n may)) (counted_so m k n may is all (x.slept k) refl)

  -- a signal's wake
  pub count_wakes_lead : (m k n : ℕ) → IsAtWords (cond_call.Signal k) (cond_row.Signal signal.Wake) g → LeadsOn x t c (Row.CountWakes m k n)
  count_wakes_lead m k n (p, is, phase) = led (Step t ∷ []) _ _ _ (if is_nobody (z.queues spot) then Row.Unsets m k n else Row.Rests) woken (either (is_nobody (z.queues spot)) (Row.Unsets m k n) Row.Rests Idle refl refl)
    where
      spot : ℕ
      spot = counter_place z.layout k

      a : IsAtWord z t (cond_call.Signal k) (CondPhase.AtWords (cond_row.Signal signal.Wake))
      a = is_at_word z t (cond_call.Signal k) p (CondPhase.AtWords (cond_row.Signal signal.Wake)) inv at.first at.last is phase

      here : CondWhole
      here = cond_of z.layout t (cond_call.Signal k) (CondPhase.AtWords (cond_row.Signal signal.Wake))

      woken : Leads z t (Step t ∷ []) z.words (put z.queues spot (drop 1 (z.queues spot))) (on Idle h)
      woken = cond_more z t [] z.words z.queues (cond_call.Signal k) here h at.first at.last (stays z t (AtCondition (cond_call.Signal k) here) inv a.there) (Access.Wake (counter_in z.layout t k) 1) spot z.words (put z.queues spot (drop 1 (z.queues spot))) (condition.onward (CondPhase.Ended OK)) (on Idle h)
          refl (counter_again z.layout t inv.layout at.first at.last k a.counter) tt (put_back z.words spot) refl refl refl (unmoved operation.Signal h) (all_still z z.words)

  -- ---- a wait's sleep

  wait_sleeps_so : (m k n : ℕ) (timed : Bool) (o : CondCall) → condition_of o ≡ k → acts_as o ≡ operation.Wait → (timed ≡ true → is_timed (OnCondition o) ≡ true) → IsAtWord z t o (CondPhase.AtWords (cond_row.Wait (wait.Sleep n))) → StandsAs (Row.WaitAsleep m k n timed) ((run z (Step t ∷ [])).threads t).stage
  wait_sleeps_so m k n timed o of acts due a = go (z.words spot % 2 ^ 32 == n) refl
    where
      spot : ℕ
      spot = counter_place z.layout (condition_of o)

      there : place_in z.layout t (counter_in z.layout t (condition_of o)) ≡ spot
      there = counter_again z.layout t inv.layout at.first at.last (condition_of o) a.counter

      asleep : CondWhole
      asleep = cond_of z.layout t o (CondPhase.AtWords (cond_row.Wait (wait.Sleep n)))

      lock : Whole
      lock = retaking t (head_in z.layout t) (entry_in z.layout t (programs.mutex_of z.layout o)) (cell_in z.layout t (programs.mutex_of z.layout o))

      l : Leads z t [] z.words z.queues (on (AtCondition o asleep) h)
      l = stays z t (AtCondition o asleep) inv a.there

      leads : (b : Bool) → cond_led asleep (if b then Woken else Again) ≡ condition.onward (CondPhase.Locking lock)
      leads true = refl
      leads false = refl

      slept : (b : Bool) → (z.words spot % 2 ^ 32 == n) ≡ b → Leads z t (Step t ∷ []) z.words (put z.queues spot (if b then z.queues spot ++ t ∷ [] else z.queues spot)) (on (Calling (OnCondition o) lock) h)
      slept b e = cond_more z t [] z.words z.queues o asleep h at.first at.last l (Access.Wait (counter_in z.layout t (condition_of o)) n) spot z.words (put z.queues spot (if b then z.queues spot ++ t ∷ [] else z.queues spot)) (condition.onward (CondPhase.Locking lock)) (on (Calling (OnCondition o) lock) h)
          refl there tt (put_back z.words spot) (ap (λ (d : Bool). put z.queues spot (if d then z.queues spot ++ t ∷ [] else z.queues spot)) e) (leads (z.words spot % 2 ^ 32 == n)) refl (unmoved (acts_as o) h) (all_still z z.words)

      go : (b : Bool) → (z.words spot % 2 ^ 32 == n) ≡ b → StandsAs (Row.WaitAsleep m k n timed) ((run z (Step t ∷ [])).threads t).stage
      go b e = led (Step t ∷ []) _ _ _ (Row.WaitAsleep m k n timed) (slept b e) ((o, lock, refl, of, acts, refl), due)

  pub wait_sleeps_lead : (m k n : ℕ) (timed : Bool) → IsAtWords (wait_of k timed) (cond_row.Wait (wait.Sleep n)) g → LeadsOn x t c (Row.WaitSleeps m k n timed)
  wait_sleeps_lead m k n true (p, is, phase) = wait_sleeps_so m k n true (wait_of k true) refl refl (λ e. refl) (is_at_word z t (wait_of k true) p _ inv at.first at.last is phase)
  wait_sleeps_lead m k n false (p, is, phase) = wait_sleeps_so m k n false (wait_of k false) refl refl (λ e. absurd cc) (is_at_word z t (wait_of k false) p _ inv at.first at.last is phase)

  -- ---- the announcement of a release

  pub frees_lead : (m k : ℕ) (y : Reply) → OwnsInside z t (slot_of m) → (fields_at z (slot_of m)).died ≡ false → IsAt z t (OnMutex (TimedLock k)) k (Clearing y) → (u : UnlinkStanding) × IsIn (Unlock (slot_of m)) (Unlinking u false) ((run z (frees t m)).threads t).stage
  frees_lead m k y owns alive a = subst (λ (d : Bool). (u : UnlinkStanding) × IsIn (Unlock (slot_of m)) (Unlinking u d) ((run z (frees t m)).threads t).stage) (ap (λ (v : ℕ). (fields_of v).died) stay ∙ alive)
      (_, (_, ap (λ (s : State). (s.threads t).stage) l.to ∙ ap (λ (e : Thread). e.stage) (put-same z.threads t _), refl))
    where
      cleared : ℕ → ℕ
      cleared = put z.words (head_place t + 2) 0

      stay : cleared (cell_place z.layout (slot_of m)) ≡ z.words (cell_place z.layout (slot_of m))
      stay = releasing.cell_stays z t at.first at.last inv z.words 0 (slot_of m)

      l : Leads z t (frees t m) (put cleared (head_place t + 2) (entry_in z.layout t (slot_of m))) z.queues (on (Calling (OnMutex (Unlock (slot_of m))) (call_at z.layout t operation.Unlock (slot_of m) (Unlinking (unlink_started (head_in z.layout t) (entry_in z.layout t (slot_of m))) (fields_of (cleared (cell_place z.layout (slot_of m)))).died))) h)
      l = releasing.unlock_more z t at.first at.last inv (Step t ∷ []) cleared z.queues h at.out
          (clears_more z t at.first at.last inv.layout [] z.words z.queues h at.out (OnMutex (TimedLock k)) operation.Lock k y (stays z t (Calling (OnMutex (TimedLock k)) (call_at z.layout t operation.Lock k (Clearing y))) inv a.there))
          (slot_of m) owns.inside (ap (λ (v : ℕ). (fields_of v).owner) stay ∙ owns.owner)

  pub gives_lead : (m : ℕ) (d : Bool) → g ≡ Idle → OwnsInside z t (cell_of m) → (fields_at z (cell_of m)).died ≡ d → LeadsOn x t c (Row.GivePends m (OfUnlock d))
  gives_lead m d is owns says = subst (λ (b : Bool). (u : UnlinkStanding) × IsIn (Unlock (cell_of m)) (Unlinking u b) ((run z (giving_begins x t c m (OfUnlock d))).threads t).stage) says
      (_, (_, ap (λ (s : State). (s.threads t).stage) l.to ∙ ap (λ (e : Thread). e.stage) (put-same z.threads t _), refl))
    where
      l : Leads z t (giving_begins x t c m (OfUnlock d)) (put z.words (head_place t + 2) (entry_in z.layout t (cell_of m))) z.queues (on (Calling (OnMutex (Unlock (cell_of m))) (call_at z.layout t operation.Unlock (cell_of m) (Unlinking (unlink_started (head_in z.layout t) (entry_in z.layout t (cell_of m))) (fields_at z (cell_of m)).died))) h)
      l = releasing.unlock_more z t at.first at.last inv [] z.words z.queues h at.out (stays z t Idle inv is) (cell_of m) owns.inside owns.owner

  -- ---- an unlock's wake of one

  pub wakes_one_lead : (m is : ℕ) (d : Bool) → IsIn (Unlock (cell_of m)) (AtCell (mutex_row.Unlock (unlock.Wake false))) g → LeadsOn x t c (Row.WakesOne m (OfUnlock d) is)
  wakes_one_lead m is d (p, stage, phase) = go (z.queues its) refl
    where
      its : ℕ
      its = cell_place z.layout (cell_of m)

      a : IsAt z t (OnMutex (Unlock (cell_of m))) (cell_of m) (AtCell (mutex_row.Unlock (unlock.Wake false)))
      a = is_at z t (OnMutex (Unlock (cell_of m))) p (cell_of m) (AtCell (mutex_row.Unlock (unlock.Wake false))) inv at.first at.last stage phase refl

      woken : (f : Phase) → whole_led (call_at z.layout t operation.Unlock (cell_of m) (AtCell (mutex_row.Unlock (unlock.Wake false)))) (Count (length (take 1 (z.queues its)))) ≡ onward f → stage_after (OnMutex (Unlock (cell_of m))) (call_at z.layout t operation.Unlock (cell_of m) (AtCell (mutex_row.Unlock (unlock.Wake false)))) f ≡ Calling (OnMutex (Unlock (cell_of m))) (call_at z.layout t operation.Unlock (cell_of m) f)
          → Leads z t (Step t ∷ []) z.words (put z.queues its (drop 1 (z.queues its))) (on (Calling (OnMutex (Unlock (cell_of m))) (call_at z.layout t operation.Unlock (cell_of m) f)) h)
      woken f leads goes = steps_more z t [] z.words z.queues (OnMutex (Unlock (cell_of m))) (call_at z.layout t operation.Unlock (cell_of m) (AtCell (mutex_row.Unlock (unlock.Wake false)))) h at.first at.last
          (stays z t (Calling (OnMutex (Unlock (cell_of m))) (call_at z.layout t operation.Unlock (cell_of m) (AtCell (mutex_row.Unlock (unlock.Wake false))))) inv a.there) at.out
          (Access.Wake (cell_in z.layout t (cell_of m)) 1) its z.words (put z.queues its (drop 1 (z.queues its))) (onward f) (on (Calling (OnMutex (Unlock (cell_of m))) (call_at z.layout t operation.Unlock (cell_of m) f)) h)
          refl (cell_again z.layout t inv.layout at.first at.last (cell_of m) a.inside) tt (put_back z.words its) refl leads goes (unmoved operation.Unlock h) (all_still z z.words)

      go : (q : List ℕ) → z.queues its ≡ q → StandsAs (woke_row x t c m (OfUnlock d) is) ((run z (Step t ∷ [])).threads t).stage
      go [] none = subst (λ (us : List ℕ). StandsAs (if is_nobody us then Row.Trims m is else Row.Clears m OK) ((run z (Step t ∷ [])).threads t).stage) (sym none)
          (led (Step t ∷ []) _ _ _ (Row.Trims m is) (woken (AtCell (mutex_row.Unlock unlock.Trim)) (ap (λ (us : List ℕ). whole_led (call_at z.layout t operation.Unlock (cell_of m) (AtCell (mutex_row.Unlock (unlock.Wake false)))) (Count (length (take 1 us)))) none) refl) (call_at z.layout t operation.Unlock (cell_of m) (AtCell (mutex_row.Unlock unlock.Trim)), refl, refl))
      go (u ∷ us) some = subst (λ (vs : List ℕ). StandsAs (if is_nobody vs then Row.Trims m is else Row.Clears m OK) ((run z (Step t ∷ [])).threads t).stage) (sym some)
          (led (Step t ∷ []) _ _ _ (Row.Clears m OK) (woken (Clearing OK) (ap (λ (vs : List ℕ). whole_led (call_at z.layout t operation.Unlock (cell_of m) (AtCell (mutex_row.Unlock (unlock.Wake false)))) (Count (length (take 1 vs)))) some) refl) (OnMutex (Unlock (cell_of m)), call_at z.layout t operation.Unlock (cell_of m) (Clearing OK), OK, refl, refl, Same refl))
