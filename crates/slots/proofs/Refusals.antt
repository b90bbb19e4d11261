-- A call's first look, whatever it finds: a refused call is a whole call of the machine.
use Rattle.std.proofs.Common.{◌≡◌, ℕ, ◌+◌, ◌<◌, ◌==◌, Bool, true, false, Some, List, [], ◌∷◌, ◌++◌, length, refl, sym, ap, ◌∙◌, subst, arith, eqb-true, eq-eqb}
use Rattle.std.specs.Prelude.{if◌then◌else◌, nat_lt, not, ◌&&◌, ◌%◌, ◌^◌}
use Rattle.std.proofs.lemmas.Bool.Decides.{nat_tests}
use Rattle.lockword.specs.Cells.{Fields, fields_of}
use Rattle.lockword.specs.declared.reply.Reply.{Reply}
use Rattle.lockword.specs.declared.reply.Reply.TheVariants.{EBUSY, EDEADLK, ENOTRECOVERABLE}
use Rattle.stepprograms.specs.declared.access.Access.{Access}
use Rattle.stepprograms.specs.declared.access.Answer.TheVariants.{Value}
use Rattle.memorymap.specs.Layouts.{cell_place, counter_place, head_place}
use Rattle.mutex.specs.declared.call.Call.{Call}
use Rattle.mutex.specs.declared.call.Call.TheVariants as call
use Rattle.mutex.specs.declared.phase.Phase.TheVariants.{AtCell, Clearing, Ended}
use Rattle.mutex.specs.Lock.{lock_sees}
use Rattle.mutex.specs.TryLock.{try_sees}
use Rattle.mutex.specs.Rows.{ends}
use Rattle.mutex.specs.Standings.{Whole}
use Rattle.mutex.specs.Whole as whole
use Rattle.mutex.specs.Whole.{from_cell, onward, pending_place, whole_access, whole_led}
use Rattle.condvar.specs.declared.call.CondCall.{CondCall}
use Rattle.condvar.specs.declared.call.CondCall.TheVariants as cond_call
use Rattle.condvar.specs.declared.op.Op.TheVariants.{OnMutex, OnCondition}
use Rattle.condvar.specs.Ops.{may_call, operation_of}
use Rattle.condvar.specs.Whole as condition
use Rattle.condvar.specs.Whole.{cond_access}
use Rattle.posixmutex.specs.Objects.{acquires}
use Rattle.protocol.specs.declared.event.Event.{Event}
use Rattle.protocol.specs.declared.event.Event.TheVariants.{Begin, Step}
use Rattle.protocol.specs.declared.thread.Stage.{Stage}
use Rattle.protocol.specs.declared.thread.Stage.TheVariants.{Idle, Calling}
use Rattle.protocol.specs.Machine.{State, put, held_after}
use Rattle.protocol.proofs.Kept.{Kept}
use Rattle.protocol.proofs.Places.{head_is_no_cell}
use Rattle.protocol.proofs.Puts.{put-other}
use Rattle.protocol.proofs.Seeing.{cell_in, counter_in, entry_in, head_in, cell_again}
use Rattle.slots.specs.Places.{cell_of}
use Rattle.slots.specs.Rows.{Choice, Row}
use Rattle.slots.specs.Rows.Giving.{OfUnlock, OfWait}
use Rattle.slots.specs.Shown.{Slots, shown}
use Rattle.slots.specs.Stands.{StandsAs}
use Rattle.slots.specs.Words.{is_free}
use Rattle.slots.specs.Seen.{begins, wait_of}
use Rattle.slots.specs.Table.{made, makes, refused_count, shows_slept, wait_begins}
use Rattle.slots.specs.Invariant.{fields_at}
use Rattle.slots.specs.Accesses.{IsAtRow}
use Rattle.slots.specs.Further.{IsFirstLook, FirstLooksAreEvents}
use Rattle.slots.proofs.Announcing.{call_of}
use Rattle.slots.proofs.Chains.{Comes, head_there, lock_or_try, any_load, any_cond_load, clears_more, locks_more}
use Rattle.slots.proofs.Free.{reached_kept}
use Rattle.slots.proofs.Leading.{Leads, begins_more, by_test, call_at, loads_more, on, put_back, put_over, stays}
use Rattle.slots.proofs.Looks.{IsQuiet}
use Rattle.slots.proofs.Meets.{cell_says, load_idles, nothing_events, pends_none, usable_if_owned}
use Rattle.slots.proofs.OneStep.{AreEvents}
use Rattle.slots.proofs.Returns.{call_returns}
use Rattle.slots.specs.Refused.{last_reply}
use Rattle.slots.proofs.Takes.{load_of}

pub sees_own : (t : ℕ) (c : Fields) → c.unusable ≡ false → (c.owner == t) ≡ true → lock_sees t c ≡ ends EDEADLK
sees_own t c usable own = grind (arith)

pub tries_unusable : (c : Fields) → c.unusable ≡ true → try_sees 0 c ≡ ends ENOTRECOVERABLE
tries_unusable c lost = grind (arith)

pub tries_owned : (c : Fields) → c.unusable ≡ false → (c.owner == 0) ≡ false → try_sees 0 c ≡ ends EBUSY
tries_owned c usable some = grind (arith)

module _ (x : Slots) (t : ℕ) (c : Choice) (at : IsAtRow x t) where
  abbrev s : State
  s = x.machine

  abbrev h : ℕ
  h = (s.threads t).held

  inv : Kept s
  inv = reached_kept s at.reached

  -- memory stays as it is, by a load
  by_load : (r next : Row) (es : List Event) (a : ℕ) → IsQuiet r → Comes s t es s.words s.queues → AreEvents x t c r (makes (Access.Load a) es next)
  by_load r next es a quiet (th, l) = nothing_events x t c r next es s.words s.queues th quiet l (Access.Load a) (load_idles x t a) (λ p. refl) (λ p. refl)

  none : (g : Stage) → (s.threads t).stage ≡ g → Comes s t [] s.words s.queues
  none g is = (_, stays s t g inv is)

  below : (k : ℕ) → k < s.layout.mutexes → nat_lt k s.layout.mutexes ≡ true
  below k inside = grind (arith, nat_tests)

  -- ---- a call that announces nothing before it looks

  looks_first : (o : Call) (a : ℕ) → (s.threads t).stage ≡ Idle → may_call s.layout (OnMutex o) ≡ true → acquires (operation_of (OnMutex o)) ≡ false → whole_access (whole.begins s.layout t o) ≡ Access.Load a → Comes s t (Begin t (OnMutex o) ∷ Step t ∷ []) s.words s.queues
  looks_first o a is may free access =
      any_load s t (Begin t (OnMutex o) ∷ []) s.words s.queues (OnMutex o) (whole.begins s.layout t o) h a at.first at.last
      (begins_more s t [] s.words s.queues h at.first at.last (stays s t Idle inv is) (OnMutex o) may (let e = free in grind (arith))) at.out access

  looks_at : (o : CondCall) (a : ℕ) → (s.threads t).stage ≡ Idle → may_call s.layout (OnCondition o) ≡ true → acquires (operation_of (OnCondition o)) ≡ false → cond_access (condition.begins s.layout t o) ≡ Access.Load a → Comes s t (Begin t (OnCondition o) ∷ Step t ∷ []) s.words s.queues
  looks_at o a is may free access =
      any_cond_load s t (Begin t (OnCondition o) ∷ []) s.words s.queues o (condition.begins s.layout t o) h a at.first at.last
      (begins_more s t [] s.words s.queues h at.first at.last (stays s t Idle inv is) (OnCondition o) may (let e = free in grind (arith))) access

  waits_at : (k : ℕ) (timed : Bool) → (s.threads t).stage ≡ Idle → k < length s.layout.conditions → Comes s t (wait_begins x t c k timed) s.words s.queues
  waits_at k true is inside = looks_at (wait_of k true) _ is (let below : nat_lt k (length s.layout.conditions) ≡ true = grind (arith, nat_tests) in λ i. below i && true) refl refl
  waits_at k false is inside = looks_at (wait_of k false) _ is (let below : nat_lt k (length s.layout.conditions) ≡ true = grind (arith, nat_tests) in λ i. below i && true) refl refl

  counts_at : (k : ℕ) (all : Bool) → (s.threads t).stage ≡ Idle → k < length s.layout.conditions → Comes s t (refused_count x t c k all) s.words s.queues
  counts_at k true is inside = looks_at (cond_call.Broadcast k) _ is (let below : nat_lt k (length s.layout.conditions) ≡ true = grind (arith, nat_tests) in λ i. below i && true) refl refl
  counts_at k false is inside = looks_at (cond_call.Signal k) _ is (let below : nat_lt k (length s.layout.conditions) ≡ true = grind (arith, nat_tests) in λ i. below i && true) refl refl

  -- ---- one that announces the mutex, and has it pending until it returns

  module _ (k : ℕ) (b : Bool) (is : (s.threads t).stage ≡ Idle) (inside : k < s.layout.mutexes) (room : h < 2048) where
    abbrev hp : ℕ
    hp = head_place t + 2

    abbrev pl : ℕ
    pl = cell_place s.layout k

    abbrev announced : ℕ → ℕ
    announced = put s.words hp (entry_in s.layout t k)

    abbrev p : Whole
    p = call_at s.layout t (lock_or_try b) k (AtCell (load_of b))

    access_of : (d : Bool) → whole_access (call_at s.layout t (lock_or_try d) k (AtCell (load_of d))) ≡ Access.Load (cell_in s.layout t k)
    access_of true = refl
    access_of false = refl

    cell_stays : announced pl ≡ s.words pl
    cell_stays = put-other s.words hp (entry_in s.layout t k) pl (λ e. head_is_no_cell s.layout t k 2 at.first at.last (omega arith) (sym e))

    emptied : put announced hp 0 ≡ s.words
    emptied = put_over s.words hp (entry_in s.layout t k) 0 ∙ ap (put s.words hp) (sym (pends_none s t inv at.first at.last is)) ∙ put_back s.words hp

    looked : (y : Reply) → whole_led p (Value (announced pl)) ≡ record { phase = Clearing y; point = Some y } → held_after h (lock_or_try b) (Some y) ≡ h → Leads s t (Begin t (OnMutex (call_of b k)) ∷ Step t ∷ Step t ∷ []) announced s.queues (on (Calling (OnMutex (call_of b k)) (call_at s.layout t (lock_or_try b) k (Clearing y))) h)
    looked y leads held = loads_more s t (Begin t (OnMutex (call_of b k)) ∷ Step t ∷ []) announced s.queues (OnMutex (call_of b k)) p h at.first at.last
        (locks_more s t at.first at.last inv.layout [] s.words s.queues h k b at.out (stays s t Idle inv is) inside room) at.out (cell_in s.layout t k) pl
        (record { phase = Clearing y; point = Some y }) (on (Calling (OnMutex (call_of b k)) (call_at s.layout t (lock_or_try b) k (Clearing y))) h)
        (access_of b) (cell_again s.layout t inv.layout at.first at.last k inside) leads refl held

    -- it ends, and returns that reply
    pub record Refused (y : Reply) : Type 0 where
      pub leads : Leads s t (Begin t (OnMutex (call_of b k)) ∷ Step t ∷ Step t ∷ Step t ∷ []) s.words s.queues (on Idle h)
      pub returns : last_reply s (Begin t (OnMutex (call_of b k)) ∷ Step t ∷ Step t ∷ Step t ∷ []) ≡ Some y

    refused : (y : Reply) → whole_led p (Value (announced pl)) ≡ record { phase = Clearing y; point = Some y } → held_after h (lock_or_try b) (Some y) ≡ h → Refused y
    refused y leads held = record {
      leads = subst (λ (w : ℕ → ℕ). Leads s t (Begin t (OnMutex (call_of b k)) ∷ Step t ∷ Step t ∷ Step t ∷ []) w s.queues (on Idle h)) emptied
          (clears_more s t at.first at.last inv.layout (Begin t (OnMutex (call_of b k)) ∷ Step t ∷ Step t ∷ []) announced s.queues h at.out (OnMutex (call_of b k)) (lock_or_try b) k y (looked y leads held));
      returns = call_returns s t (Begin t (OnMutex (call_of b k)) ∷ Step t ∷ Step t ∷ []) announced s.queues h at.first at.last (OnMutex (call_of b k)) (call_at s.layout t (lock_or_try b) k (Clearing y)) at.out (looked y leads held)
          (Access.Store (pending_place (head_in s.layout t)) 0) hp (onward (Ended y)) refl (head_there s t at.first at.last inv.layout) refl;
    }

  pub own_lock : (m : ℕ) (is : (s.threads t).stage ≡ Idle) (inside : cell_of m < s.layout.mutexes) (room : h < 2048) → (fields_at s (cell_of m)).owner ≡ t → Refused (cell_of m) true is inside room EDEADLK
  own_lock m is inside room own = refused (cell_of m) true is inside room EDEADLK
      (ap (λ (v : ℕ). from_cell (p (cell_of m) true is inside room) (lock_sees t (fields_of v))) (cell_stays (cell_of m) true is inside room)
      ∙ ap (from_cell (p (cell_of m) true is inside room)) (sees_own t (fields_at s (cell_of m)) usable (eq-eqb (fields_at s (cell_of m)).owner t own))) refl
    where
      usable : (fields_at s (cell_of m)).unusable ≡ false
      usable = usable_if_owned s (cell_of m) inv inside (λ e. let pos = at.first in omega (arith, e, own, pos))

  pub no_try : (m : ℕ) (is : (s.threads t).stage ≡ Idle) (inside : cell_of m < s.layout.mutexes) (room : h < 2048) → (((fields_at s (cell_of m)).owner == 0) && not (fields_at s (cell_of m)).unusable) ≡ false
      → Refused (cell_of m) false is inside room (if (fields_at s (cell_of m)).unusable then ENOTRECOVERABLE else EBUSY)
  no_try m is inside room taken = go (fields_at s (cell_of m)).unusable refl ((fields_at s (cell_of m)).owner == 0) refl taken
    where
      tried : (y : Reply) → try_sees 0 (fields_at s (cell_of m)) ≡ ends y → from_cell (p (cell_of m) false is inside room) (ends y) ≡ record { phase = Clearing y; point = Some y } → held_after h (lock_or_try false) (Some y) ≡ h → Refused (cell_of m) false is inside room y
      tried y sees leads held = refused (cell_of m) false is inside room y
          (ap (λ (v : ℕ). from_cell (p (cell_of m) false is inside room) (try_sees 0 (fields_of v))) (cell_stays (cell_of m) false is inside room)
          ∙ ap (from_cell (p (cell_of m) false is inside room)) sees ∙ leads) held

      go : (a : Bool) → (fields_at s (cell_of m)).unusable ≡ a → (b : Bool) → ((fields_at s (cell_of m)).owner == 0) ≡ b → (b && not a) ≡ false → Refused (cell_of m) false is inside room (if a then ENOTRECOVERABLE else EBUSY)
      go true lost b e all = tried ENOTRECOVERABLE (tries_unusable (fields_at s (cell_of m)) lost) refl refl
      go false usable false some all = tried EBUSY (tries_owned (fields_at s (cell_of m)) usable some) refl refl
      go false usable true none all = absurd cc

  -- ---- the rows

  pub first_row : (r : Row) → StandsAs r (s.threads t).stage → IsFirstLook x t r → AreEvents x t c r (made x t c r)
  first_row (Row.Looks k) is (inside, room) = by_test (AreEvents x t c (Row.Looks k)) ((fields_of (shown x (cell_place s.layout (cell_of k.mutex)))).owner == t)
      (makes (Access.Load (cell_in s.layout t (cell_of k.mutex))) (begins t (call.TimedLock (cell_of k.mutex)) ++ Step t ∷ Step t ∷ []) Row.Rests) (makes (Access.Load (cell_in s.layout t (cell_of k.mutex))) [] (Row.Pends k (shown x (cell_place s.layout (cell_of k.mutex)))))
      (λ own. by_load (Row.Looks k) Row.Rests _ (cell_in s.layout t (cell_of k.mutex)) (record { awake = λ a. refl; slept = λ a. refl; turns = λ d a. refl })
      (_, (own_lock k.mutex is inside room (sym (cell_says x k.mutex inside).owner ∙ eqb-true (fields_of (shown x (cell_place s.layout (cell_of k.mutex)))).owner t own)).leads))
      (λ other. by_load (Row.Looks k) (Row.Pends k (shown x (cell_place s.layout (cell_of k.mutex)))) [] (cell_in s.layout t (cell_of k.mutex)) (record { awake = λ a. refl; slept = λ a. refl; turns = λ d a. refl }) (none Idle is))
  first_row (Row.TryLooks m) is (inside, room) = by_test (AreEvents x t c (Row.TryLooks m)) (is_free (shown x (cell_place s.layout (cell_of m))))
      (makes (Access.Load (cell_in s.layout t (cell_of m))) [] (Row.TryPends m (shown x (cell_place s.layout (cell_of m))))) (makes (Access.Load (cell_in s.layout t (cell_of m))) (begins t (call.TryLock (cell_of m)) ++ Step t ∷ Step t ∷ []) Row.Rests)
      (λ free. by_load (Row.TryLooks m) (Row.TryPends m (shown x (cell_place s.layout (cell_of m)))) [] (cell_in s.layout t (cell_of m)) (record { awake = λ a. refl; slept = λ a. refl; turns = λ d a. refl }) (none Idle is))
      (λ taken. by_load (Row.TryLooks m) Row.Rests _ (cell_in s.layout t (cell_of m)) (record { awake = λ a. refl; slept = λ a. refl; turns = λ d a. refl })
      (_, (no_try m is inside room ((λ i. (sym (cell_says x m inside).owner i == 0) && not (sym (cell_says x m inside).unusable i)) ∙ taken)).leads))
  first_row (Row.GiveLooks m) is inside = by_test (AreEvents x t c (Row.GiveLooks m)) ((fields_of (shown x (cell_place s.layout (cell_of m)))).owner == t)
      (makes (Access.Load (cell_in s.layout t (cell_of m))) [] (Row.GivePends m (OfUnlock (fields_of (shown x (cell_place s.layout (cell_of m)))).died))) (makes (Access.Load (cell_in s.layout t (cell_of m))) (Begin t (OnMutex (call.Unlock (cell_of m))) ∷ Step t ∷ []) Row.Rests)
      (λ own. by_load (Row.GiveLooks m) (Row.GivePends m (OfUnlock (fields_of (shown x (cell_place s.layout (cell_of m)))).died)) [] (cell_in s.layout t (cell_of m)) (record { awake = λ a. refl; slept = λ a. refl; turns = λ d a. refl }) (none Idle is))
      (λ other. by_load (Row.GiveLooks m) Row.Rests _ (cell_in s.layout t (cell_of m)) (record { awake = λ a. refl; slept = λ a. refl; turns = λ d a. refl }) (looks_first (call.Unlock (cell_of m)) (cell_in s.layout t (cell_of m)) is (below (cell_of m) inside) refl refl))
  first_row (Row.MendLooks m) is inside = by_test (AreEvents x t c (Row.MendLooks m)) (((fields_of (shown x (cell_place s.layout (cell_of m)))).owner == t) && (fields_of (shown x (cell_place s.layout (cell_of m)))).died)
      (makes (Access.Load (cell_in s.layout t (cell_of m))) [] (Row.Mends m)) (makes (Access.Load (cell_in s.layout t (cell_of m))) (Begin t (OnMutex (call.Consistent (cell_of m))) ∷ Step t ∷ []) Row.Rests)
      (λ own. by_load (Row.MendLooks m) (Row.Mends m) [] (cell_in s.layout t (cell_of m)) (record { awake = λ a. refl; slept = λ a. refl; turns = λ d a. refl }) (none Idle is))
      (λ other. by_load (Row.MendLooks m) Row.Rests _ (cell_in s.layout t (cell_of m)) (record { awake = λ a. refl; slept = λ a. refl; turns = λ d a. refl }) (looks_first (call.Consistent (cell_of m)) (cell_in s.layout t (cell_of m)) is (below (cell_of m) inside) refl refl))
  first_row (Row.WaitLooks m k timed) is inside = by_test (AreEvents x t c (Row.WaitLooks m k timed)) ((fields_of (shown x (cell_place s.layout (cell_of m)))).owner == t)
      (makes (Access.Load (cell_in s.layout t (cell_of m))) [] (Row.WaitCounts m k timed (fields_of (shown x (cell_place s.layout (cell_of m)))).died)) (makes (Access.Load (cell_in s.layout t (cell_of m))) (wait_begins x t c k timed) Row.Rests)
      (λ own. by_load (Row.WaitLooks m k timed) (Row.WaitCounts m k timed (fields_of (shown x (cell_place s.layout (cell_of m)))).died) [] (cell_in s.layout t (cell_of m)) (record { awake = λ a. refl; slept = λ a. refl; turns = λ d a. refl }) (none Idle is))
      (λ other. by_load (Row.WaitLooks m k timed) Row.Rests _ (cell_in s.layout t (cell_of m)) (record { awake = λ a. refl; slept = λ a. refl; turns = λ d a. refl }) (waits_at k timed is inside))
  first_row (Row.WaitCounts m k timed died) is inside = by_test (AreEvents x t c (Row.WaitCounts m k timed died)) died
      (makes (Access.Load (counter_in s.layout t k)) (wait_begins x t c k timed) Row.Rests) (makes (Access.Load (counter_in s.layout t k)) [] (Row.GivePends m (OfWait k (shown x (counter_place s.layout k) % 2 ^ 32) (shows_slept x t c (shown x (counter_place s.layout k))) timed)))
      (λ lost. by_load (Row.WaitCounts m k timed died) Row.Rests _ (counter_in s.layout t k) (record { awake = λ a. refl; slept = λ a. refl; turns = λ d a. refl }) (waits_at k timed is inside))
      (λ well. by_load (Row.WaitCounts m k timed died) (Row.GivePends m (OfWait k (shown x (counter_place s.layout k) % 2 ^ 32) (shows_slept x t c (shown x (counter_place s.layout k))) timed)) [] (counter_in s.layout t k) (record { awake = λ a. refl; slept = λ a. refl; turns = λ d a. refl }) (none Idle is))
  first_row (Row.CountLooks m k all) is inside = by_test (AreEvents x t c (Row.CountLooks m k all)) ((fields_of (shown x (cell_place s.layout (cell_of m)))).owner == t)
      (makes (Access.Load (cell_in s.layout t (cell_of m))) [] (Row.CountLoads m k all)) (makes (Access.Load (cell_in s.layout t (cell_of m))) (refused_count x t c k all) Row.Rests)
      (λ own. by_load (Row.CountLooks m k all) (Row.CountLoads m k all) [] (cell_in s.layout t (cell_of m)) (record { awake = λ a. refl; slept = λ a. refl; turns = λ d a. refl }) (none Idle is))
      (λ other. by_load (Row.CountLooks m k all) Row.Rests _ (cell_in s.layout t (cell_of m)) (record { awake = λ a. refl; slept = λ a. refl; turns = λ d a. refl }) (counts_at k all is inside))
  first_row r there looks = absurd looks

pub first_looks : FirstLooksAreEvents
first_looks x t c at looks = let both = first_row x t c at (x.rows t) at.there looks in record { words = both.0; queues = both.1 }
