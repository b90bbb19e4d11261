-- Rows that sleep, and the row that moves sleepers.
use Rattle.std.proofs.Common.{◌≡◌, ℕ, ◌+◌, ◌%◌, ◌^◌, ◌<◌, ◌==◌, Bool, true, false, None, List, [], ◌∷◌, ◌++◌, length, refl, sym, ap, ◌∙◌, subst, arith, eq-eqb, eqb-true}
use Rattle.std.specs.Prelude.{if◌then◌else◌, Some}
use Rattle.std.proofs.lemmas.Bool.Decides.{nat_tests}
use Rattle.lockword.specs.Cells.{bit, fields_of, low_of}
use Rattle.lockword.specs.Coding.{word_of-fields_of}
use Rattle.lockword.proofs.Bits.{low_alike}
use Rattle.lockword.specs.declared.reply.Reply.{Reply}
use Rattle.stepprograms.specs.declared.access.Access.{Access}
use Rattle.stepprograms.specs.declared.access.Answer.TheVariants.{Woken, Again}
use Rattle.posixmutex.specs.declared.point.Operation.TheVariants as operation
use Rattle.memorymap.specs.Layouts.{Layout', cell_place, counter_place, place_in}
use Rattle.mutex.specs.declared.call.Call.TheVariants.{TimedLock}
use Rattle.mutex.specs.declared.lock.LockRow.TheVariants as lock
use Rattle.mutex.specs.declared.phase.Phase.TheVariants.{AtCell, Clearing}
use Rattle.mutex.specs.declared.row.Row.TheVariants.{Lock}
use Rattle.mutex.specs.Whole.{retaking}
use Rattle.condvar.specs.declared.call.CondCall.{CondCall}
use Rattle.condvar.specs.declared.phase.CondPhase.{CondPhase}
use Rattle.condvar.specs.declared.row.CondRow.TheVariants as cond_row
use Rattle.condvar.specs.declared.wait.WaitRow.TheVariants as wait
use Rattle.condvar.specs.Calls.{acts_as, condition_of}
use Rattle.condvar.specs.Programs as programs
use Rattle.condvar.specs.Whole as condition
use Rattle.condvar.specs.Whole.{cond_access, cond_led}
use Rattle.condvar.specs.declared.op.Op.{Op}
use Rattle.condvar.specs.declared.op.Op.TheVariants.{OnMutex, OnCondition}
use Rattle.protocol.specs.declared.event.Event.{Event}
use Rattle.protocol.specs.declared.event.Event.TheVariants.{Step}
use Rattle.protocol.specs.declared.thread.Thread.{Thread}
use Rattle.protocol.specs.declared.thread.Stage.{Stage}
use Rattle.protocol.specs.declared.thread.Stage.TheVariants.{Calling, AtCondition}
use Rattle.condvar.specs.Standings.{CondWhole}
use Rattle.protocol.specs.Machine.{State, put, is_valid, queues_after, words_after}
use Rattle.protocol.proofs.Kept.{Kept}
use Rattle.protocol.proofs.CondSteps.{cond_of}
use Rattle.protocol.proofs.Places.{counter_is_no_cell, counter_is_valid}
use Rattle.protocol.proofs.Seeing.{cell_in, counter_in, cell_again, counter_again, entry_in, head_in}
use Rattle.slots.specs.Places.{cell_of, counter_at}
use Rattle.slots.specs.Rows.{Choice, How, Row, Taking}
use Rattle.slots.specs.Rows.How.{Tried, Later, Waited}
use Rattle.slots.specs.Shown.{Slots, memory, shown, shown_as}
use Rattle.slots.specs.Stands.{IsToSleep, StandsAs}
use Rattle.slots.specs.Seen.{begins_behind, later, wait_of}
use Rattle.slots.specs.Table.{made, makes, on_cell}
use Rattle.slots.specs.Accesses.{IsAbout, IsAboutIt, IsAtRow}
use Rattle.slots.specs.Further.{IsSleeping, MayTake, SeesAnother, SleepsAreEvents}
use Rattle.slots.proofs.Chains.{again_more, sees_sleep_more, sleeps_more, wakes_more}
use Rattle.slots.proofs.Decisions.{behind_later, behind_tried}
use Rattle.slots.proofs.Free.{reached_kept}
use Rattle.slots.proofs.Leading.{IsAt, IsAtWord, Leads, all_still, by_test, call_at, cond_more, is_at, is_at_word, on, op_of, put_back, stays, unmoved}
use Rattle.slots.proofs.Looks.{IsQuiet}
use Rattle.slots.proofs.Meets.{Says, cell_says, nothing_events, pends_in, queue_events, usable_if_owned, wait_idles}
use Rattle.slots.proofs.OneStep.{AreEvents}
use Rattle.slots.proofs.Shows.{cell_valid, no_mutex, put_there}
use Rattle.slots.proofs.Takes.{load_of, not_equal}

-- ---- what a counter shows

pub counter_found : (l : Layout') (k : ℕ) → k < length l.conditions → counter_at l (counter_place l k) ≡ Some k
counter_found l k inside = grind (arith, nat_tests)

pub counter_shows : (x : Slots) (k : ℕ) → k < length x.machine.layout.conditions → shown x (counter_place x.machine.layout k) ≡ x.machine.words (counter_place x.machine.layout k) + bit (x.slept k) 4294967296
counter_shows x k inside =
    (λ i. shown_as x (no_mutex x.machine.layout (counter_place x.machine.layout k) (λ j in_j. counter_is_no_cell x.machine.layout j k in_j) i) (counter_at x.machine.layout (counter_place x.machine.layout k)) (x.machine.words (counter_place x.machine.layout k)))
    ∙ (λ i. shown_as x None (counter_found x.machine.layout k inside i) (x.machine.words (counter_place x.machine.layout k)))

low_counter : (w : ℕ) (b : Bool) → (w + bit b 4294967296) % 2 ^ 32 ≡ w % 2 ^ 32
low_counter w true = omega arith
low_counter w false = omega arith

pub counter_low : (x : Slots) (k : ℕ) → k < length x.machine.layout.conditions → shown x (counter_place x.machine.layout k) % 2 ^ 32 ≡ x.machine.words (counter_place x.machine.layout k) % 2 ^ 32
counter_low x k inside = ap (λ (v : ℕ). v % 2 ^ 32) (counter_shows x k inside) ∙ low_counter (x.machine.words (counter_place x.machine.layout k)) (x.slept k)

-- ---- the C library's sleep

waits_words : (x : Slots) (t at e : ℕ) (p : ℕ) → words_after (memory x) t (Access.Wait at e) p ≡ shown x p
waits_words x t at e p = go (is_valid x.machine.layout (place_in x.machine.layout t at))
  where
    go : (b : Bool) → (if b then put (shown x) (place_in x.machine.layout t at) (shown x (place_in x.machine.layout t at)) else shown x) p ≡ shown x p
    go true = put_there (shown x) (place_in x.machine.layout t at) p
    go false = refl

pub waits_queues : (x : Slots) (t at e pl : ℕ) → place_in x.machine.layout t at ≡ pl → is_valid x.machine.layout pl ≡ true → (p : ℕ) → queues_after (memory x) t (Access.Wait at e) p ≡ put x.machine.queues pl (if shown x pl % 2 ^ 32 == e then x.machine.queues pl ++ t ∷ [] else x.machine.queues pl) p
waits_queues x t at e pl place valid p =
    (λ i. (if is_valid x.machine.layout (place i) then put x.machine.queues (place i) (if shown x (place i) % 2 ^ 32 == e then x.machine.queues (place i) ++ t ∷ [] else x.machine.queues (place i)) else x.machine.queues) p)
    ∙ ap (λ (b : Bool). (if b then put x.machine.queues pl (if shown x pl % 2 ^ 32 == e then x.machine.queues pl ++ t ∷ [] else x.machine.queues pl) else x.machine.queues) p) valid

-- ---- the rows

module _ (x : Slots) (t : ℕ) (c : Choice) (at : IsAtRow x t) where
  abbrev z : State
  z = x.machine

  abbrev h : ℕ
  h = (z.threads t).held

  invz : Kept z
  invz = reached_kept z at.reached

  -- it has fallen asleep there, or it hasn't
  asleep_on : (r next : Row) (es : List Event) (a e pl : ℕ) (th : Thread) → IsQuiet r → place_in z.layout t a ≡ pl → is_valid z.layout pl ≡ true → (shown x pl % 2 ^ 32 == e) ≡ true → Leads z t es z.words (put z.queues pl (z.queues pl ++ t ∷ [])) th → AreEvents x t c r (makes (Access.Wait a e) es next)
  asleep_on r next es a e pl th quiet place valid same l = queue_events x t c r next es z.words (put z.queues pl (z.queues pl ++ t ∷ [])) th quiet l (Access.Wait a e) (λ p. refl) (waits_words x t a e)
      (λ p. ap (λ (b : Bool). put z.queues pl (if b then z.queues pl ++ t ∷ [] else z.queues pl) p) (sym same) ∙ sym (waits_queues x t a e pl place valid p))

  awake_on : (r next : Row) (es : List Event) (a e pl : ℕ) (th : Thread) → IsQuiet r → place_in z.layout t a ≡ pl → (shown x pl % 2 ^ 32 == e) ≡ false → Leads z t es z.words z.queues th → AreEvents x t c r (makes (Access.Wait a e) es next)
  awake_on r next es a e pl th quiet place other l = nothing_events x t c r next es z.words z.queues th quiet l (Access.Wait a e) (wait_idles x t a e (ap (λ (v : ℕ). shown x v % 2 ^ 32 == e) place ∙ other)) (λ p. refl) (λ p. refl)

  -- ---- on the cell

  module _ (k : Taking) (v : ℕ) (may : MayTake x t k.mutex) where
    abbrev m : ℕ
    m = cell_of k.mutex

    abbrev pl : ℕ
    pl = cell_place z.layout m

    abbrev w : ℕ
    w = z.words pl

    place : place_in z.layout t (cell_in z.layout t m) ≡ pl
    place = cell_again z.layout t invz.layout at.first at.last m may.inside

    says : Says w (shown x pl)
    says = cell_says x k.mutex may.inside

    -- the lock that ends a wait
    waited : (y : ℕ) → IsToSleep k (Waited y) v (z.threads t).stage → IsAbout z.layout k.mutex (z.threads t).stage → AreEvents x t c (Row.SleepsOn k v) (makes (Access.Wait (cell_in z.layout t m) (v % 2 ^ 32)) (Step t ∷ []) (Row.Asleep k))
    waited y (d, low, (o, p, is, of, acts, phase)) about = go (w % 2 ^ 32 == low_of d) refl
      where
        a : IsAt z t (OnCondition o) m (AtCell (Lock (lock.Sleep d)))
        a = is_at z t (OnCondition o) p m (AtCell (Lock (lock.Sleep d))) invz at.first at.last is phase (subst (IsAbout z.layout k.mutex) is about)

        l : Leads z t [] z.words z.queues (on (Calling (OnCondition o) (call_at z.layout t operation.Lock m (AtCell (Lock (lock.Sleep d))))) h)
        l = stays z t (Calling (OnCondition o) (call_at z.layout t operation.Lock m (AtCell (Lock (lock.Sleep d))))) invz a.there

        same : (shown x pl % 2 ^ 32 == v % 2 ^ 32) ≡ (w % 2 ^ 32 == low_of d)
        same = λ i. says.low i == sym low i

        go : (b : Bool) → (w % 2 ^ 32 == low_of d) ≡ b → AreEvents x t c (Row.SleepsOn k v) (makes (Access.Wait (cell_in z.layout t m) (v % 2 ^ 32)) (Step t ∷ []) (Row.Asleep k))
        go true e = asleep_on (Row.SleepsOn k v) (Row.Asleep k) (Step t ∷ []) (cell_in z.layout t m) (v % 2 ^ 32) pl _ (record { awake = λ a. refl; slept = λ a. refl; turns = λ d a. refl }) place (cell_valid z.layout m may.inside) (same ∙ e)
            (sleeps_more z t at.first at.last invz.layout [] z.words z.queues h m (OnCondition o) operation.Lock at.out may.inside d l e)
        go false e = awake_on (Row.SleepsOn k v) (Row.Asleep k) (Step t ∷ []) (cell_in z.layout t m) (v % 2 ^ 32) pl _ (record { awake = λ a. refl; slept = λ a. refl; turns = λ d a. refl }) place (same ∙ e)
            (wakes_more z t at.first at.last invz.layout [] z.words z.queues h m (OnCondition o) operation.Lock at.out may.inside d l e)

    -- a lock that begins then
    pub begun : (o : Op) (y : Reply) → IsAt z t o m (Clearing y) → Leads z t (begins_behind t (TimedLock m)) z.words z.queues (on (Calling (OnMutex (TimedLock m)) (call_at z.layout t operation.Lock m (AtCell (load_of true)))) h)
    begun o y a = again_more z t at.first at.last invz.layout [] z.words z.queues h m true o (op_of o) m y at.out (stays z t (Calling o (call_at z.layout t (op_of o) m (Clearing y))) invz a.there) may.inside may.room (pends_in z t o m (Clearing y) invz at.first at.last a)

    alike : SeesAnother t v → (shown x pl % 2 ^ 32 == v % 2 ^ 32) ≡ true → ((fields_of w).owner ≡ (fields_of v).owner) × ((fields_of w).waiters ≡ (fields_of v).waiters)
    alike sees e = low_alike w v (sym says.low ∙ eqb-true (shown x pl % 2 ^ 32) (v % 2 ^ 32) e)

    some : SeesAnother t v → (shown x pl % 2 ^ 32 == v % 2 ^ 32) ≡ true → ((fields_of w).owner == 0) ≡ false
    some sees e = not_equal (fields_of w).owner 0 (λ none. sees.some (sym (alike sees e).0 ∙ none))

    other : SeesAnother t v → (shown x pl % 2 ^ 32 == v % 2 ^ 32) ≡ true → ((fields_of w).owner == t) ≡ false
    other sees e = not_equal (fields_of w).owner t (λ own. sees.other (sym (alike sees e).0 ∙ own))

    usable : SeesAnother t v → (shown x pl % 2 ^ 32 == v % 2 ^ 32) ≡ true → (fields_of w).unusable ≡ false
    usable sees e = usable_if_owned z m invz may.inside (λ none. sees.some (sym (alike sees e).0 ∙ none))

    pub falls : SeesAnother t v → (o : Op) (y : Reply) → IsAt z t o m (Clearing y) → (shown x pl % 2 ^ 32 == v % 2 ^ 32) ≡ true → Leads z t (begins_behind t (TimedLock m) ++ Step t ∷ Step t ∷ []) z.words (put z.queues pl (z.queues pl ++ t ∷ [])) (on (Calling (OnMutex (TimedLock m)) (call_at z.layout t operation.Lock m (AtCell (load_of true)))) h)
    falls sees o y a e = sleeps_more z t at.first at.last invz.layout (begins_behind t (TimedLock m) ++ Step t ∷ []) z.words z.queues h m (OnMutex (TimedLock m)) operation.Lock at.out may.inside (fields_of w)
        (sees_sleep_more z t at.first at.last invz.layout (begins_behind t (TimedLock m)) z.words z.queues h m (OnMutex (TimedLock m)) operation.Lock at.out may.inside (begun o y a) (usable sees e) (other sees e) (some sees e) ((alike sees e).1 ∙ sees.waiters))
        (eq-eqb (w % 2 ^ 32) (low_of (fields_of w)) (ap (λ (u : ℕ). u % 2 ^ 32) (sym (word_of-fields_of w))))

    through : SeesAnother t v → (o : Op) (y : Reply) → IsAt z t o m (Clearing y) → AreEvents x t c (Row.SleepsOn k v) (
        if shown x pl % 2 ^ 32 == v % 2 ^ 32
        then makes (Access.Wait (cell_in z.layout t m) (v % 2 ^ 32)) (begins_behind t (TimedLock m) ++ Step t ∷ Step t ∷ []) (Row.Asleep (later k))
        else makes (Access.Wait (cell_in z.layout t m) (v % 2 ^ 32)) (begins_behind t (TimedLock m)) (Row.Asleep (later k))
        )
    through sees o y a = by_test (AreEvents x t c (Row.SleepsOn k v)) (shown x pl % 2 ^ 32 == v % 2 ^ 32)
        (makes (Access.Wait (cell_in z.layout t m) (v % 2 ^ 32)) (begins_behind t (TimedLock m) ++ Step t ∷ Step t ∷ []) (Row.Asleep (later k))) (makes (Access.Wait (cell_in z.layout t m) (v % 2 ^ 32)) (begins_behind t (TimedLock m)) (Row.Asleep (later k)))
        (λ e. asleep_on (Row.SleepsOn k v) (Row.Asleep (later k)) (begins_behind t (TimedLock m) ++ Step t ∷ Step t ∷ []) (cell_in z.layout t m) (v % 2 ^ 32) pl _ (record { awake = λ a. refl; slept = λ a. refl; turns = λ d a. refl }) place (cell_valid z.layout m may.inside) e (falls sees o y a e))
        (λ e. awake_on (Row.SleepsOn k v) (Row.Asleep (later k)) (begins_behind t (TimedLock m)) (cell_in z.layout t m) (v % 2 ^ 32) pl _ (record { awake = λ a. refl; slept = λ a. refl; turns = λ d a. refl }) place e (begun o y a))

  on_the_cell : (k : Taking) (v : ℕ) (how : How) → MayTake x t k.mutex → SeesAnother t v → IsToSleep k how v (z.threads t).stage → IsAbout z.layout k.mutex (z.threads t).stage → AreEvents x t c (Row.SleepsOn k v) (on_cell x t c k how v (shown x (cell_place z.layout (cell_of k.mutex))))
  on_the_cell k v Tried may sees there about = through k v may sees _ _ (behind_tried x t c at k.mutex there)
  on_the_cell k v Later may sees there about = through k v may sees _ _ (behind_later x t c at k.mutex there)
  on_the_cell k v (Waited y) may sees there about = waited k v may y there about

  -- ---- on the counter

  on_counter : (m k n : ℕ) (timed : Bool) (o : CondCall) → condition_of o ≡ k → IsAtWord z t o (CondPhase.AtWords (cond_row.Wait (wait.Sleep n)))
      → AreEvents x t c (Row.WaitSleeps m k n timed) (makes (Access.Wait (counter_in z.layout t k) n) (Step t ∷ []) (Row.WaitAsleep m k n timed))
  on_counter m k n timed o of a = subst (λ (j : ℕ). AreEvents x t c (Row.WaitSleeps m k n timed) (makes (Access.Wait (counter_in z.layout t j) n) (Step t ∷ []) (Row.WaitAsleep m k n timed))) of (go (z.words spot % 2 ^ 32 == n) refl)
    where
      spot : ℕ
      spot = counter_place z.layout (condition_of o)

      there : place_in z.layout t (counter_in z.layout t (condition_of o)) ≡ spot
      there = counter_again z.layout t invz.layout at.first at.last (condition_of o) a.counter

      asleep : CondWhole
      asleep = cond_of z.layout t o (CondPhase.AtWords (cond_row.Wait (wait.Sleep n)))

      l : Leads z t [] z.words z.queues (on (AtCondition o asleep) h)
      l = stays z t (AtCondition o asleep) invz a.there

      awake : Stage
      awake = Calling (OnCondition o) (retaking t (head_in z.layout t) (entry_in z.layout t (programs.mutex_of z.layout o)) (cell_in z.layout t (programs.mutex_of z.layout o)))

      leads : (b : Bool) → cond_led asleep (if b then Woken else Again) ≡ condition.onward (CondPhase.Locking (retaking t (head_in z.layout t) (entry_in z.layout t (programs.mutex_of z.layout o)) (cell_in z.layout t (programs.mutex_of z.layout o))))
      leads true = refl
      leads false = refl

      low : shown x spot % 2 ^ 32 ≡ z.words spot % 2 ^ 32
      low = counter_low x (condition_of o) a.counter

      go : (b : Bool) → (z.words spot % 2 ^ 32 == n) ≡ b → AreEvents x t c (Row.WaitSleeps m k n timed) (makes (Access.Wait (counter_in z.layout t (condition_of o)) n) (Step t ∷ []) (Row.WaitAsleep m k n timed))
      go true e = asleep_on (Row.WaitSleeps m k n timed) (Row.WaitAsleep m k n timed) (Step t ∷ []) (counter_in z.layout t (condition_of o)) n spot (on awake h) (record { awake = λ a. refl; slept = λ a. refl; turns = λ d a. refl }) there (counter_is_valid z.layout (condition_of o) a.counter) (ap (λ (v : ℕ). v == n) low ∙ e)
          (cond_more z t [] z.words z.queues o asleep h at.first at.last l (Access.Wait (counter_in z.layout t (condition_of o)) n) spot z.words (put z.queues spot (z.queues spot ++ t ∷ [])) (condition.onward (CondPhase.Locking (retaking t (head_in z.layout t) (entry_in z.layout t (programs.mutex_of z.layout o)) (cell_in z.layout t (programs.mutex_of z.layout o))))) (on awake h)
          refl there tt (put_back z.words spot) (ap (λ (b : Bool). put z.queues spot (if b then z.queues spot ++ t ∷ [] else z.queues spot)) e) (leads (z.words spot % 2 ^ 32 == n)) refl (unmoved (acts_as o) h) (all_still z z.words))
      go false e = awake_on (Row.WaitSleeps m k n timed) (Row.WaitAsleep m k n timed) (Step t ∷ []) (counter_in z.layout t (condition_of o)) n spot (on awake h) (record { awake = λ a. refl; slept = λ a. refl; turns = λ d a. refl }) there (ap (λ (v : ℕ). v == n) low ∙ e)
          (cond_more z t [] z.words z.queues o asleep h at.first at.last l (Access.Wait (counter_in z.layout t (condition_of o)) n) spot z.words z.queues (condition.onward (CondPhase.Locking (retaking t (head_in z.layout t) (entry_in z.layout t (programs.mutex_of z.layout o)) (cell_in z.layout t (programs.mutex_of z.layout o))))) (on awake h)
          refl there tt (put_back z.words spot) (ap (λ (b : Bool). put z.queues spot (if b then z.queues spot ++ t ∷ [] else z.queues spot)) e ∙ put_back z.queues spot) (leads (z.words spot % 2 ^ 32 == n)) refl (unmoved (acts_as o) h) (all_still z z.words))

  pub sleep_row : (r : Row) → StandsAs r (z.threads t).stage → IsAboutIt z.layout r (z.threads t).stage → IsSleeping x t r → AreEvents x t c r (made x t c r)
  sleep_row (Row.SleepsOn k v) there about (may, sees) = on_the_cell k v k.how may sees there about
  sleep_row (Row.WaitSleeps m k n true) (p, is, phase) about sleeping = on_counter m k n true (wait_of k true) refl (is_at_word z t (wait_of k true) p _ invz at.first at.last is phase)
  sleep_row (Row.WaitSleeps m k n false) (p, is, phase) about sleeping = on_counter m k n false (wait_of k false) refl (is_at_word z t (wait_of k false) p _ invz at.first at.last is phase)
  sleep_row r there about sleeping = absurd sleeping

pub sleeps_are : SleepsAreEvents
sleeps_are x t c at sleeping = let both = sleep_row x t c at (x.rows t) at.there at.about sleeping in record { words = both.0; queues = both.1 }
