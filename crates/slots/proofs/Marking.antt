-- WAITERS is set: by an exchange that finds the word that it expects, and by a broadcast.
use Rattle.std.proofs.Common.{◌≡◌, ℕ, ◌+◌, ◌*◌, ◌/◌, ◌%◌, ◌<◌, ◌==◌, Bool, true, false, List, [], ◌∷◌, ◌++◌, refl, sym, ap, ◌∙◌, subst, arith, eq-eqb, bit_or, ◌^◌}
use Rattle.std.specs.Prelude.{if◌then◌else◌}
use Rattle.lockword.specs.Cells.{bit, fields_of, word_of, waiting, waiters_alone, low_of}
use Rattle.lockword.specs.Coding.{word_of-fields_of}
use Rattle.lockword.proofs.Bits.{or_waiting}
use Rattle.lockword.specs.declared.reply.Reply.{Reply}
use Rattle.lockword.specs.declared.reply.Reply.TheVariants.{ETIMEDOUT}
use Rattle.stepprograms.specs.declared.access.Access.{Access}
use Rattle.posixmutex.specs.declared.point.Operation.TheVariants as operation
use Rattle.memorymap.specs.Layouts.{cell_place, place_in}
use Rattle.mutex.specs.declared.call.Call.TheVariants.{TimedLock}
use Rattle.mutex.specs.declared.lock.LockRow.TheVariants as lock
use Rattle.mutex.specs.declared.row.Row.TheVariants.{Lock}
use Rattle.mutex.specs.declared.phase.Phase.TheVariants.{AtCell, Clearing}
use Rattle.condvar.specs.declared.call.CondCall.{CondCall}
use Rattle.condvar.specs.declared.call.CondCall.TheVariants as cond_call
use Rattle.condvar.specs.declared.phase.CondPhase.{CondPhase}
use Rattle.condvar.specs.declared.row.CondRow.TheVariants as cond_row
use Rattle.condvar.specs.declared.broadcast.BroadcastRow.TheVariants as broadcast
use Rattle.condvar.specs.Calls.{acts_as}
use Rattle.condvar.specs.Programs as programs
use Rattle.condvar.specs.Standings.{CondWhole}
use Rattle.condvar.specs.Whole as condition
use Rattle.condvar.specs.declared.op.Op.{Op}
use Rattle.condvar.specs.declared.op.Op.TheVariants.{OnMutex, OnCondition}
use Rattle.protocol.specs.declared.event.Event.{Event}
use Rattle.protocol.specs.declared.event.Event.TheVariants.{Step}
use Rattle.protocol.specs.declared.thread.Thread.{Thread}
use Rattle.protocol.specs.declared.thread.Stage.TheVariants.{Calling, AtCondition}
use Rattle.protocol.specs.Machine.{State, put}
use Rattle.protocol.proofs.Kept.{Kept}
use Rattle.protocol.proofs.CondSteps.{cond_of}
use Rattle.protocol.proofs.Puts.{by_put}
use Rattle.protocol.proofs.Seeing.{cell_in, cell_again}
use Rattle.slots.specs.Places.{cell_of}
use Rattle.slots.specs.Rows.{Choice, How, Row, Taking, Then}
use Rattle.slots.specs.Rows.How.{Tried, Later, Waited}
use Rattle.slots.specs.Shown.{Slots, shown}
use Rattle.slots.specs.Stands.{HasChosen, StandsAs}
use Rattle.slots.specs.Words.{waiting_word}
use Rattle.slots.specs.Seen.{begins_behind, sets_and_expires}
use Rattle.slots.specs.Table.{made, makes, marked_events, marked_row, missed, out_of}
use Rattle.slots.specs.Rows.Before.{Again}
use Rattle.slots.specs.Accesses.{IsAbout, IsAboutIt, IsAtRow}
use Rattle.slots.specs.Further.{IsMarking, MarksAreEvents, MayTake, SeesUnmarked}
use Rattle.slots.proofs.Chains.{again_more, marks_more, sees_and_sets, sets_more, waiting_still}
use Rattle.slots.proofs.Decisions.{at_load_later, behind_tried}
use Rattle.slots.proofs.Free.{reached_kept}
use Rattle.slots.proofs.Leading.{IsAt, IsAtWord, Leads, Still, by_test, call_at, cond_more, is_at, is_at_word, on, op_of, put_back, stays, unmoved}
use Rattle.slots.proofs.Looks.{IsQuiet}
use Rattle.slots.proofs.Meets.{Says, cell_says, cell_shows, cell_word_events, pends_in, usable_if_owned}
use Rattle.slots.proofs.OneStep.{AreEvents}
use Rattle.slots.proofs.Takes.{load_of, not_equal}

-- ---- the word, as memory shows it with its turn

waiting_shown : (w n : ℕ) → word_of (waiting (fields_of w)) + 0 + n * 8589934592 ≡ word_of (waiting (fields_of (w + 0 + n * 8589934592)))
waiting_shown w n =
    let owner : (w + 0 + n * 8589934592) % 1073741824 ≡ w % 1073741824 = omega arith in
    let died : ((w + 0 + n * 8589934592) / 1073741824 % 2 == 1) ≡ (w / 1073741824 % 2 == 1) = ap (λ (z : ℕ). z == 1) (let e : (w + 0 + n * 8589934592) / 1073741824 % 2 ≡ w / 1073741824 % 2 = omega arith in e) in
    let lost : ((w + 0 + n * 8589934592) / 4294967296 % 2 == 1) ≡ (w / 4294967296 % 2 == 1) = ap (λ (z : ℕ). z == 1) (let e : (w + 0 + n * 8589934592) / 4294967296 % 2 ≡ w / 4294967296 % 2 = omega arith in e) in
    let above : (w + 0 + n * 8589934592) / 8589934592 ≡ w / 8589934592 + n = omega arith in
    sums (w % 1073741824) (bit (w / 1073741824 % 2 == 1) 1073741824) (bit (w / 4294967296 % 2 == 1) 4294967296) (w / 8589934592) n
    ∙ (λ i. sym owner i + bit (sym died i) 1073741824 + 2147483648 + bit (sym lost i) 4294967296 + sym above i * 8589934592)
  where
    sums : (o a b r n : ℕ) → o + a + 2147483648 + b + r * 8589934592 + 0 + n * 8589934592 ≡ o + a + 2147483648 + b + (r + n) * 8589934592
    sums o a b r n = omega arith

-- its lower half
low_sum : (a b n : ℕ) → a + 0 + n * 8589934592 ≡ b → a % 2 ^ 32 ≡ b % 2 ^ 32
low_sum a b n is = omega (arith, is)

pub waiting_low : (w n v : ℕ) → w + 0 + n * 8589934592 ≡ v → low_of (waiting (fields_of w)) ≡ waiting_word v % 2 ^ 32
waiting_low w n v found = low_sum (word_of (waiting (fields_of w))) (waiting_word v) n (waiting_shown w n ∙ ap waiting_word found)

or_is : (w : ℕ) → bit_or w 2147483648 ≡ word_of (waiting (fields_of w))
or_is w = sym (word_of-fields_of (bit_or w 2147483648)) ∙ ap word_of (or_waiting w)

or_shown : (w n : ℕ) → bit_or w 2147483648 + 0 + n * 8589934592 ≡ bit_or (w + 0 + n * 8589934592) 2147483648
or_shown w n = ap (λ (v : ℕ). v + 0 + n * 8589934592) (or_is w) ∙ waiting_shown w n ∙ sym (or_is (w + 0 + n * 8589934592))

-- the exchange finds what it expects
exchanged : (w n v : ℕ) → w + 0 + n * 8589934592 ≡ v → word_of (waiting (fields_of w)) + 0 + n * 8589934592 ≡ (if w + 0 + n * 8589934592 == v then waiting_word v else w + 0 + n * 8589934592)
exchanged w n v found =
    waiting_shown w n ∙ ap waiting_word found
    ∙ sym (ap (λ (b : Bool). if b then waiting_word v else w + 0 + n * 8589934592) (eq-eqb (w + 0 + n * 8589934592) v found))

module _ (x : Slots) (t : ℕ) (c : Choice) (at : IsAtRow x t) where
  abbrev z : State
  z = x.machine

  abbrev h : ℕ
  h = (z.threads t).held

  invz : Kept z
  invz = reached_kept z at.reached

  -- ---- a lock

  module _ (m v : ℕ) (may : MayTake x t m) (sees : SeesUnmarked x t m v) where
    abbrev k : ℕ
    k = cell_of m

    abbrev pl : ℕ
    pl = cell_place z.layout k

    abbrev w : ℕ
    w = z.words pl

    says : Says w v
    says = subst (Says w) sees.found (cell_says x m may.inside)

    some : ((fields_of w).owner == 0) ≡ false
    some = not_equal (fields_of w).owner 0 (λ e. sees.some (says.owner ∙ e))

    other : ((fields_of w).owner == t) ≡ false
    other = not_equal (fields_of w).owner t (λ e. sees.other (says.owner ∙ e))

    usable : (fields_of w).unusable ≡ false
    usable = usable_if_owned z k invz may.inside (λ e. sees.some (says.owner ∙ e))

    none : (fields_of w).waiters ≡ false
    none = sym says.waiters ∙ sees.waiters

    abbrev marked : ℕ → ℕ
    marked = put z.words pl (word_of (waiting (fields_of w)))

    exchange : (r next : Row) (es : List Event) (th : Thread) → IsQuiet r → Leads z t es marked z.queues th → AreEvents x t c r (makes (Access.Exchange (cell_in z.layout t k) v (waiting_word v)) es next)
    exchange r next es th quiet l = cell_word_events x t c r next es marked z.queues th quiet l m (word_of (waiting (fields_of w))) may.inside (λ p. refl) (λ p. refl) (Access.Exchange (cell_in z.layout t k) v (waiting_word v)) tt
        (cell_again z.layout t invz.layout at.first at.last k may.inside) (exchanged w (x.turns k) v (sym (cell_shows x m may.inside) ∙ sees.found))

    -- of a lock at its load, or that begins then
    pub from_load : IsAt z t (OnMutex (TimedLock k)) k (AtCell (load_of true)) → Leads z t (sets_and_expires t) marked z.queues (on (Calling (OnMutex (TimedLock k)) (call_at z.layout t operation.Lock k (Clearing ETIMEDOUT))) h)
    from_load a = marks_more z t at.first at.last invz.layout [] z.words z.queues h k at.out may.inside (stays z t (Calling (OnMutex (TimedLock k)) (call_at z.layout t operation.Lock k (AtCell (load_of true)))) invz a.there) usable other some none

    pub from_clear : (o : Op) (y : Reply) → IsAt z t o k (Clearing y) → Leads z t (begins_behind t (TimedLock k) ++ sets_and_expires t) marked z.queues (on (Calling (OnMutex (TimedLock k)) (call_at z.layout t operation.Lock k (Clearing ETIMEDOUT))) h)
    from_clear o y a = marks_more z t at.first at.last invz.layout (begins_behind t (TimedLock k)) z.words z.queues h k at.out may.inside
        (again_more z t at.first at.last invz.layout [] z.words z.queues h k true o (op_of o) k y at.out (stays z t (Calling o (call_at z.layout t (op_of o) k (Clearing y))) invz a.there) may.inside may.room (pends_in z t o k (Clearing y) invz at.first at.last a))
        usable other some none

    -- of the lock that ends a wait, which then is about to sleep
    pub from_wait : (o : Op) → op_of o ≡ operation.Lock → IsAt z t o k (AtCell (load_of true)) → Leads z t (Step t ∷ Step t ∷ []) marked z.queues (on (Calling o (call_at z.layout t (op_of o) k (AtCell (Lock (lock.Sleep (waiting (fields_of w))))))) h)
    from_wait o is a = sets_more z t at.first at.last invz.layout (Step t ∷ []) z.words z.queues h k o (op_of o) at.out may.inside
        (sees_and_sets z t at.first at.last invz.layout [] z.words z.queues h k o (op_of o) at.out may.inside (stays z t (Calling o (call_at z.layout t (op_of o) k (AtCell (load_of true)))) invz a.there) usable other some none)

  marks_so : (k : Taking) (v : ℕ) (n : Then) (how : How) (next : Row) → MayTake x t k.mutex → SeesUnmarked x t k.mutex v → HasChosen k how false v (z.threads t).stage → IsAbout z.layout k.mutex (z.threads t).stage
      → AreEvents x t c (Row.Marks k v n) (makes (Access.Exchange (cell_in z.layout t (cell_of k.mutex)) v (waiting_word v)) (marked_events x t c k how) next)
  marks_so k v n Tried next may sees there about = exchange k.mutex v may sees (Row.Marks k v n) next _ _ (record { awake = λ a. refl; slept = λ a. refl; turns = λ d a. refl }) (from_clear k.mutex v may sees _ _ (behind_tried x t c at k.mutex there))
  marks_so k v n Later next may sees there about = exchange k.mutex v may sees (Row.Marks k v n) next _ _ (record { awake = λ a. refl; slept = λ a. refl; turns = λ d a. refl }) (from_load k.mutex v may sees (at_load_later x t c at k.mutex there))
  marks_so k v n (Waited y) next may sees (o, p, is, of, acts, phase) about = exchange k.mutex v may sees (Row.Marks k v n) next (Step t ∷ Step t ∷ []) _ (record { awake = λ a. refl; slept = λ a. refl; turns = λ d a. refl })
      (from_wait k.mutex v may sees (OnCondition o) refl (is_at z t (OnCondition o) p (cell_of k.mutex) (AtCell (load_of true)) invz at.first at.last is phase (subst (IsAbout z.layout k.mutex) is about)))

  -- ---- a broadcast

  module _ (m k n seen : ℕ) (a : IsAtWord z t (cond_call.Broadcast k) (CondPhase.AtWords (cond_row.Broadcast (broadcast.SetWaiters seen)))) (about : programs.mutex_of z.layout (cond_call.Broadcast k) ≡ cell_of m) where
    abbrev o : CondCall
    o = cond_call.Broadcast k

    abbrev p : CondWhole
    p = cond_of z.layout t o (CondPhase.AtWords (cond_row.Broadcast (broadcast.SetWaiters seen)))

    abbrev moving : CondWhole
    moving = cond_of z.layout t o (CondPhase.AtWords (cond_row.Broadcast (broadcast.Move seen)))

    abbrev spot : ℕ
    spot = cell_place z.layout (cell_of m)

    inside : cell_of m < z.layout.mutexes
    inside = subst (λ (j : ℕ). j < z.layout.mutexes) about a.cell

    there : place_in z.layout t (cell_in z.layout t (programs.mutex_of z.layout o)) ≡ spot
    there = ap (λ (j : ℕ). place_in z.layout t (cell_in z.layout t j)) about ∙ cell_again z.layout t invz.layout at.first at.last (cell_of m) inside

    still : (j : ℕ) → j < z.layout.mutexes → Still (z.words (cell_place z.layout j)) (put z.words spot (bit_or (z.words spot) 2147483648) (cell_place z.layout j))
    still j in_j = by_put (λ (v : ℕ). Still (z.words (cell_place z.layout j)) v) z.words spot (bit_or (z.words spot) 2147483648) (cell_place z.layout j)
        (λ here. subst (λ (e : ℕ). Still (z.words e) (bit_or (z.words spot) 2147483648)) (sym here) (subst (Still (z.words spot)) (sym (or_is (z.words spot))) (waiting_still (z.words spot)))) (λ apart. (refl, refl))

    pub sets : Leads z t (Step t ∷ []) (put z.words spot (bit_or (z.words spot) 2147483648)) z.queues (on (AtCondition o moving) h)
    sets = cond_more z t [] z.words z.queues o p h at.first at.last (stays z t (AtCondition o p) invz a.there) (Access.FetchOr (cell_in z.layout t (programs.mutex_of z.layout o)) 2147483648) spot (put z.words spot (bit_or (z.words spot) 2147483648)) z.queues
        (condition.onward (CondPhase.AtWords (cond_row.Broadcast (broadcast.Move seen)))) (on (AtCondition o moving) h) refl there tt refl (put_back z.queues spot) refl refl (unmoved (acts_as o) h) still

    sets_so : AreEvents x t c (Row.AllMarks m k n) (makes (Access.FetchOr (cell_in z.layout t (cell_of m)) waiters_alone) (Step t ∷ []) (Row.AllMoves m k n))
    sets_so = cell_word_events x t c (Row.AllMarks m k n) (Row.AllMoves m k n) (Step t ∷ []) (put z.words spot (bit_or (z.words spot) 2147483648)) z.queues (on (AtCondition o moving) h) (record { awake = λ a. refl; slept = λ a. refl; turns = λ d a. refl }) sets
        m (bit_or (z.words spot) 2147483648) inside (λ q. refl) (λ q. refl) (Access.FetchOr (cell_in z.layout t (cell_of m)) waiters_alone) tt (cell_again z.layout t invz.layout at.first at.last (cell_of m) inside) (or_shown (z.words spot) (x.turns (cell_of m)))

  pub mark_row : (r : Row) → StandsAs r (z.threads t).stage → IsAboutIt z.layout r (z.threads t).stage → IsMarking x t r → AreEvents x t c r (made x t c r)
  mark_row (Row.Marks k v n) there about (may, sees) = by_test (AreEvents x t c (Row.Marks k v n)) (shown x (cell_place z.layout (cell_of k.mutex)) == v)
      (makes (Access.Exchange (cell_in z.layout t (cell_of k.mutex)) v (waiting_word v)) (marked_events x t c k k.how) (marked_row x t c k k.how v n)) (missed x t c (Access.Exchange (cell_in z.layout t (cell_of k.mutex)) v (waiting_word v)) k k.how (shown x (cell_place z.layout (cell_of k.mutex))))
      (λ found. marks_so k v n k.how (marked_row x t c k k.how v n) may sees there about)
      (λ miss. absurd (cc (sym miss ∙ eq-eqb (shown x (cell_place z.layout (cell_of k.mutex))) v sees.found)))
  mark_row (Row.LastMarks k v) there about (may, sees) = by_test (AreEvents x t c (Row.LastMarks k v)) (shown x (cell_place z.layout (cell_of k.mutex)) == v)
      (makes (Access.Exchange (cell_in z.layout t (cell_of k.mutex)) v (waiting_word v)) (sets_and_expires t) (out_of x t c k)) (makes (Access.Exchange (cell_in z.layout t (cell_of k.mutex)) v (waiting_word v)) [] (Row.HeirPends k Again))
      (λ found. exchange k.mutex v may sees (Row.LastMarks k v) (out_of x t c k) (sets_and_expires t) _ (record { awake = λ a. refl; slept = λ a. refl; turns = λ d a. refl }) (from_load k.mutex v may sees (at_load_later x t c at k.mutex there)))
      (λ miss. absurd (cc (sym miss ∙ eq-eqb (shown x (cell_place z.layout (cell_of k.mutex))) v sees.found)))
  mark_row (Row.AllMarks m k n) (seen, same, (p, is, phase)) about marking = sets_so m k n seen (is_at_word z t (cond_call.Broadcast k) p (CondPhase.AtWords (cond_row.Broadcast (broadcast.SetWaiters seen))) invz at.first at.last is phase) (subst (IsAbout z.layout m) is about)
  mark_row r there about marking = absurd marking

pub marks_are : MarksAreEvents
marks_are x t c at marking = let both = mark_row x t c at (x.rows t) at.there at.about marking in record { words = both.0; queues = both.1 }
