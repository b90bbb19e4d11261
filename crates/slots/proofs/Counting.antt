-- Stores of a counter's word: counts, and changes of SLEPT.
use Rattle.std.proofs.Common.{◌≡◌, ◌≢◌, ℕ, ◌+◌, ◌*◌, ◌/◌, ◌%◌, ◌^◌, ◌<◌, ◌==◌, Bool, true, false, Option, Some, None, List, [], ◌∷◌, length, refl, sym, ap, ◌∙◌, subst, arith, eq-eqb}
use Rattle.std.specs.Prelude.{nat_lt, slice_index, drop, ◌&&◌}
use Rattle.std.proofs.lemmas.Bool.Decides.{nat_tests}
use Rattle.lockword.specs.Cells.{Fields, bit}
use Rattle.lockword.specs.declared.reply.Reply.TheVariants.{OK}
use Rattle.stepprograms.specs.declared.access.Access.{Access}
use Rattle.posixmutex.specs.declared.point.Operation.TheVariants as operation
use Rattle.memorymap.specs.Layouts.{Layout', cell_place, counter_place, place_in}
use Rattle.condvar.specs.declared.call.CondCall.{CondCall}
use Rattle.condvar.specs.declared.call.CondCall.TheVariants as cond_call
use Rattle.condvar.specs.declared.phase.CondPhase.{CondPhase}
use Rattle.condvar.specs.declared.row.CondRow as cond_rows
use Rattle.condvar.specs.declared.row.CondRow.TheVariants as cond_row
use Rattle.condvar.specs.declared.signal.SignalRow.TheVariants as signal
use Rattle.condvar.specs.declared.broadcast.BroadcastRow.TheVariants as broadcast
use Rattle.condvar.specs.Calls.{acts_as, condition_of}
use Rattle.condvar.specs.Programs as programs
use Rattle.condvar.specs.Rows as rows
use Rattle.condvar.specs.Signal.{signal_sees, signal_counts}
use Rattle.condvar.specs.Broadcast.{broadcast_sees, broadcast_counts}
use Rattle.condvar.specs.Standings.{CondWhole}
use Rattle.condvar.specs.Whole as condition
use Rattle.condvar.specs.Whole.{cond_access, cond_led, from_words}
use Rattle.condvar.specs.declared.op.Op.TheVariants.{OnCondition}
use Rattle.protocol.specs.declared.event.Event.{Event}
use Rattle.protocol.specs.declared.event.Event.TheVariants.{Begin, Step}
use Rattle.protocol.specs.declared.thread.Thread.{Thread}
use Rattle.protocol.specs.declared.thread.Stage.TheVariants.{Idle, AtCondition}
use Rattle.protocol.specs.Machine.{State, put, mutex_at}
use Rattle.protocol.proofs.Kept.{Kept}
use Rattle.protocol.proofs.CondSteps.{cond_of}
use Rattle.protocol.proofs.Places.{counter_is_no_cell, counter_is_valid}
use Rattle.protocol.proofs.Puts.{by_put, put-same, put-other}
use Rattle.protocol.proofs.Seeing.{cell_in, counter_in, cell_again, counter_again}
use Rattle.slots.specs.Places.{cell_of, counter_at, is_slot, our_own}
use Rattle.slots.specs.Rows.{Choice, Row}
use Rattle.slots.specs.Shown.{Slots, after, memory, shown, shown_as}
use Rattle.slots.specs.Stands.{StandsAs}
use Rattle.slots.specs.Words.{slept_bit}
use Rattle.slots.specs.Table.{counted, counted_row, count_begins, finds_row, made, makes, shows_slept}
use Rattle.slots.specs.Rows.Giving.{OfWait}
use Rattle.slots.specs.Runs.{awake_after, slept_after, turns_after}
use Rattle.slots.specs.Invariant.{fields_at}
use Rattle.slots.specs.Accesses.{IsAtRow}
use Rattle.slots.specs.Further.{CountsAreEvents, IsCounting, MayCount, SaysCount}
use Rattle.slots.proofs.Free.{reached_kept}
use Rattle.slots.proofs.Leading.{Leads, Still, begins_more, cond_loads, cond_more, on, put_back, stays, still_same, unmoved}
use Rattle.slots.proofs.OneStep.{AreEvents}
use Rattle.slots.proofs.Shows.{changes, changes_queues, counter_there, found_inside, no_mutex, put_there}
use Rattle.slots.proofs.Sleeping.{counter_found, counter_shows}

-- ---- what memory shows after a change of one counter's word, or of its SLEPT

-- y shows its words as x would, except at counter k
record IsLikeAt (x y : Slots) (k : ℕ) : Type 0 where
  layout : y.machine.layout ≡ x.machine.layout
  awake : (m : ℕ) → y.awake m ≡ x.awake m
  slept : (j : ℕ) → j ≢ k → y.slept j ≡ x.slept j
  turns : (j : ℕ) → j < x.machine.layout.mutexes → y.turns j ≡ x.turns j

shows_at : (x y : Slots) (k w : ℕ) → k < length x.machine.layout.conditions → IsLikeAt x y k → ((p : ℕ) → y.machine.words p ≡ put x.machine.words (counter_place x.machine.layout k) w p)
    → (p : ℕ) → shown y p ≡ put (shown x) (counter_place x.machine.layout k) (w + bit (y.slept k) 4294967296) p
shows_at x y k w inside like words p =
    by_put (λ v. shown y p ≡ v) (shown x) (counter_place l k) (w + bit (y.slept k) 4294967296) p
    (λ here.
    ap (shown y) here
    ∙ (λ i. shown_as y (mutex_at (like.layout i) (counter_place l k)) (counter_at (like.layout i) (counter_place l k)) (y.machine.words (counter_place l k)))
    ∙ (λ i. shown_as y (no_mutex l (counter_place l k) (λ j in_j. counter_is_no_cell l j k in_j) i) (counter_found l k inside i) (y.machine.words (counter_place l k)))
    ∙ ap (λ (v : ℕ). v + bit (y.slept k) 4294967296) (words (counter_place l k) ∙ put-same x.machine.words (counter_place l k) w))
    (λ apart.
    (λ i. shown_as y (mutex_at (like.layout i) p) (counter_at (like.layout i) p) (y.machine.words p))
    ∙ ap (shown_as y (mutex_at l p) (counter_at l p)) (words p ∙ put-other x.machine.words (counter_place l k) w p apart)
    ∙ go apart (mutex_at l p) refl (counter_at l p) refl)
  where
    l : Layout'
    l = x.machine.layout

    go : p ≢ counter_place l k → (o : Option ℕ) → mutex_at l p ≡ o → (c : Option ℕ) → counter_at l p ≡ c → shown_as y o c (x.machine.words p) ≡ shown_as x o c (x.machine.words p)
    go apart (Some j) e c f = λ i. x.machine.words p + bit (is_slot j && like.awake (our_own j) i) 4294967296 + like.turns j (found_inside l p j e) i * 8589934592
    go apart None e (Some j) f = let other : j ≢ k = λ same. apart (counter_there l p j f ∙ ap (counter_place l) same) in λ i. x.machine.words p + bit (like.slept j other i) 4294967296
    go apart None e None f = refl

-- ---- what a call sees

sees_signal : (t : ℕ) (c : Fields) → (c.owner == t) ≡ true → signal_sees t c ≡ rows.goes (cond_row.Signal signal.LoadCounter)
sees_signal t c own = grind (arith)

sees_broadcast : (t : ℕ) (c : Fields) → (c.owner == t) ≡ true → broadcast_sees t c ≡ rows.goes (cond_row.Broadcast broadcast.LoadCounter)
sees_broadcast t c own = grind (arith)

counts_signal : (n : ℕ) → (n == 4294967295) ≡ false → signal_counts n ≡ rows.goes (cond_row.Signal signal.Count)
counts_signal n few = grind (arith)

counts_broadcast : (n : ℕ) → (n == 4294967295) ≡ false → broadcast_counts n ≡ rows.goes (cond_row.Broadcast (broadcast.Count (n % 2 ^ 32)))
counts_broadcast n few = grind (arith)

not_full : (n : ℕ) → n < 4294967295 → (n == 4294967295) ≡ false
not_full n few = grind (arith, nat_tests)

-- what the store stores
count_is : (w : ℕ) (b : Bool) → w < 4294967295 → (w + 1) % 18446744073709551616 + bit b 4294967296 ≡ (w + bit b 4294967296) / 2 ^ 32 * 2 ^ 32 + (w + bit b 4294967296 + 1) % 2 ^ 32
count_is w true few = omega arith
count_is w false few = omega arith

slept_is : (w : ℕ) (b : Bool) → w < 4294967295 → ((w + bit b 4294967296) / 2 ^ 32 == 1) ≡ b
slept_is w true few = eq-eqb ((w + 4294967296) / 2 ^ 32) 1 (omega arith)
slept_is w false few = let none : (w + 0) / 2 ^ 32 ≡ 0 = omega arith in ap (λ (n : ℕ). n == 1) none

module _ (x : Slots) (t : ℕ) (c : Choice) (at : IsAtRow x t) where
  abbrev z : State
  z = x.machine

  abbrev h : ℕ
  h = (z.threads t).held

  invz : Kept z
  invz = reached_kept z at.reached

  -- ---- SLEPT alone

  module _ (k n : ℕ) (says : SaysCount x k n) where
    abbrev pl : ℕ
    pl = counter_place z.layout k

    there : place_in z.layout t (counter_in z.layout t k) ≡ pl
    there = counter_again z.layout t invz.layout at.first at.last k says.inside

    slept_so : (r next : Row) (b : Bool) (v : ℕ) → slept_after r x.slept ≡ put x.slept k b → awake_after r x.awake ≡ x.awake → turns_after r c x.turns ≡ x.turns → n + bit b 4294967296 ≡ v → AreEvents x t c r (makes (Access.Store (counter_in z.layout t k) v) [] next)
    slept_so r next b v slept awake turns value = (
      λ p. shows_at x behind k (z.words pl) says.inside like (λ q. sym (put_there z.words pl q)) p
          ∙ ap (λ (u : ℕ). put (shown x) pl u p) ((λ i. says.says i + bit (slept i k) 4294967296) ∙ ap (λ (d : Bool). n + bit d 4294967296) (put-same x.slept k b) ∙ value)
          ∙ sym (changes (memory x) t pl (Access.Store (counter_in z.layout t k) v) tt there (counter_is_valid z.layout k says.inside) p),
      λ p. sym (changes_queues (memory x) t (Access.Store (counter_in z.layout t k) v) tt p),
    )
      where
        behind : Slots
        behind = record (after x []) { turns = turns_after r c (after x []).turns; awake = awake_after r x.awake; slept = slept_after r x.slept; rows = put x.rows t next }

        like : IsLikeAt x behind k
        like = record {
          layout = refl;
          awake = λ m. ap (λ (f : ℕ → Bool). f m) awake;
          slept = λ j apart. ap (λ (f : ℕ → Bool). f j) slept ∙ put-other x.slept k b j apart;
          turns = λ j in_j. ap (λ (f : ℕ → ℕ). f j) turns;
        }

  -- ---- a count

  module _ (m k n : ℕ) (may : MayCount x t m k n) where
    abbrev spot : ℕ
    spot = counter_place z.layout k

    abbrev w : ℕ
    w = z.words spot

    abbrev counts : ℕ → ℕ
    counts = put z.words spot ((w + 1) % 18446744073709551616)

    its : place_in z.layout t (counter_in z.layout t k) ≡ spot
    its = counter_again z.layout t invz.layout at.first at.last k may.inside

    still : (j : ℕ) → j < z.layout.mutexes → Still (z.words (cell_place z.layout j)) (counts (cell_place z.layout j))
    still j in_j = still_same (z.words (cell_place z.layout j)) (counts (cell_place z.layout j)) (put-other z.words spot ((w + 1) % 18446744073709551616) (cell_place z.layout j) (λ e. counter_is_no_cell z.layout j k in_j (sym e)))

    below : nat_lt k (length z.layout.conditions) ≡ true
    below = let inside : k < length z.layout.conditions = may.inside in grind (arith, nat_tests)

    -- the cell, of a call on this condition variable
    cell_there : (o : CondCall) → condition_of o ≡ k → place_in z.layout t (cell_in z.layout t (programs.mutex_of z.layout o)) ≡ cell_place z.layout (cell_of m)
    cell_there o is = ap (λ (j : ℕ). place_in z.layout t (cell_in z.layout t j)) (ap (slice_index z.layout.conditions) is ∙ may.cell) ∙ cell_again z.layout t invz.layout at.first at.last (cell_of m) may.owns.inside

    own : ((fields_at z (cell_of m)).owner == t) ≡ true
    own = eq-eqb (fields_at z (cell_of m)).owner t may.owns.owner

    few : (w == 4294967295) ≡ false
    few = not_full w may.few

    rests : (z.threads t).stage ≡ Idle → Leads z t [] z.words z.queues (on Idle h)
    rests is = stays z t Idle invz is

    -- a signal
    abbrev s' : CondCall
    s' = cond_call.Signal k

    abbrev sig : cond_rows.CondRow → CondWhole
    sig r = cond_of z.layout t s' (CondPhase.AtWords r)

    pub signals : (z.threads t).stage ≡ Idle → Leads z t (Begin t (OnCondition s') ∷ Step t ∷ Step t ∷ Step t ∷ []) counts z.queues (on (AtCondition s' (sig (cond_row.Signal signal.Wake))) h)
    signals is =
        cond_more z t (Begin t (OnCondition s') ∷ Step t ∷ Step t ∷ []) z.words z.queues s' (sig (cond_row.Signal signal.Count)) h at.first at.last
        (cond_loads z t (Begin t (OnCondition s') ∷ Step t ∷ []) z.words z.queues s' (sig (cond_row.Signal signal.LoadCounter)) h at.first at.last
        (cond_loads z t (Begin t (OnCondition s') ∷ []) z.words z.queues s' (sig (cond_row.Signal signal.LoadCell)) h at.first at.last
        (begins_more z t [] z.words z.queues h at.first at.last (rests is) (OnCondition s') (λ i. below i && true) refl)
        (cell_in z.layout t (programs.mutex_of z.layout s')) (cell_place z.layout (cell_of m)) (condition.onward (CondPhase.AtWords (cond_row.Signal signal.LoadCounter))) (on (AtCondition s' (sig (cond_row.Signal signal.LoadCounter))) h)
        refl (cell_there s' refl) (ap (from_words (sig (cond_row.Signal signal.LoadCell))) (sees_signal t (fields_at z (cell_of m)) own)) refl (unmoved (acts_as s') h))
        (counter_in z.layout t k) spot (condition.onward (CondPhase.AtWords (cond_row.Signal signal.Count))) (on (AtCondition s' (sig (cond_row.Signal signal.Count))) h)
        refl its (ap (from_words (sig (cond_row.Signal signal.LoadCounter))) (counts_signal w few)) refl (unmoved (acts_as s') h))
        (Access.FetchAdd (counter_in z.layout t k) 1) spot counts z.queues (from_words (sig (cond_row.Signal signal.Count)) (rows.decides (cond_row.Signal signal.Wake) operation.Signal OK)) (on (AtCondition s' (sig (cond_row.Signal signal.Wake))) h)
        refl its tt refl (put_back z.queues spot) refl refl refl still

    -- whose wake wakes nobody
    pub wakes_none : (z.threads t).stage ≡ Idle → z.queues spot ≡ [] → Leads z t (Begin t (OnCondition s') ∷ Step t ∷ Step t ∷ Step t ∷ Step t ∷ []) counts z.queues (on Idle h)
    wakes_none is none = cond_more z t (Begin t (OnCondition s') ∷ Step t ∷ Step t ∷ Step t ∷ []) counts z.queues s' (sig (cond_row.Signal signal.Wake)) h at.first at.last (signals is)
        (Access.Wake (counter_in z.layout t k) 1) spot counts z.queues (condition.onward (CondPhase.Ended OK)) (on Idle h)
        refl its tt (put_back counts spot) (ap (λ (us : List ℕ). put z.queues spot (drop 1 us)) none ∙ ap (put z.queues spot) (sym none) ∙ put_back z.queues spot) refl refl (unmoved (acts_as s') h) (λ j in_j. (refl, refl))

    -- a broadcast
    abbrev b' : CondCall
    b' = cond_call.Broadcast k

    abbrev cast : cond_rows.CondRow → CondWhole
    cast r = cond_of z.layout t b' (CondPhase.AtWords r)

    pub broadcasts : (z.threads t).stage ≡ Idle → Leads z t (Begin t (OnCondition b') ∷ Step t ∷ Step t ∷ Step t ∷ []) counts z.queues (on (AtCondition b' (cast (cond_row.Broadcast (broadcast.SetWaiters (w % 2 ^ 32))))) h)
    broadcasts is =
        cond_more z t (Begin t (OnCondition b') ∷ Step t ∷ Step t ∷ []) z.words z.queues b' (cast (cond_row.Broadcast (broadcast.Count (w % 2 ^ 32)))) h at.first at.last
        (cond_loads z t (Begin t (OnCondition b') ∷ Step t ∷ []) z.words z.queues b' (cast (cond_row.Broadcast broadcast.LoadCounter)) h at.first at.last
        (cond_loads z t (Begin t (OnCondition b') ∷ []) z.words z.queues b' (cast (cond_row.Broadcast broadcast.LoadCell)) h at.first at.last
        (begins_more z t [] z.words z.queues h at.first at.last (rests is) (OnCondition b') (λ i. below i && true) refl)
        (cell_in z.layout t (programs.mutex_of z.layout b')) (cell_place z.layout (cell_of m)) (condition.onward (CondPhase.AtWords (cond_row.Broadcast broadcast.LoadCounter))) (on (AtCondition b' (cast (cond_row.Broadcast broadcast.LoadCounter))) h)
        refl (cell_there b' refl) (ap (from_words (cast (cond_row.Broadcast broadcast.LoadCell))) (sees_broadcast t (fields_at z (cell_of m)) own)) refl (unmoved (acts_as b') h))
        (counter_in z.layout t k) spot (condition.onward (CondPhase.AtWords (cond_row.Broadcast (broadcast.Count (w % 2 ^ 32))))) (on (AtCondition b' (cast (cond_row.Broadcast (broadcast.Count (w % 2 ^ 32))))) h)
        refl its (ap (from_words (cast (cond_row.Broadcast broadcast.LoadCounter))) (counts_broadcast w few)) refl (unmoved (acts_as b') h))
        (Access.FetchAdd (counter_in z.layout t k) 1) spot counts z.queues (from_words (cast (cond_row.Broadcast (broadcast.Count (w % 2 ^ 32)))) (rows.decides (cond_row.Broadcast (broadcast.SetWaiters (w % 2 ^ 32))) operation.Broadcast OK)) (on (AtCondition b' (cast (cond_row.Broadcast (broadcast.SetWaiters (w % 2 ^ 32))))) h)
        refl its tt refl (put_back z.queues spot) refl refl refl still

    -- in memory
    count_so : (next : Row) (all : Bool) (es : List Event) (th : Thread) → Leads z t es counts z.queues th → AreEvents x t c (Row.Counts m k all n) (makes (Access.Store (counter_in z.layout t k) (counted x t c n)) es next)
    count_so next all es th l = (
      λ p. shows_at x behind k ((w + 1) % 18446744073709551616) may.inside like (λ q. ap (λ (s : State). s.words q) l.to) p
          ∙ ap (λ (u : ℕ). put (shown x) spot u p) (count_is w (x.slept k) may.few ∙ ap (counted x t c) (sym (counter_shows x k may.inside) ∙ may.found))
          ∙ sym (changes (memory x) t spot (Access.Store (counter_in z.layout t k) (counted x t c n)) tt its (counter_is_valid z.layout k may.inside) p),
      λ p. ap (λ (s : State). s.queues p) l.to ∙ sym (changes_queues (memory x) t (Access.Store (counter_in z.layout t k) (counted x t c n)) tt p),
    )
      where
        behind : Slots
        behind = record (after x es) { rows = put x.rows t next }

        like : IsLikeAt x behind k
        like = record {
          layout = ap (λ (s : State). s.layout) l.to;
          awake = λ j. refl;
          slept = λ j apart. refl;
          turns = λ j in_j. l.turns x.turns j in_j;
        }

    pub shows : shows_slept x t c n ≡ x.slept k
    shows = ap (λ (v : ℕ). v / 2 ^ 32 == 1) (sym may.found ∙ counter_shows x k may.inside) ∙ slept_is w (x.slept k) may.few

    counts_so : (z.threads t).stage ≡ Idle → (all b : Bool) → x.slept k ≡ b → AreEvents x t c (Row.Counts m k all n) (makes (Access.Store (counter_in z.layout t k) (counted x t c n)) (count_begins x t c k all b) (counted_row x t c m k all b (counted x t c n % 2 ^ 32)))
    counts_so is all false e = count_so Row.Rests all _ _ (wakes_none is (may.quiet e))
    counts_so is false true e = count_so (Row.CountWakes m k (counted x t c n % 2 ^ 32)) false _ _ (signals is)
    counts_so is true true e = count_so (Row.AllMarks m k (counted x t c n % 2 ^ 32)) true _ _ (broadcasts is)

  pub count_row : (r : Row) → StandsAs r (z.threads t).stage → IsCounting x t r → AreEvents x t c r (made x t c r)
  count_row (Row.WaitSets m k n timed) there says = slept_so k n says (Row.WaitSets m k n timed) (finds_row x t c m (OfWait k n true timed)) true (n + slept_bit) refl refl refl refl
  count_row (Row.Unsets m k n) there says = slept_so k n says (Row.Unsets m k n) Row.Rests false n refl refl refl (let e : n + 0 ≡ n = omega arith in e)
  count_row (Row.Counts m k all n) is may = subst (λ (b : Bool). AreEvents x t c (Row.Counts m k all n) (makes (Access.Store (counter_in z.layout t k) (counted x t c n)) (count_begins x t c k all b) (counted_row x t c m k all b (counted x t c n % 2 ^ 32)))) (sym (shows m k n may)) (counts_so m k n may is all (x.slept k) refl)
  count_row r there counting = absurd counting

pub counts_are : CountsAreEvents
counts_are x t c at counting = let both = count_row x t c at (x.rows t) at.there counting in record { words = both.0; queues = both.1 }
