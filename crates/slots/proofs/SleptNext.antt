-- SLEPT, waits that have released their mutexes, and counters on which nobody sleeps, after each happening.
use Rattle.std.proofs.Common.{◌≡◌, ◌≢◌, ◌⊎◌, inl, inr, ℕ, ◌+◌, ◌%◌, ◌<◌, ◌≤◌, ◌==◌, Bool, true, false, List, [], ◌∷◌, length, refl, sym, ap, ◌∙◌, subst, arith, eqb-true, eq-eqb}
use Rattle.std.specs.Prelude.{if◌then◌else◌, not, ◌&&◌, ◌-◌, ◌*◌, ◌/◌, slice_index}
use Rattle.lockword.specs.Cells.{bit, fields_of}
use Rattle.lockword.specs.declared.reply.Reply.TheVariants.{OK}
use Rattle.stepprograms.specs.declared.access.Access.{Access}
use Rattle.stepprograms.specs.Accesses.{is_nobody}
use Rattle.memorymap.specs.Layouts.{Layout', address_in, cell_place}
use Rattle.protocol.specs.declared.event.Event.{Event}
use Rattle.protocol.specs.declared.event.Event.TheVariants.{Kill, Spare, Step}
use Rattle.protocol.specs.declared.event.LeftTo.TheVariants as left_to
use Rattle.protocol.specs.declared.thread.Stage.{Stage}
use Rattle.protocol.specs.Machine.{State, has_thread, is_alive, is_asleep, is_dying, queues_after, run, words_after}
use Rattle.protocol.proofs.Counters.{run_counted}
use Rattle.protocol.proofs.Puts.{by_put, put-same}
use Rattle.protocol.proofs.Queued.{in_none}
use Rattle.slots.specs.Places.{cell_of, slot_of}
use Rattle.slots.specs.Rows.{Choice, Row}
use Rattle.slots.specs.Rows.Giving.{OfUnlock, OfWait}
use Rattle.slots.specs.Shown.{Slots, after, memory, shown}
use Rattle.slots.specs.Stands.{StandsAs}
use Rattle.slots.specs.Words.{shows_heir}
use Rattle.slots.specs.Seen.{heir_of}
use Rattle.slots.specs.Table.{Made, counted, counted_row, made, makes, released, shows_slept}
use Rattle.slots.specs.Runs.{Happening, at_row, is_resting, lapse_events, lapse_row, made_by, may_call, next, slept_after}
use Rattle.slots.specs.Runs.Happening.{Calls, Goes, Interrupts, Lapses, Dies, Walks, Lives}
use Rattle.slots.specs.Invariant.{fields_at}
use Rattle.slots.specs.Accesses.{IsAtRow}
use Rattle.slots.specs.Goes.{who}
use Rattle.slots.specs.Fits.{AreOfUs, Fits}
use Rattle.slots.specs.Premises.{HasFewCounts, Owning, SeesCount, Trusts, TrustsIn}
use Rattle.slots.proofs.AllRows.{layout_run}
use Rattle.slots.proofs.CountedRows.{counted_on_row}
use Rattle.slots.proofs.CountedRows as counts
use Rattle.slots.proofs.CountersKept.{count_at, needs_row, slept_else}
use Rattle.slots.proofs.Each.{each_access}
use Rattle.slots.proofs.Free.{reached_kept, reached_queued}
use Rattle.slots.proofs.Keeping.{all_four}
use Rattle.slots.proofs.Leading.{by_test}
use Rattle.slots.proofs.Others.{others_still}
use Rattle.slots.proofs.ReleasedRows.{released_row}
use Rattle.slots.proofs.ReleasedRows as release
use Rattle.slots.proofs.Sleeping.{counter_shows}
use Rattle.slots.specs.Stores.{Released}
use Rattle.slots.proofs.Slept.{CountsOn, IfThere, SeesSlept, queue_at}
use Rattle.slots.proofs.SleptKept.{slept_needs}
use Rattle.slots.proofs.SleptOn.{below, empty_next, rises_next, run_rises}
use Rattle.slots.proofs.SleptRows.{slept_row}
use Rattle.slots.proofs.Steady.{Steady, granted, may_go}

-- ---- SLEPT

-- SLEPT of a counter whose mutex the thread doesn't own stays
pub slept_but : (x : Slots) (h : Happening) → Steady x → 1 ≤ who h → who h ≤ x.machine.layout.threads → (k : ℕ) → (fields_at x.machine (slice_index x.machine.layout.conditions k)).owner ≢ who h → (next x h).slept k ≡ x.slept k
slept_but x (Calls t r) s pos known k apart = by_test (λ (y : Slots). y.slept k ≡ x.slept k) (has_thread x.machine t && is_alive (x.machine.threads t).stage && is_resting (x.rows t) && may_call x.machine.layout (x.machine.threads t).held r) (at_row x t r) x (λ e. refl) (λ e. refl)
slept_but x (Goes t c) s pos known k apart = by_test (λ (y : Slots). y.slept k ≡ x.slept k) (has_thread x.machine t && is_alive (x.machine.threads t).stage && not (is_asleep x.machine t)) (made_by x t c (made x t c (x.rows t))) x (λ e. slept_else x t (x.rows t) (x.machine.threads t).stage k (s.fits t pos known) (s.owning t pos known) apart) (λ e. refl)
slept_but x (Interrupts t) s pos known k apart = refl
slept_but x (Lapses t) s pos known k apart = by_test (λ (y : Slots). y.slept k ≡ x.slept k) (is_asleep x.machine t) (at_row (after x (lapse_events x t (x.rows t))) t (lapse_row (x.rows t))) x (λ e. refl) (λ e. refl)
slept_but x (Dies t) s pos known k apart = by_test (λ (y : Slots). y.slept k ≡ x.slept k) (has_thread x.machine t && is_alive (x.machine.threads t).stage) (at_row (after x (Kill t ∷ [])) t Row.Rests) x (λ e. refl) (λ e. refl)
slept_but x (Walks t) s pos known k apart = by_test (λ (y : Slots). y.slept k ≡ x.slept k) (is_dying x.machine t) (after x (Step t ∷ [])) x (λ e. refl) (λ e. refl)
slept_but x (Lives t) s pos known k apart = refl

-- only this row clears it
abbrev IsUnsetting : Row → ℕ → Type 0
IsUnsetting (Row.Unsets m i n) k = i ≡ k
IsUnsetting r k = ⊥

off_row : (r : Row) (slept : ℕ → Bool) (k : ℕ) → slept k ≡ true → slept_after r slept k ≡ false → IsUnsetting r k
off_row (Row.WaitSets m j n timed) slept k on off = by_put (λ (b : Bool). b ≡ false → IsUnsetting (Row.WaitSets m j n timed) k) slept j true k (λ e f. absurd cc) (λ apart f. absurd (cc (sym on ∙ f))) off
off_row (Row.Unsets m j n) slept k on off = by_put (λ (b : Bool). b ≡ false → j ≡ k) slept j false k (λ e f. sym e) (λ apart f. absurd (cc (sym on ∙ f))) off
off_row r slept k on off = absurd (cc (sym on ∙ off))

off_by : (x : Slots) (h : Happening) (k : ℕ) → x.slept k ≡ true → (next x h).slept k ≡ false → IsUnsetting (x.rows (who h)) k
off_by x (Calls t r) k on = by_test (λ (y : Slots). y.slept k ≡ false → IsUnsetting (x.rows t) k) (has_thread x.machine t && is_alive (x.machine.threads t).stage && is_resting (x.rows t) && may_call x.machine.layout (x.machine.threads t).held r) (at_row x t r) x (λ e off. absurd (cc (sym on ∙ off))) (λ e off. absurd (cc (sym on ∙ off)))
off_by x (Goes t c) k on = by_test (λ (y : Slots). y.slept k ≡ false → IsUnsetting (x.rows t) k) (has_thread x.machine t && is_alive (x.machine.threads t).stage && not (is_asleep x.machine t)) (made_by x t c (made x t c (x.rows t))) x (λ e off. off_row (x.rows t) x.slept k on off) (λ e off. absurd (cc (sym on ∙ off)))
off_by x (Interrupts t) k on = λ off. absurd (cc (sym on ∙ off))
off_by x (Lapses t) k on = by_test (λ (y : Slots). y.slept k ≡ false → IsUnsetting (x.rows t) k) (is_asleep x.machine t) (at_row (after x (lapse_events x t (x.rows t))) t (lapse_row (x.rows t))) x (λ e off. absurd (cc (sym on ∙ off))) (λ e off. absurd (cc (sym on ∙ off)))
off_by x (Dies t) k on = by_test (λ (y : Slots). y.slept k ≡ false → IsUnsetting (x.rows t) k) (has_thread x.machine t && is_alive (x.machine.threads t).stage) (at_row (after x (Kill t ∷ [])) t Row.Rests) x (λ e off. absurd (cc (sym on ∙ off))) (λ e off. absurd (cc (sym on ∙ off)))
off_by x (Walks t) k on = by_test (λ (y : Slots). y.slept k ≡ false → IsUnsetting (x.rows t) k) (is_dying x.machine t) (after x (Step t ∷ [])) x (λ e off. absurd (cc (sym on ∙ off))) (λ e off. absurd (cc (sym on ∙ off)))
off_by x (Lives t) k on = λ off. absurd (cc (sym on ∙ off))

unsetting_counts : (r : Row) (k : ℕ) → IsUnsetting r k → CountsOn r k
unsetting_counts (Row.Unsets m i n) k is = is
unsetting_counts r k is = absurd is

-- a call that has counted has no release of a wait
not_both : (r : Row) (k j n : ℕ) → CountsOn r k → Released r j n → ⊥
not_both (Row.CountWakes m i n) k j c counts rel = rel
not_both (Row.AllMarks m i n) k j c counts rel = rel
not_both (Row.AllMoves m i n) k j c counts rel = rel
not_both (Row.Unsets m i n) k j c counts rel = rel
not_both r k j c counts rel = counts

-- ---- what a call knows of SLEPT

same_there : (x : Slots) (i c k n : ℕ) → i ≡ k → c ≡ n → IfThere x i c → IfThere x k n
same_there x i c k n e f s = subst (λ (j : ℕ). IfThere x j n) e (subst (IfThere x i) f s)

pub if_there : (x : Slots) (r : Row) (k n : ℕ) → SeesSlept x r → Released r k n → IfThere x k n
if_there x (Row.HandsOn m (OfWait i c b timed) is) k n s rel = same_there x i c k n rel.0 rel.1 s
if_there x (Row.LooksBack m (OfWait i c b timed) is) k n s rel = same_there x i c k n rel.0 rel.1 s
if_there x (Row.WakesOne m (OfWait i c b timed) is) k n s rel = same_there x i c k n rel.0 rel.1 s
if_there x (Row.WaitSleeps m i c timed) k n s rel = same_there x i c k n rel.0 rel.1 s
if_there x r k n s rel = absurd rel

-- in another state of the layer, if counters only rise, and SLEPT stays or is set
module _ (x y : Slots) (u : ℕ) (rises : (k : ℕ) → count_at x k ≤ count_at y k) where
  there_then : (k n : ℕ) → n ≤ count_at x k → (count_at x k ≡ n → x.slept k ≡ true → y.slept k ≡ true) → IfThere x k n → IfThere y k n
  there_then k n low stays s e = let same : count_at x k ≡ n = (let up = rises k in omega (arith, up, low, e)) in stays same (s same)

  like_slept : (r : Row) (g : Stage) → Fits x.machine.layout u r g → Owning x.machine u r → ((m k : ℕ) → AreOfUs x.machine.layout m k → (fields_at x.machine (cell_of m)).owner ≡ u → y.slept k ≡ x.slept k) → ((k n : ℕ) → Released r k n → n ≤ count_at x k) → ((k n : ℕ) → Released r k n → count_at x k ≡ n → x.slept k ≡ true → y.slept k ≡ true) → ((k : ℕ) → k < length x.machine.layout.conditions → CountsOn r k → queue_at x k ≡ [] → queue_at y k ≡ []) → SeesSlept x r → SeesSlept y r
  like_slept (Row.GivePends m (OfWait k n true timed)) g o own same low stays empties s = same m k o own.owner ∙ s
  like_slept (Row.GiveUnlinks m (OfWait k n true timed)) g o own same low stays empties s = same m k o own.owner ∙ s
  like_slept (Row.GiveFinds m (OfWait k n b timed)) g o own same low stays empties s = same m k o own.owner ∙ s
  like_slept (Row.Gives m (OfWait k n b timed)) g o own same low stays empties s = same m k o own.owner ∙ s
  like_slept (Row.HandsOn m (OfWait k n b timed) is) g o own same low stays empties s = there_then k n (low k n (refl, refl)) (stays k n (refl, refl)) s
  like_slept (Row.LooksBack m (OfWait k n b timed) is) g o own same low stays empties s = there_then k n (low k n (refl, refl)) (stays k n (refl, refl)) s
  like_slept (Row.WakesOne m (OfWait k n b timed) is) g o own same low stays empties s = there_then k n (low k n (refl, refl)) (stays k n (refl, refl)) s
  like_slept (Row.WaitSleeps m k n timed) g o own same low stays empties s = there_then k n (low k n (refl, refl)) (stays k n (refl, refl)) s
  like_slept (Row.Unsets m k n) g o own same low stays empties s = empties k o.cell.inside refl s
  like_slept r g o own same low stays empties s = tt

first_slept : (y : Slots) (l : Layout') (held : ℕ) (r : Row) → may_call l held r ≡ true → SeesSlept y r
first_slept y l held (Row.Looks k) e = tt
first_slept y l held (Row.TryLooks m) e = tt
first_slept y l held (Row.GiveLooks m) e = tt
first_slept y l held (Row.MendLooks m) e = tt
first_slept y l held (Row.AnewLooks m) e = tt
first_slept y l held (Row.WaitLooks m k timed) e = tt
first_slept y l held (Row.CountLooks m k all) e = tt
first_slept y l held r e = absurd cc

-- ---- one happening

module _ (x : Slots) (t : ℕ) (pos : 1 ≤ t) (known : t ≤ x.machine.layout.threads) (s : Steady x) where
  abbrev z : State
  z = x.machine

  abbrev g : Stage
  g = (x.machine.threads t).stage

  abbrev Sees : Slots → Type 0
  Sees y = SeesSlept y (y.rows t)

  now : SeesSlept x (x.rows t)
  now = s.slept t pos known

  call_slept : (r : Row) → Sees (next x (Calls t r))
  call_slept r = by_test Sees (has_thread z t && is_alive g && is_resting (x.rows t) && may_call z.layout (z.threads t).held r) (at_row x t r) x
      (λ e. let four = all_four (has_thread z t) (is_alive g) (is_resting (x.rows t)) (may_call z.layout (z.threads t).held r) e in
      subst (SeesSlept (at_row x t r)) (sym (put-same x.rows t r)) (first_slept (at_row x t r) z.layout (z.threads t).held r four.fourth))
      (λ e. now)

  -- its own access
  module _ (c : Choice) (w : Trusts x t (x.rows t)) where
    abbrev y : Slots
    y = made_by x t c (made x t c (x.rows t))

    layout_y : y.machine.layout ≡ z.layout
    layout_y = layout_run z (made x t c (x.rows t)).events (reached_kept z s.reached)

    rises_y : (k : ℕ) → count_at x k ≤ count_at y k
    rises_y k = run_rises z (made x t c (x.rows t)).events k (reached_kept z s.reached) s.counts

    at_it : is_alive g ≡ true → is_asleep z t ≡ false → IsAtRow x t
    at_it lives awake = record { reached = s.reached; first = pos; last = known; there = s.there t pos known lives; about = (granted x t pos known s c w).0; out = in_none z t (reached_queued z s.reached) awake }

    words_y : is_alive g ≡ true → is_asleep z t ≡ false → (p : ℕ) → shown y p ≡ words_after (memory x) t (made x t c (x.rows t)).access p
    words_y lives awake = (each_access x t c (at_it lives awake) (granted x t pos known s c w).1).words

    queues_y : is_alive g ≡ true → is_asleep z t ≡ false → (p : ℕ) → y.machine.queues p ≡ queues_after (memory x) t (made x t c (x.rows t)).access p
    queues_y lives awake = (each_access x t c (at_it lives awake) (granted x t pos known s c w).1).queues

    go_slept : Sees (next x (Goes t c))
    go_slept = by_test Sees (has_thread z t && is_alive g && not (is_asleep z t)) y x
        (λ e. let may = may_go (has_thread z t) (is_alive g) (is_asleep z t) e in
        subst (SeesSlept y) (sym (put-same x.rows t (made x t c (x.rows t)).next))
        (slept_row x y t c (x.rows t) (slept_needs x y t c (reached_kept z s.reached) (reached_queued z s.reached) pos known layout_y s.counts rises_y (x.rows t) (s.fits t pos known) (s.there t pos known may.0) now (s.sees t pos known) (below x t pos known s) (λ k. refl) (queues_y may.0 may.1))))
        (λ e. now)

    -- a count rises
    risen : (n a b : ℕ) (d : Bool) → n ≡ a + bit d 4294967296 → a < 4294967295 → b ≡ (n / 4294967296 * 4294967296 + (n + 1) % 4294967296) % 4294967296 → a < b
    risen n a b true is few e = omega (arith, is, few, e)
    risen n a b false is few e = omega (arith, is, few, e)

    counted_up : (r : Row) (k : ℕ) → Fits z.layout t r g → StandsAs r g → SeesCount x r → HasFewCounts x r → ((i : ℕ) → y.slept i ≡ slept_after r x.slept i) → ((p : ℕ) → shown y p ≡ words_after (memory x) t (made x t c r).access p) → ((made x t c r).events ≡ [] → y.machine ≡ x.machine) → counts.Needs x t c k (CountsOn r k ⊎ (count_at x k < count_at y k)) r
    counted_up (Row.Counts m i all n) k o there sees few slept is none = of_row all (shows_slept x t c n) (needs_row x y t c (reached_kept z s.reached) pos known layout_y s.counts (run_counted z (made x t c (x.rows t)).events (reached_kept z s.reached) s.counts) (Row.Counts m i all n) g o there sees slept is none)
      where
        up : i ≡ k → count_at y i ≡ counted x t c n % 4294967296 → count_at x k < count_at y k
        up e is = subst (λ (j : ℕ). count_at x j < count_at y j) e (risen n (count_at x i) (count_at y i) (x.slept i) (sym sees ∙ counter_shows x i o.cell.inside) few is)

        of_row : (b d : Bool) → SeesCount y (counted_row x t c m i b d (counted x t c n % 4294967296)) → CountsOn (counted_row x t c m i b d (counted x t c n % 4294967296)) k → CountsOn (Row.Counts m i all n) k ⊎ (count_at x k < count_at y k)
        of_row b false see on = absurd on
        of_row false true see on = inr (up on see)
        of_row true true see on = inr (up on see)
    counted_up (Row.CountWakes m i n) k o there sees few slept is none = λ on. inl (by_test (λ (r : Row). CountsOn r k → i ≡ k) _ (Row.Unsets m i n) Row.Rests (λ e h. h) (λ e h. absurd h) on)
    counted_up (Row.AllMarks m i n) k o there sees few slept is none = λ on. inl on
    counted_up (Row.AllMoves m i n) k o there sees few slept is none = λ on. inl on
    counted_up r k o there sees few slept is none = tt

    -- the mutex of condition variable k was the thread's
    abbrev WasIts : ℕ → Type 0
    WasIts k = (fields_at z (slice_index z.layout.conditions k)).owner ≡ t

    its : (m i k : ℕ) → AreOfUs z.layout m i → (fields_at z (cell_of m)).owner ≡ t → i ≡ k → WasIts k
    its m i k o own e = subst WasIts e (ap (λ (j : ℕ). (fields_at z j).owner) o.cell.cell ∙ own)

    abbrev GivenUp : ℕ → ℕ → Row → Row → Type 0
    GivenUp k n r r' = Released r' k n → Released r k n ⊎ WasIts k

    by_both : (k n : ℕ) (r : Row) (b : Bool) (p q : Row) → GivenUp k n r p → GivenUp k n r q → GivenUp k n r (if b then p else q)
    by_both k n r true p q first second = first
    by_both k n r false p q first second = second

    made_both : (k n : ℕ) (r : Row) (b : Bool) (p q : Made) → GivenUp k n r p.next → GivenUp k n r q.next → GivenUp k n r (if b then p else q).next
    made_both k n r true p q first second = first
    made_both k n r false p q first second = second

    unlock_gives : (k n m : ℕ) (r : Row) (d : Bool) (v : ℕ) → GivenUp k n r (released x t c m (OfUnlock d) v)
    unlock_gives k n m r true v = by_both k n r (fields_of v).waiters (Row.WakesAll m OK) (Row.Clears m OK) (λ e. absurd e) (λ e. absurd e)
    unlock_gives k n m r false v = by_both k n r (fields_of v).waiters (if c.yes then Row.WakesOne m (OfUnlock false) (v - t) else Row.HandsOn m (OfUnlock false) (v - t)) (Row.Clears m OK) (by_both k n r c.yes (Row.WakesOne m (OfUnlock false) (v - t)) (Row.HandsOn m (OfUnlock false) (v - t)) (λ e. absurd e) (λ e. absurd e)) (λ e. absurd e)

    wait_gives : (k n m i a : ℕ) (b timed : Bool) (v : ℕ) → AreOfUs z.layout m i → (fields_at z (cell_of m)).owner ≡ t → GivenUp k n (Row.Gives m (OfWait i a b timed)) (released x t c m (OfWait i a b timed) v)
    wait_gives k n m i a b timed v o own = by_both k n (Row.Gives m (OfWait i a b timed)) (fields_of v).waiters (if c.yes then Row.WakesOne m (OfWait i a b timed) (v - t) else Row.HandsOn m (OfWait i a b timed) (v - t)) (Row.WaitSleeps m i a timed)
        (by_both k n (Row.Gives m (OfWait i a b timed)) c.yes (Row.WakesOne m (OfWait i a b timed) (v - t)) (Row.HandsOn m (OfWait i a b timed) (v - t)) (λ rel. inr (its m i k o own rel.0)) (λ rel. inr (its m i k o own rel.0))) (λ rel. inr (its m i k o own rel.0))

    given_up : (r : Row) (k n : ℕ) → Fits z.layout t r g → Owning z t r → release.Needs x t c k n (Released r k n ⊎ WasIts k) r
    given_up (Row.Gives m (OfUnlock d)) k n o own = unlock_gives k n m (Row.Gives m (OfUnlock d)) d (shown x (cell_place z.layout (cell_of m)))
    given_up (Row.Gives m (OfWait i a b timed)) k n o own = wait_gives k n m i a b timed (shown x (cell_place z.layout (cell_of m))) o own.owner
    given_up (Row.HandsOn m (OfUnlock d) is) k n o own = made_both k n (Row.HandsOn m (OfUnlock d) is) (shows_heir (shown x (cell_place z.layout (slot_of m))) && c.yes) (makes (Access.Load (address_in z.layout t (cell_place z.layout (slot_of m)))) (Spare t (heir_of z t (cell_of m)) ∷ []) (Row.Clears m OK)) (makes (Access.Load (address_in z.layout t (cell_place z.layout (slot_of m)))) [] (Row.LooksBack m (OfUnlock d) is)) (λ e. absurd e) (λ e. absurd e)
    given_up (Row.HandsOn m (OfWait i a b timed) is) k n o own = made_both k n (Row.HandsOn m (OfWait i a b timed) is) (shows_heir (shown x (cell_place z.layout (slot_of m))) && c.yes) (makes (Access.Load (address_in z.layout t (cell_place z.layout (slot_of m)))) (Spare t (heir_of z t (cell_of m)) ∷ []) (Row.WaitSleeps m i a timed)) (makes (Access.Load (address_in z.layout t (cell_place z.layout (slot_of m)))) [] (Row.LooksBack m (OfWait i a b timed) is)) (λ rel. inl rel) (λ rel. inl rel)
    given_up (Row.LooksBack m (OfUnlock d) is) k n o own = made_both k n (Row.LooksBack m (OfUnlock d) is) ((fields_of (shown x (cell_place z.layout (cell_of m)))).owner == 0) (makes (Access.Load (address_in z.layout t (cell_place z.layout (cell_of m)))) [] (Row.WakesOne m (OfUnlock d) is)) (makes (Access.Load (address_in z.layout t (cell_place z.layout (cell_of m)))) (Spare t left_to.Owner ∷ []) (Row.Clears m OK)) (λ e. absurd e) (λ e. absurd e)
    given_up (Row.LooksBack m (OfWait i a b timed) is) k n o own = made_both k n (Row.LooksBack m (OfWait i a b timed) is) ((fields_of (shown x (cell_place z.layout (cell_of m)))).owner == 0) (makes (Access.Load (address_in z.layout t (cell_place z.layout (cell_of m)))) [] (Row.WakesOne m (OfWait i a b timed) is)) (makes (Access.Load (address_in z.layout t (cell_place z.layout (cell_of m)))) (Spare t left_to.Owner ∷ []) (Row.WaitSleeps m i a timed)) (λ rel. inl rel) (λ rel. inl rel)
    given_up (Row.WakesOne m (OfUnlock d) is) k n o own = by_both k n (Row.WakesOne m (OfUnlock d) is) (is_nobody (z.queues (cell_place z.layout (cell_of m)))) (Row.Trims m is) (Row.Clears m OK) (λ e. absurd e) (λ e. absurd e)
    given_up (Row.WakesOne m (OfWait i a b timed) is) k n o own = λ rel. inl rel
    given_up r k n o own = tt

    go_counts : (k : ℕ) → CountsOn ((next x (Goes t c)).rows t) k → CountsOn (x.rows t) k ⊎ (count_at x k < count_at (next x (Goes t c)) k)
    go_counts k = by_test (λ (y : Slots). CountsOn (y.rows t) k → CountsOn (x.rows t) k ⊎ (count_at x k < count_at y k)) (has_thread z t && is_alive g && not (is_asleep z t)) y x
        (λ e on. let may = may_go (has_thread z t) (is_alive g) (is_asleep z t) e in
        counted_on_row x t c k (CountsOn (x.rows t) k ⊎ (count_at x k < count_at y k)) (x.rows t)
        (counted_up (x.rows t) k (s.fits t pos known) (s.there t pos known may.0) (s.sees t pos known) w.counts (λ i. refl) (words_y may.0 may.1) (λ none. ap (λ (es : List Event). run z es) none))
        (subst (λ (r : Row). CountsOn r k) (put-same x.rows t (made x t c (x.rows t)).next) on))
        (λ e on. inl on)

    go_gives : (k n : ℕ) → Released ((next x (Goes t c)).rows t) k n → Released (x.rows t) k n ⊎ WasIts k
    go_gives k n = by_test (λ (y : Slots). Released (y.rows t) k n → Released (x.rows t) k n ⊎ WasIts k) (has_thread z t && is_alive g && not (is_asleep z t)) y x
        (λ e rel. released_row x t c k n (Released (x.rows t) k n ⊎ WasIts k) (x.rows t) (given_up (x.rows t) k n (s.fits t pos known) (s.owning t pos known))
        (subst (λ (r : Row). Released r k n) (put-same x.rows t (made x t c (x.rows t)).next) rel))
        (λ e rel. inl rel)

  lapse_slept : Sees (next x (Lapses t))
  lapse_slept = by_test Sees (is_asleep z t) (at_row (after x (lapse_events x t (x.rows t))) t (lapse_row (x.rows t))) x
      (λ e. subst (SeesSlept (at_row (after x (lapse_events x t (x.rows t))) t (lapse_row (x.rows t)))) (sym (put-same x.rows t (lapse_row (x.rows t)))) (of_row (x.rows t) now)) (λ e. now)
    where
      of_row : (r : Row) → SeesSlept x r → SeesSlept (at_row (after x (lapse_events x t r)) t (lapse_row r)) (lapse_row r)
      of_row (Row.Asleep k) h = by_test (SeesSlept (at_row (after x (lapse_events x t (Row.Asleep k))) t (lapse_row (Row.Asleep k)))) k.timed (Row.Late k) (Row.Asleep k) (λ e. tt) (λ e. tt)
      of_row (Row.WaitAsleep m k n true) h = tt
      of_row (Row.WaitAsleep m k n false) h = tt
      of_row r h = h

  die_slept : Sees (next x (Dies t))
  die_slept = by_test Sees (has_thread z t && is_alive g) (at_row (after x (Kill t ∷ [])) t Row.Rests) x
      (λ e. subst (SeesSlept (at_row (after x (Kill t ∷ [])) t Row.Rests)) (sym (put-same x.rows t Row.Rests)) tt) (λ e. now)

first_counts : (l : Layout') (held : ℕ) (r : Row) (k : ℕ) → may_call l held r ≡ true → CountsOn r k → ⊥
first_counts l held (Row.Looks i) k e on = on
first_counts l held (Row.TryLooks m) k e on = on
first_counts l held (Row.GiveLooks m) k e on = on
first_counts l held (Row.MendLooks m) k e on = on
first_counts l held (Row.AnewLooks m) k e on = on
first_counts l held (Row.WaitLooks m i timed) k e on = on
first_counts l held (Row.CountLooks m i all) k e on = on
first_counts l held r k e on = absurd cc

first_gives : (l : Layout') (held : ℕ) (r : Row) (k n : ℕ) → may_call l held r ≡ true → Released r k n → ⊥
first_gives l held (Row.Looks i) k n e rel = rel
first_gives l held (Row.TryLooks m) k n e rel = rel
first_gives l held (Row.GiveLooks m) k n e rel = rel
first_gives l held (Row.MendLooks m) k n e rel = rel
first_gives l held (Row.AnewLooks m) k n e rel = rel
first_gives l held (Row.WaitLooks m i timed) k n e rel = rel
first_gives l held (Row.CountLooks m i all) k n e rel = rel
first_gives l held r k n e rel = absurd cc

lapse_counts : (r : Row) (k : ℕ) → CountsOn (lapse_row r) k → CountsOn r k
lapse_counts (Row.Asleep i) k = by_test (λ (r : Row). CountsOn r k → ⊥) i.timed (Row.Late i) (Row.Asleep i) (λ e on. on) (λ e on. on)
lapse_counts (Row.WaitAsleep m i n true) k = λ on. on
lapse_counts (Row.WaitAsleep m i n false) k = λ on. on
lapse_counts r k = λ on. on

lapse_gives : (r : Row) (k n : ℕ) → Released (lapse_row r) k n → Released r k n
lapse_gives (Row.Asleep i) k n = by_test (λ (r : Row). Released r k n → ⊥) i.timed (Row.Late i) (Row.Asleep i) (λ e rel. rel) (λ e rel. rel)
lapse_gives (Row.WaitAsleep m i w true) k n = λ rel. rel
lapse_gives (Row.WaitAsleep m i w false) k n = λ rel. rel
lapse_gives r k n = λ rel. rel

-- a call that has counted had counted before, or counts now
counts_from : (x : Slots) (h : Happening) → Steady x → 1 ≤ who h → who h ≤ x.machine.layout.threads → TrustsIn x h → (k : ℕ) → CountsOn ((next x h).rows (who h)) k → CountsOn (x.rows (who h)) k ⊎ (count_at x k < count_at (next x h) k)
counts_from x (Calls t r) s pos known w k on = inl (by_test (λ (y : Slots). CountsOn (y.rows t) k → CountsOn (x.rows t) k) (has_thread x.machine t && is_alive (x.machine.threads t).stage && is_resting (x.rows t) && may_call x.machine.layout (x.machine.threads t).held r) (at_row x t r) x
    (λ e h. let four = all_four (has_thread x.machine t) (is_alive (x.machine.threads t).stage) (is_resting (x.rows t)) (may_call x.machine.layout (x.machine.threads t).held r) e in absurd (first_counts x.machine.layout (x.machine.threads t).held r k four.fourth (subst (λ (q : Row). CountsOn q k) (put-same x.rows t r) h))) (λ e h. h) on)
counts_from x (Goes t c) s pos known w k on = go_counts x t pos known s c w k on
counts_from x (Interrupts t) s pos known w k on = inl on
counts_from x (Lapses t) s pos known w k on = inl (by_test (λ (y : Slots). CountsOn (y.rows t) k → CountsOn (x.rows t) k) (is_asleep x.machine t) (at_row (after x (lapse_events x t (x.rows t))) t (lapse_row (x.rows t))) x
    (λ e h. lapse_counts (x.rows t) k (subst (λ (q : Row). CountsOn q k) (put-same x.rows t (lapse_row (x.rows t))) h)) (λ e h. h) on)
counts_from x (Dies t) s pos known w k on = inl (by_test (λ (y : Slots). CountsOn (y.rows t) k → CountsOn (x.rows t) k) (has_thread x.machine t && is_alive (x.machine.threads t).stage) (at_row (after x (Kill t ∷ [])) t Row.Rests) x
    (λ e h. absurd (subst (λ (q : Row). CountsOn q k) (put-same x.rows t Row.Rests) h)) (λ e h. h) on)
counts_from x (Walks t) s pos known w k on = inl (by_test (λ (y : Slots). CountsOn (y.rows t) k → CountsOn (x.rows t) k) (is_dying x.machine t) (after x (Step t ∷ [])) x (λ e h. h) (λ e h. h) on)
counts_from x (Lives t) s pos known w k on = inl on

-- a wait that has released its mutex had done so before, or owned it
gives_from : (x : Slots) (h : Happening) → Steady x → 1 ≤ who h → who h ≤ x.machine.layout.threads → TrustsIn x h → (k n : ℕ) → Released ((next x h).rows (who h)) k n → Released (x.rows (who h)) k n ⊎ ((fields_at x.machine (slice_index x.machine.layout.conditions k)).owner ≡ who h)
gives_from x (Calls t r) s pos known w k n rel = inl (by_test (λ (y : Slots). Released (y.rows t) k n → Released (x.rows t) k n) (has_thread x.machine t && is_alive (x.machine.threads t).stage && is_resting (x.rows t) && may_call x.machine.layout (x.machine.threads t).held r) (at_row x t r) x
    (λ e h. let four = all_four (has_thread x.machine t) (is_alive (x.machine.threads t).stage) (is_resting (x.rows t)) (may_call x.machine.layout (x.machine.threads t).held r) e in absurd (first_gives x.machine.layout (x.machine.threads t).held r k n four.fourth (subst (λ (q : Row). Released q k n) (put-same x.rows t r) h))) (λ e h. h) rel)
gives_from x (Goes t c) s pos known w k n rel = go_gives x t pos known s c w k n rel
gives_from x (Interrupts t) s pos known w k n rel = inl rel
gives_from x (Lapses t) s pos known w k n rel = inl (by_test (λ (y : Slots). Released (y.rows t) k n → Released (x.rows t) k n) (is_asleep x.machine t) (at_row (after x (lapse_events x t (x.rows t))) t (lapse_row (x.rows t))) x
    (λ e h. lapse_gives (x.rows t) k n (subst (λ (q : Row). Released q k n) (put-same x.rows t (lapse_row (x.rows t))) h)) (λ e h. h) rel)
gives_from x (Dies t) s pos known w k n rel = inl (by_test (λ (y : Slots). Released (y.rows t) k n → Released (x.rows t) k n) (has_thread x.machine t && is_alive (x.machine.threads t).stage) (at_row (after x (Kill t ∷ [])) t Row.Rests) x
    (λ e h. absurd (subst (λ (q : Row). Released q k n) (put-same x.rows t Row.Rests) h)) (λ e h. h) rel)
gives_from x (Walks t) s pos known w k n rel = inl (by_test (λ (y : Slots). Released (y.rows t) k n → Released (x.rows t) k n) (is_dying x.machine t) (after x (Step t ∷ [])) x (λ e h. h) (λ e h. h) rel)
gives_from x (Lives t) s pos known w k n rel = inl rel

-- ---- all threads

owns_counted : (s : State) (t : ℕ) (r : Row) (g : Stage) (k : ℕ) → Fits s.layout t r g → Owning s t r → CountsOn r k → (fields_at s (slice_index s.layout.conditions k)).owner ≡ t
owns_counted s t r g k = of_row r
  where
    so : (m i : ℕ) → AreOfUs s.layout m i → (fields_at s (cell_of m)).owner ≡ t → i ≡ k → (fields_at s (slice_index s.layout.conditions k)).owner ≡ t
    so m i o own e = subst (λ (j : ℕ). (fields_at s (slice_index s.layout.conditions j)).owner ≡ t) e (ap (λ (j : ℕ). (fields_at s j).owner) o.cell.cell ∙ own)

    of_row : (r : Row) → Fits s.layout t r g → Owning s t r → CountsOn r k → (fields_at s (slice_index s.layout.conditions k)).owner ≡ t
    of_row (Row.CountWakes m i n) o own e = so m i o own e
    of_row (Row.AllMarks m i n) o own e = so m i o own e
    of_row (Row.AllMoves m i n) o own e = so m i o own e
    of_row (Row.Unsets m i n) o own e = so m i o own e
    of_row r o own e = absurd e

module _ (x : Slots) (h : Happening) (s : Steady x) (pos : 1 ≤ who h) (known : who h ≤ x.machine.layout.threads) (w : TrustsIn x h) where
  abbrev t : ℕ
  t = who h

  -- while a call that has counted hasn't returned, nobody comes to sleep there
  quiet_beside : (u : ℕ) → 1 ≤ u → u ≤ x.machine.layout.threads → (k : ℕ) → k < length x.machine.layout.conditions → CountsOn (x.rows u) k → queue_at x k ≡ [] → queue_at (next x h) k ≡ []
  quiet_beside u first last k inside on none = empty_next x h s pos known w k inside none (λ n rel same. let more = s.later u t k n first last pos known on rel in absurd (omega (arith, more, same)))

  off_beside : (u : ℕ) → 1 ≤ u → u ≤ x.machine.layout.threads → (k n : ℕ) → Released (x.rows u) k n → count_at x k ≡ n → x.slept k ≡ true → (next x h).slept k ≡ true
  off_beside u first last k n rel same on = go ((next x h).slept k) refl
    where
      go : (b : Bool) → (next x h).slept k ≡ b → (next x h).slept k ≡ true
      go true e = e
      go false e = let more = s.later t u k n pos known first last (unsetting_counts (x.rows t) k (off_by x h k on e)) rel in absurd (omega (arith, more, same))

  apart_slept : (u : ℕ) → 1 ≤ u → u ≤ x.machine.layout.threads → who h ≢ u → SeesSlept (next x h) (x.rows u)
  apart_slept u first last apart = like_slept x (next x h) u (rises_next x h s) (x.rows u) (x.machine.threads u).stage (s.fits u first last) (s.owning u first last)
      (λ m k o own. slept_but x h s pos known k (λ is. apart (sym is ∙ ap (λ (i : ℕ). (fields_at x.machine i).owner) o.cell.cell ∙ own)))
      (below x u first last s) (off_beside u first last) (quiet_beside u first last) (s.slept u first last)

  -- without an access of its own
  still_slept : ((k : ℕ) → (next x h).slept k ≡ x.slept k) → SeesSlept (next x h) (x.rows t)
  still_slept same = like_slept x (next x h) t (rises_next x h s) (x.rows t) (x.machine.threads t).stage (s.fits t pos known) (s.owning t pos known)
      (λ m k o own. same k) (below x t pos known s) (λ k n rel at on. same k ∙ on) (quiet_beside t pos known) (s.slept t pos known)

  pub empty_all : (k : ℕ) → k < length x.machine.layout.conditions → (next x h).slept k ≡ false → queue_at (next x h) k ≡ []
  empty_all k inside off = go (x.slept k) refl
    where
      unset_empty : (r : Row) → IsUnsetting r k → SeesSlept x r → queue_at x k ≡ []
      unset_empty (Row.Unsets m i n) e sees = subst (λ (j : ℕ). queue_at x j ≡ []) e sees
      unset_empty r e sees = absurd e

      go : (b : Bool) → x.slept k ≡ b → queue_at (next x h) k ≡ []
      go false e = empty_next x h s pos known w k inside (s.empty k inside e) (λ n rel same. cc (sym e ∙ if_there x (x.rows t) k n (s.slept t pos known) rel (sym same)))
      go true e = let unsets = off_by x h k e off in
          quiet_beside t pos known k inside (unsetting_counts (x.rows t) k unsets) (unset_empty (x.rows t) unsets (s.slept t pos known))

  pub later_all : (v u k n : ℕ) → 1 ≤ v → v ≤ x.machine.layout.threads → 1 ≤ u → u ≤ x.machine.layout.threads → CountsOn ((next x h).rows v) k → Released ((next x h).rows u) k n → n < count_at (next x h) k
  later_all v u k n v_first v_last u_first u_last on rel = go (who h == v) (who h == u) refl refl
    where
      up : count_at x k ≤ count_at (next x h) k
      up = rises_next x h s k

      v_still : (who h == v) ≡ false → CountsOn (x.rows v) k
      v_still e = subst (λ (r : Row). CountsOn r k) (others_still x h v s.reached (λ same. cc (sym e ∙ eq-eqb (who h) v same))).row on

      u_still : (who h == u) ≡ false → Released (x.rows u) k n
      u_still e = subst (λ (r : Row). Released r k n) (others_still x h u s.reached (λ same. cc (sym e ∙ eq-eqb (who h) u same))).row rel

      was : CountsOn (x.rows v) k → Released (x.rows u) k n → n < count_at (next x h) k
      was before rel_before = let less = s.later v u k n v_first v_last u_first u_last before rel_before in omega (arith, less, up)

      counting : Released (x.rows u) k n → CountsOn (x.rows v) k ⊎ (count_at x k < count_at (next x h) k) → n < count_at (next x h) k
      counting rel_before (inl before) = was before rel_before
      counting rel_before (inr more) = let low = below x u u_first u_last s k n rel_before in omega (arith, low, more)

      giving : (who h == v) ≡ false → CountsOn (x.rows v) k → Released (x.rows u) k n ⊎ ((fields_at x.machine (slice_index x.machine.layout.conditions k)).owner ≡ who h) → n < count_at (next x h) k
      giving e before (inl rel_before) = was before rel_before
      giving e before (inr mine) = absurd (cc (sym e ∙ eq-eqb (who h) v (sym mine ∙ owns_counted x.machine v (x.rows v) (x.machine.threads v).stage k (s.fits v v_first v_last) (s.owning v v_first v_last) before)))

      go : (a b : Bool) → (who h == v) ≡ a → (who h == u) ≡ b → n < count_at (next x h) k
      go true true e f = absurd (not_both ((next x h).rows t) k k n (subst (λ (i : ℕ). CountsOn ((next x h).rows i) k) (sym (eqb-true (who h) v e)) on) (subst (λ (i : ℕ). Released ((next x h).rows i) k n) (sym (eqb-true (who h) u f)) rel))
      go true false e f = counting (u_still f) (subst (λ (i : ℕ). CountsOn (x.rows i) k ⊎ (count_at x k < count_at (next x h) k)) (eqb-true (who h) v e) (counts_from x h s pos known w k (subst (λ (i : ℕ). CountsOn ((next x h).rows i) k) (sym (eqb-true (who h) v e)) on)))
      go false true e f = giving e (v_still e) (subst (λ (i : ℕ). Released (x.rows i) k n ⊎ ((fields_at x.machine (slice_index x.machine.layout.conditions k)).owner ≡ who h)) (eqb-true (who h) u f) (gives_from x h s pos known w k n (subst (λ (i : ℕ). Released ((next x h).rows i) k n) (sym (eqb-true (who h) u f)) rel)))
      go false false e f = was (v_still e) (u_still f)

own_slept : (x : Slots) (h : Happening) → Steady x → 1 ≤ who h → who h ≤ x.machine.layout.threads → TrustsIn x h → SeesSlept (next x h) ((next x h).rows (who h))
own_slept x (Calls t r) s pos known w = call_slept x t pos known s r
own_slept x (Goes t c) s pos known w = go_slept x t pos known s c w
own_slept x (Interrupts t) s pos known w = still_slept x (Interrupts t) s pos known w (λ k. refl)
own_slept x (Lapses t) s pos known w = lapse_slept x t pos known s
own_slept x (Dies t) s pos known w = die_slept x t pos known s
own_slept x (Walks t) s pos known w = subst (SeesSlept (next x (Walks t))) (sym (by_test (λ (y : Slots). y.rows t ≡ x.rows t) (is_dying x.machine t) (after x (Step t ∷ [])) x (λ e. refl) (λ e. refl)))
    (still_slept x (Walks t) s pos known w (λ k. by_test (λ (y : Slots). y.slept k ≡ x.slept k) (is_dying x.machine t) (after x (Step t ∷ [])) x (λ e. refl) (λ e. refl)))
own_slept x (Lives t) s pos known w = still_slept x (Lives t) s pos known w (λ k. refl)

pub slept_all : (x : Slots) (h : Happening) → Steady x → 1 ≤ who h → who h ≤ x.machine.layout.threads → TrustsIn x h → (u : ℕ) → 1 ≤ u → u ≤ x.machine.layout.threads → SeesSlept (next x h) ((next x h).rows u)
slept_all x h s pos known w u first last = go (who h == u) refl
  where
    go : (b : Bool) → (who h == u) ≡ b → SeesSlept (next x h) ((next x h).rows u)
    go true e = subst (λ (v : ℕ). SeesSlept (next x h) ((next x h).rows v)) (eqb-true (who h) u e) (own_slept x h s pos known w)
    go false e = let apart : who h ≢ u = (λ same. cc (sym e ∙ eq-eqb (who h) u same)) in subst (SeesSlept (next x h)) (sym (others_still x h u s.reached apart).row) (apart_slept x h s pos known w u first last apart)
