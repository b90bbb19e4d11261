-- An access leaves the words of slots as they are shown, or is no event; except for the accesses that take a slot, free it, or
-- declare it consistent.
use Rattle.std.proofs.Common.{◌≡◌, ◌≢◌, ◌⊎◌, inl, inr, ℕ, ◌+◌, ◌*◌, ◌%◌, ◌<◌, ◌≤◌, ◌==◌, Bool, true, false, List, [], ◌∷◌, ◌++◌, refl, arith}
use Rattle.std.specs.Prelude.{if◌then◌else◌, ◌&&◌, ◌-◌}
use Rattle.lockword.specs.Cells.{fields_of}
use Rattle.lockword.specs.Threads.{most_threads}
use Rattle.lockword.specs.declared.reply.Reply.TheVariants.{EBUSY, ENOTRECOVERABLE}
use Rattle.stepprograms.specs.declared.access.Access.{Access}
use Rattle.stepprograms.specs.Accesses.{address_of}
use Rattle.memorymap.specs.Layouts.{Layout', address_in, cell_place, counter_place, head_place}
use Rattle.mutex.specs.Rows.{acquired}
use Rattle.mutex.specs.declared.call.Call.TheVariants.{Consistent, TimedLock, TryLock, Unlock}
use Rattle.condvar.specs.declared.op.Op.TheVariants.{OnMutex}
use Rattle.protocol.specs.declared.event.Event.{Event}
use Rattle.protocol.specs.declared.event.Event.TheVariants.{Begin, Expire, Remake, Spare, Step}
use Rattle.protocol.specs.declared.event.LeftTo.TheVariants as left_to
use Rattle.protocol.specs.declared.thread.Stage.{Stage}
use Rattle.protocol.specs.Machine.{place_met, words_after}
use Rattle.protocol.proofs.Kept.{Kept}
use Rattle.protocol.proofs.Seeing.{cell_in}
use Rattle.slots.specs.Places.{cell_of, slot_of}
use Rattle.slots.specs.Rows.{Choice, Giving, How, Row, Taking}
use Rattle.slots.specs.Rows.How.{Tried, Later, Waited}
use Rattle.slots.specs.Rows.Before.{Linked, Mended, Again}
use Rattle.slots.specs.Rows.Giving.{OfUnlock, OfWait}
use Rattle.slots.specs.Rows.Onward.{Fails}
use Rattle.slots.specs.Shown.{Slots, memory, shown}
use Rattle.slots.specs.Words.{is_free, shows_heir, taken_word, waiting_word}
use Rattle.slots.specs.Seen.{begins_behind, heir_of, later, seen_events, seen_row, sets_and_expires}
use Rattle.slots.specs.Table.{Made, counted, given_row, gives, made, makes, marked_events, marked_row, missed, on_cell, out_of, refused_count, shows_slept, wait_begins, watched_row}
use Rattle.slots.specs.Accesses.{IsAlongList}
use Rattle.slots.specs.Fits.{AreOfUs, Fits, GivesOurs, IsOurs}
use Rattle.slots.specs.Premises.{Owning}
use Rattle.slots.proofs.Leading.{by_test}
use Rattle.slots.proofs.Owned.{our_cell, our_slot}
use Rattle.slots.proofs.OwnKeep.{by_counter, by_pending, by_place, by_reading, others_keep}
use Rattle.slots.proofs.ShownWords.{IsReading}

-- the thread takes the slot there, frees it, or declares it consistent
abbrev pub IsOfSlot : Row → Type 0
IsOfSlot (Row.SlotTakes k v) = Unit {0}
IsOfSlot (Row.SlotMends k) = Unit {0}
IsOfSlot (Row.FreeGives k f) = Unit {0}
IsOfSlot r = ⊥

module _ (x y : Slots) (t : ℕ) (c : Choice) (inv : Kept x.machine) (pos : 1 ≤ t) (known : t ≤ x.machine.layout.threads) (small : t < 1073741824) (same : y.machine.layout ≡ x.machine.layout) where
  abbrev l : Layout'
  l = x.machine.layout

  abbrev W : ℕ → ℕ
  W k = shown x (cell_place l k)

  abbrev V : ℕ → ℕ
  V k = shown y (cell_place l k)

  abbrev Slots_same : Type 0
  Slots_same = (m : ℕ) → IsOurs l m → V (slot_of m) ≡ W (slot_of m)

  -- without events, or with slots as they are shown
  abbrev Leaves_at : Access → List Event → Type 0
  Leaves_at a es = ((p : ℕ) → shown y p ≡ words_after (memory x) t a p) → (es ≡ []) ⊎ Slots_same

  abbrev Leaves : Made → Type 0
  Leaves n = Leaves_at n.access n.events

  all_same : ((k : ℕ) → k < l.mutexes → V k ≡ W k) → Slots_same
  all_same all m ours = all (slot_of m) (our_slot l m ours)

  odd_even : (m j : ℕ) → slot_of m ≢ cell_of j
  odd_even m j e = (let f : 2 * m + 1 ≡ 2 * j = e in omega (arith, f))

  reading : (a : Access) (es : List Event) → IsReading a → Leaves_at a es
  reading a es r is = inr (all_same (by_reading x y t c inv pos known small same a r is))

  pending : (e : ℕ) (es : List Event) → Leaves_at (Access.Store (address_in l t (head_place t + 2)) e) es
  pending e es is = inr (all_same (by_pending x y t c inv pos known small same e is))

  at_cell : (a : Access) (m : ℕ) (es : List Event) → IsOurs l m → address_of a ≡ cell_in l t (cell_of m) → Leaves_at a es
  at_cell a m es ours at is = inr (λ j ours_j. (others_keep x y t c inv pos known small same a (cell_of m) (our_cell l m ours) at is (slot_of j) (our_slot l j ours_j) (odd_even j m)))

  counter : (m k : ℕ) (a : Access) (es : List Event) → AreOfUs l m k → address_of a ≡ address_in l t (counter_place l k) → Leaves_at a es
  counter m k a es o at is = inr (all_same (by_counter x y t c inv pos known small same m k o a at is))

  on_list : (r : Row) → ((k : ℕ) → k < l.mutexes → cell_place l k ≢ place_met l t (made x t c r).access) → Leaves (made x t c r)
  on_list r apart is = inr (all_same (by_place x y t c inv pos known small same (made x t c r).access (place_met l t (made x t c r).access) refl apart is))

  -- ---- each row

  abbrev cell_at : ℕ → ℕ
  cell_at m = cell_in l t (cell_of m)

  abbrev slot_at : ℕ → ℕ
  slot_at m = cell_in l t (slot_of m)

  exchange : (m v n : ℕ) (es : List Event) → IsOurs l m → Leaves_at (Access.Exchange (cell_at m) v n) es
  exchange m v n es ours = at_cell (Access.Exchange (cell_at m) v n) m es ours refl

  gives_ours : (m : ℕ) (g : Giving) → GivesOurs l m g → IsOurs l m
  gives_ours m (OfUnlock d) o = o
  gives_ours m (OfWait k n slept timed) o = o.ours

  missed_leaves : (k : Taking) (h : How) (v n w : ℕ) → IsOurs l k.mutex → Leaves (missed x t c (Access.Exchange (cell_at k.mutex) v n) k h w)
  missed_leaves k Tried v n w ours = exchange k.mutex v n (missed x t c (Access.Exchange (cell_at k.mutex) v n) k Tried w).events ours
  missed_leaves k Later v n w ours = exchange k.mutex v n (missed x t c (Access.Exchange (cell_at k.mutex) v n) k Later w).events ours
  missed_leaves k (Waited z) v n w ours = exchange k.mutex v n (missed x t c (Access.Exchange (cell_at k.mutex) v n) k (Waited z) w).events ours

  sleep_leaves : (k : Taking) (h : How) (v w : ℕ) → Leaves (on_cell x t c k h v w)
  sleep_leaves k (Waited z) v w = reading (Access.Wait (cell_at k.mutex) (v % 4294967296)) (Step t ∷ []) tt
  sleep_leaves k Tried v w = by_test Leaves (w % 4294967296 == v % 4294967296) (makes (Access.Wait (cell_at k.mutex) (v % 4294967296)) (begins_behind t (TimedLock (cell_of k.mutex)) ++ Step t ∷ Step t ∷ []) (Row.Asleep (later k))) (makes (Access.Wait (cell_at k.mutex) (v % 4294967296)) (begins_behind t (TimedLock (cell_of k.mutex))) (Row.Asleep (later k)))
      (λ e. reading (Access.Wait (cell_at k.mutex) (v % 4294967296)) (begins_behind t (TimedLock (cell_of k.mutex)) ++ Step t ∷ Step t ∷ []) tt) (λ e. reading (Access.Wait (cell_at k.mutex) (v % 4294967296)) (begins_behind t (TimedLock (cell_of k.mutex))) tt)
  sleep_leaves k Later v w = by_test Leaves (w % 4294967296 == v % 4294967296) (makes (Access.Wait (cell_at k.mutex) (v % 4294967296)) (begins_behind t (TimedLock (cell_of k.mutex)) ++ Step t ∷ Step t ∷ []) (Row.Asleep (later k))) (makes (Access.Wait (cell_at k.mutex) (v % 4294967296)) (begins_behind t (TimedLock (cell_of k.mutex))) (Row.Asleep (later k)))
      (λ e. reading (Access.Wait (cell_at k.mutex) (v % 4294967296)) (begins_behind t (TimedLock (cell_of k.mutex)) ++ Step t ∷ Step t ∷ []) tt) (λ e. reading (Access.Wait (cell_at k.mutex) (v % 4294967296)) (begins_behind t (TimedLock (cell_of k.mutex))) tt)

  -- two accesses by a test
  two : (b : Bool) (n o : Made) → (b ≡ true → Leaves n) → (b ≡ false → Leaves o) → Leaves (if b then n else o)
  two b n o first second = by_test Leaves b n o first second

  last_leaves : (k : Taking) → Leaves (made x t c (Row.LastLooks k))
  last_leaves k = go (fields_of w).unusable ((fields_of w).owner == 0) (fields_of w).waiters
    where
      w : ℕ
      w = W (cell_of k.mutex)

      look : Access
      look = Access.Load (cell_at k.mutex)

      go : (a b d : Bool) → Leaves (
          if a then makes look (Step t ∷ []) (if d then Row.HeirWakes k else Row.Frees k (Fails ENOTRECOVERABLE))
          else if b then makes look [] (Row.HeirPends k Again)
          else if d then makes look (Step t ∷ (Step t ∷ (Expire t ∷ []))) (out_of x t c k)
          else makes look [] (Row.LastMarks k w)
          )
      go true b d = reading look (Step t ∷ []) tt
      go false true d = reading look [] tt
      go false false true = reading look (Step t ∷ (Step t ∷ (Expire t ∷ []))) tt
      go false false false = reading look [] tt

  pub slots_row : (r : Row) (g : Stage) → Fits l t r g → Owning x.machine t r → (IsAlongList r → (k : ℕ) → k < l.mutexes → cell_place l k ≢ place_met l t (made x t c r).access) → (IsOfSlot r → ⊥) → Leaves (made x t c r)
  slots_row Row.Rests g o w apart never = (λ is. inl refl)
  slots_row (Row.Looks k) g o w apart never = two ((fields_of (W (cell_of k.mutex))).owner == t) (makes (Access.Load (cell_at k.mutex)) (Begin t (OnMutex (TimedLock (cell_of k.mutex))) ∷ Step t ∷ Step t ∷ Step t ∷ []) Row.Rests) (makes (Access.Load (cell_at k.mutex)) [] (Row.Pends k (W (cell_of k.mutex)))) (λ e. reading (Access.Load (cell_at k.mutex)) _ tt) (λ e is. inl refl)
  slots_row (Row.Pends k v) g o w apart never = pending _ _
  slots_row (Row.Sees k) g o w apart never = reading (Access.Load (cell_at k.mutex)) _ tt
  slots_row (Row.Takes k v) g o w apart never = two (W (cell_of k.mutex) == v) (makes (Access.Exchange (cell_at k.mutex) v (taken_word v t)) (Step t ∷ Step t ∷ []) (Row.Links k.mutex (acquired (fields_of v)))) (makes (Access.Exchange (cell_at k.mutex) v (taken_word v t)) (seen_events t k.mutex k.how (W (cell_of k.mutex))) (seen_row t k (W (cell_of k.mutex)))) (λ e. exchange k.mutex v (taken_word v t) _ o.0.ours) (λ e. exchange k.mutex v (taken_word v t) _ o.0.ours)
  slots_row (Row.Links m r) g o w apart never = on_list (Row.Links m r) (apart tt)
  slots_row (Row.Clears m r) g o w apart never = pending 0 _
  slots_row (Row.Chooses k v) g o w apart never = (λ is. inl refl)
  slots_row (Row.SeesAgain k v) g o w apart never = reading (Access.Load (cell_at k.mutex)) _ tt
  slots_row (Row.Marks k v n) g o w apart never = two (W (cell_of k.mutex) == v) (makes (Access.Exchange (cell_at k.mutex) v (waiting_word v)) (marked_events x t c k k.how) (marked_row x t c k k.how v n)) (missed x t c (Access.Exchange (cell_at k.mutex) v (waiting_word v)) k k.how (W (cell_of k.mutex))) (λ e. exchange k.mutex v (waiting_word v) _ o.0.ours) (λ e. missed_leaves k k.how v (waiting_word v) (W (cell_of k.mutex)) o.0.ours)
  slots_row (Row.SleepsOn k v) g o w apart never = sleep_leaves k k.how v (W (cell_of k.mutex))
  slots_row (Row.Asleep k) g o w apart never = (λ is. inl refl)
  slots_row (Row.Late k) g o w apart never = (λ is. inl refl)
  slots_row (Row.LateSees k) g o w apart never = (λ is. inl refl)
  slots_row (Row.WakesAll m r) g o w apart never = reading (Access.Wake (cell_at m) most_threads) _ tt
  slots_row (Row.SlotPends k sl) g o w apart never = pending _ _
  slots_row (Row.SlotTakes k sl) g o w apart never = absurd (never tt)
  slots_row (Row.SlotLeft k) g o w apart never = pending _ _
  slots_row (Row.SeesToSleep k) g o w apart never = reading (Access.Load (cell_at k.mutex)) _ tt
  slots_row (Row.SlotLinks k d) g o w apart never = on_list (Row.SlotLinks k d) (apart tt)
  slots_row (Row.SlotClears k) g o w apart never = pending 0 _
  slots_row (Row.SlotQuiets k) g o w apart never = (λ is. inl refl)
  slots_row (Row.SlotMends k) g o w apart never = absurd (never tt)
  slots_row (Row.HeirPends k Linked) g o w apart never = pending _ _
  slots_row (Row.HeirPends k Mended) g o w apart never = pending _ _
  slots_row (Row.HeirPends k Again) g o w apart never = (λ is. inl refl)
  slots_row (Row.HeirSets k) g o w apart never = (λ is. inl refl)
  slots_row (Row.HeirLooks k) g o w apart never = (λ is. inl refl)
  slots_row (Row.HeirPendsOn k v over) g o w apart never = (λ is. inl refl)
  slots_row (Row.HeirTakes k v) g o w apart never = two (W (cell_of k.mutex) == v) (makes (Access.Exchange (cell_at k.mutex) v (taken_word v t)) (Step t ∷ Step t ∷ []) (Row.HeirHas k (acquired (fields_of v)))) (makes (Access.Exchange (cell_at k.mutex) v (taken_word v t)) [] (watched_row x t c k (W (cell_of k.mutex)) true)) (λ e. exchange k.mutex v (taken_word v t) _ o.0.ours) (λ e is. inl refl)
  slots_row (Row.HeirHas k r) g o w apart never = (λ is. inl refl)
  slots_row (Row.HeirLinks k r) g o w apart never = on_list (Row.HeirLinks k r) (apart tt)
  slots_row (Row.GivesUp k) g o w apart never = (λ is. inl refl)
  slots_row (Row.LastLooks k) g o w apart never = last_leaves k
  slots_row (Row.LastMarks k v) g o w apart never = two (W (cell_of k.mutex) == v) (makes (Access.Exchange (cell_at k.mutex) v (waiting_word v)) (sets_and_expires t) (out_of x t c k)) (makes (Access.Exchange (cell_at k.mutex) v (waiting_word v)) [] (Row.HeirPends k Again)) (λ e. exchange k.mutex v (waiting_word v) _ o.0.ours) (λ e is. inl refl)
  slots_row (Row.HeirWakes k) g o w apart never = reading (Access.Wake (cell_at k.mutex) most_threads) _ tt
  slots_row (Row.Frees k f) g o w apart never = pending _ _
  slots_row (Row.FreeUnlinks k f) g o w apart never = on_list (Row.FreeUnlinks k f) (apart tt)
  slots_row (Row.FreeGives k f) g o w apart never = absurd (never tt)
  slots_row (Row.TryLooks m) g o w apart never = two (is_free (W (cell_of m))) (makes (Access.Load (cell_at m)) [] (Row.TryPends m (W (cell_of m)))) (makes (Access.Load (cell_at m)) (Begin t (OnMutex (TryLock (cell_of m))) ∷ Step t ∷ Step t ∷ Step t ∷ []) Row.Rests) (λ e is. inl refl) (λ e. reading (Access.Load (cell_at m)) _ tt)
  slots_row (Row.TryPends m v) g o w apart never = pending _ _
  slots_row (Row.TryTakes m v) g o w apart never = two (W (cell_of m) == v) (makes (Access.Exchange (cell_at m) v (taken_word v t)) (Step t ∷ Step t ∷ []) (Row.Links m (acquired (fields_of v)))) (if is_free (W (cell_of m)) then makes (Access.Exchange (cell_at m) v (taken_word v t)) [] (Row.TryTakes m (W (cell_of m))) else makes (Access.Exchange (cell_at m) v (taken_word v t)) (Step t ∷ []) (Row.Clears m (if (fields_of (W (cell_of m))).unusable then ENOTRECOVERABLE else EBUSY)))
      (λ e. exchange m v (taken_word v t) _ o.0)
      (λ e. two (is_free (W (cell_of m))) (makes (Access.Exchange (cell_at m) v (taken_word v t)) [] (Row.TryTakes m (W (cell_of m)))) (makes (Access.Exchange (cell_at m) v (taken_word v t)) (Step t ∷ []) (Row.Clears m (if (fields_of (W (cell_of m))).unusable then ENOTRECOVERABLE else EBUSY))) (λ f is. inl refl) (λ f. exchange m v (taken_word v t) _ o.0))
  slots_row (Row.GiveLooks m) g o w apart never = two ((fields_of (W (cell_of m))).owner == t) (makes (Access.Load (cell_at m)) [] (Row.GivePends m (OfUnlock (fields_of (W (cell_of m))).died))) (makes (Access.Load (cell_at m)) (Begin t (OnMutex (Unlock (cell_of m))) ∷ Step t ∷ []) Row.Rests) (λ e is. inl refl) (λ e. reading (Access.Load (cell_at m)) _ tt)
  slots_row (Row.GivePends m (OfUnlock d)) g o w apart never = pending _ _
  slots_row (Row.GivePends m (OfWait k n slept timed)) g o w apart never = pending _ _
  slots_row (Row.GiveUnlinks m y) g o w apart never = on_list (Row.GiveUnlinks m y) (apart tt)
  slots_row (Row.GiveFinds m y) g o w apart never = (λ is. inl refl)
  slots_row (Row.Gives m y) g o w apart never = at_cell (Access.FetchXor (cell_at m) (gives x t c t y)) m _ (gives_ours m y o) refl
  slots_row (Row.HandsOn m y n) g o w apart never = two (shows_heir (W (slot_of m)) && c.yes) (makes (Access.Load (slot_at m)) (Spare t (heir_of x.machine t (cell_of m)) ∷ []) (given_row x t c m y)) (makes (Access.Load (slot_at m)) [] (Row.LooksBack m y n)) (λ e. reading (Access.Load (slot_at m)) _ tt) (λ e is. inl refl)
  slots_row (Row.LooksBack m y n) g o w apart never = two ((fields_of (W (cell_of m))).owner == 0) (makes (Access.Load (cell_at m)) [] (Row.WakesOne m y n)) (makes (Access.Load (cell_at m)) (Spare t left_to.Owner ∷ []) (given_row x t c m y)) (λ e is. inl refl) (λ e. reading (Access.Load (cell_at m)) _ tt)
  slots_row (Row.WakesOne m y n) g o w apart never = reading (Access.Wake (cell_at m) 1) _ tt
  slots_row (Row.Trims m n) g o w apart never = exchange m n (n - 2147483648) _ o
  slots_row (Row.MendLooks m) g o w apart never = two (((fields_of (W (cell_of m))).owner == t) && (fields_of (W (cell_of m))).died) (makes (Access.Load (cell_at m)) [] (Row.Mends m)) (makes (Access.Load (cell_at m)) (Begin t (OnMutex (Consistent (cell_of m))) ∷ Step t ∷ []) Row.Rests) (λ e is. inl refl) (λ e. reading (Access.Load (cell_at m)) _ tt)
  slots_row (Row.Mends m) g o w apart never = at_cell (Access.FetchAnd (cell_at m) 18446744072635809791) m _ o refl
  slots_row (Row.AnewLooks m) g o w apart never = (λ is. inl refl)
  slots_row (Row.Anews m v) g o w apart never = two (W (cell_of m) == v) (makes (Access.Exchange (cell_at m) v (v - 4294967296 + 8589934592)) (Remake t (cell_of m) ∷ []) Row.Rests) (makes (Access.Exchange (cell_at m) v (v - 4294967296 + 8589934592)) [] (if (fields_of (W (cell_of m))).unusable then Row.Anews m (W (cell_of m)) else Row.Rests)) (λ e. exchange m v (v - 4294967296 + 8589934592) _ o.0) (λ e is. inl refl)
  slots_row (Row.WaitLooks m k timed) g o w apart never = two ((fields_of (W (cell_of m))).owner == t) (makes (Access.Load (cell_at m)) [] (Row.WaitCounts m k timed (fields_of (W (cell_of m))).died)) (makes (Access.Load (cell_at m)) (wait_begins x t c k timed) Row.Rests) (λ e is. inl refl) (λ e. reading (Access.Load (cell_at m)) _ tt)
  slots_row (Row.WaitCounts m k timed died) g o w apart never = two died (makes (Access.Load (address_in l t (counter_place l k))) (wait_begins x t c k timed) Row.Rests) (makes (Access.Load (address_in l t (counter_place l k))) [] (Row.GivePends m (OfWait k (shown x (counter_place l k) % 4294967296) (shows_slept x t c (shown x (counter_place l k))) timed))) (λ e. reading (Access.Load (address_in l t (counter_place l k))) _ tt) (λ e is. inl refl)
  slots_row (Row.WaitSets m k n timed) g o w apart never = (λ is. inl refl)
  slots_row (Row.WaitSleeps m k n timed) g o w apart never = reading (Access.Wait (address_in l t (counter_place l k)) n) _ tt
  slots_row (Row.WaitAsleep m k n timed) g o w apart never = (λ is. inl refl)
  slots_row (Row.WaitLate m k n) g o w apart never = (λ is. inl refl)
  slots_row (Row.CountLooks m k all) g o w apart never = two ((fields_of (W (cell_of m))).owner == t) (makes (Access.Load (cell_at m)) [] (Row.CountLoads m k all)) (makes (Access.Load (cell_at m)) (refused_count x t c k all) Row.Rests) (λ e is. inl refl) (λ e. reading (Access.Load (cell_at m)) _ tt)
  slots_row (Row.CountLoads m k all) g o w apart never = (λ is. inl refl)
  slots_row (Row.Counts m k all n) g o w apart never = counter m k (Access.Store (address_in l t (counter_place l k)) (counted x t c n)) _ o refl
  slots_row (Row.CountWakes m k n) g o w apart never = reading (Access.Wake (address_in l t (counter_place l k)) 1) _ tt
  slots_row (Row.AllMarks m k n) g o w apart never = at_cell (Access.FetchOr (cell_at m) 2147483648) m _ o.ours refl
  slots_row (Row.AllMoves m k n) g o w apart never = reading (Access.CmpRequeue (address_in l t (counter_place l k)) n 0 (cell_at m) most_threads) _ tt
  slots_row (Row.Unsets m k n) g o w apart never = (λ is. inl refl)
