-- In every run, whatever stores wait, each access finds its word as the layer shows it.
use Rattle.condvar.specs.declared.op.Op.TheVariants.{OnMutex}
use Rattle.lockword.specs.Cells.{fields_of}
use Rattle.lockword.specs.declared.reply.Reply.TheVariants.{EBUSY, ENOTRECOVERABLE}
use Rattle.memorymap.specs.Layouts.{Layout', address_in, cell_place, counter_place, head_place}
use Rattle.mutex.specs.declared.call.Call.TheVariants.{Consistent, TimedLock, TryLock, Unlock}
use Rattle.protocol.specs.declared.event.Event.TheVariants.{Begin, Expire, Remake, Spare, Step}
use Rattle.protocol.specs.declared.event.LeftTo.TheVariants as left_to
use Rattle.slots.specs.Places.{cell_of, slot_of}
use Rattle.slots.specs.Rows.Before.{Again}
use Rattle.slots.specs.Rows.Giving.{OfUnlock, OfWait}
use Rattle.slots.specs.Rows.How.{Tried, Later, Waited}
use Rattle.slots.specs.Rows.Onward.{Fails}
use Rattle.slots.specs.Rows.{Choice, How, Row, Taking}
use Rattle.slots.specs.Shown.{Slots, shown}
use Rattle.slots.specs.Stands.{StandsAs}
use Rattle.slots.specs.Words.{is_free, shows_heir, taken_word, waiting_word}
use Rattle.slots.specs.Seen.{begins_behind, heir_of, later, seen_events, seen_row, sets_and_expires}
use Rattle.slots.specs.Table.{Made, access_of_stage, made, given_row, makes, marked_events, marked_row, missed, on_cell, out_of, refused_count, shows_slept, wait_begins, watched_row}
use Rattle.std.specs.Prelude.{if◌then◌else◌, ◌&&◌, ◌-◌}
use Rattle.stepprograms.specs.declared.access.Access.{Access}
use Rattle.mutex.specs.Rows.{acquired}
use Rattle.std.proofs.Common.{◌≡◌, ◌⊎◌, inl, inr, ℕ, ◌+◌, ◌%◌, ◌<◌, ◌≤◌, ◌==◌, Bool, true, false, [], ◌∷◌, ap, ◌∙◌, sym, subst, ◌++◌}
use Rattle.std.specs.Prelude.{slice_index}
use Rattle.memorymap.specs.Layouts.{place_in}
use Rattle.stepprograms.specs.Accesses.{address_of}
use Rattle.protocol.specs.Machine.{is_alive, place_met}
use Rattle.protocol.proofs.Kept.{Kept}
use Rattle.protocol.proofs.Seeing.{cell_again, counter_again}
use Rattle.slots.specs.Places.{our_mutexes}
use Rattle.slots.specs.Rows.{Giving}
use Rattle.slots.specs.Invariant.{fields_at}
use Rattle.slots.specs.Fits.{AreOfUs, Fits, GivesOurs}
use Rattle.slots.specs.Premises.{Owning, SeesCount}
use Rattle.slots.specs.Stores.{IsOwnHere, StoresCount, stored_by}
use Rattle.slots.specs.Late.{AccessesFindTheSame, FindsIt, Late, FindsItsWord, begin_late, found_by, late_from}
use Rattle.protocol.specs.Changes.{IsItsOwn}
use Rattle.slots.proofs.Free.{reached_kept}
use Rattle.slots.proofs.LateRuns.{Holds, finds_same, late_holds}
use Rattle.slots.proofs.OthersKeep.{owned_seen}
use Rattle.slots.proofs.Owned.{our_cell, our_slot}
use Rattle.slots.proofs.OwnStores.{along, own_row}
use Rattle.slots.proofs.Steady.{Steady}

module _ (x : Slots) (t : ℕ) (c : Choice) (s : Steady x) (pos : 1 ≤ t) (known : t ≤ x.machine.layout.threads) where
  abbrev l : Layout'
  l = x.machine.layout

  abbrev word : ℕ → ℕ
  word k = shown x (cell_place l k)

  inv : Kept x.machine
  inv = reached_kept x.machine s.reached

  -- a cell, a slot, a word of the thread's own, or a counter whose mutex it owns
  abbrev pub At : ℕ → Type 0
  At p = ((k : ℕ) × ((k < l.mutexes) × (place_in l t p ≡ cell_place l k))) ⊎ IsOwnHere x.machine t (place_in l t p)

  abbrev pub Meets : Access → Type 0
  Meets a = At (address_of a)

  cell_at : (m : ℕ) → m < our_mutexes l → At (address_in l t (cell_place l (cell_of m)))
  cell_at m ours = inl (cell_of m, (our_cell l m ours, cell_again l t inv.layout pos known (cell_of m) (our_cell l m ours)))

  slot_at : (m : ℕ) → m < our_mutexes l → At (address_in l t (cell_place l (slot_of m)))
  slot_at m ours = inl (slot_of m, (our_slot l m ours, cell_again l t inv.layout pos known (slot_of m) (our_slot l m ours)))

  counter_at_it : (m k : ℕ) → AreOfUs l m k → (fields_at x.machine (cell_of m)).owner ≡ t → At (address_in l t (counter_place l k))
  counter_at_it m k o owner = inr (inr (
    k,
    o.cell.inside,
    counter_again l t inv.layout pos known k o.cell.inside,
    owned_seen x.machine (slice_index l.conditions k) t (subst (λ (i : ℕ). i < l.mutexes) (sym o.cell.cell) (our_cell l m o.ours)) pos (ap (λ (i : ℕ). (fields_at x.machine i).owner) o.cell.cell ∙ owner),
  ))

  own : (a : Access) → IsItsOwn x.machine t (place_met l t a) ⊎ (k : ℕ) × StoresCount x t (place_met l t a) (stored_by a) k → Meets a
  own a (inl its) = inr (inl its)
  own a (inr (k, o)) = inr (inr (k, o.inside, o.place, o.owner))

  gives : (m : ℕ) (y : Giving) → GivesOurs l m y → m < our_mutexes l
  gives m (OfUnlock d) o = o
  gives m (OfWait k n slept timed) o = o.ours

  two : (b : Bool) (n o : Made) → Meets n.access → Meets o.access → Meets (if b then n else o).access
  two true n o first second = first
  two false n o first second = second

  missed_at : (a : Access) (k : Taking) (h : How) (w : ℕ) → Meets a → Meets (missed x t c a k h w).access
  missed_at a k Tried w away = away
  missed_at a k Later w away = away
  missed_at a k (Waited z) w away = away

  sleep_at : (k : Taking) (h : How) (v w : ℕ) → At (address_in l t (cell_place l (cell_of k.mutex))) → Meets (on_cell x t c k h v w).access
  sleep_at k (Waited z) v w at = at
  sleep_at k Tried v w at = two (w % 4294967296 == v % 4294967296) (makes (Access.Wait (address_in l t (cell_place l (cell_of k.mutex))) (v % 4294967296)) (begins_behind t (TimedLock (cell_of k.mutex)) ++ Step t ∷ Step t ∷ []) (Row.Asleep (later k))) (makes (Access.Wait (address_in l t (cell_place l (cell_of k.mutex))) (v % 4294967296)) (begins_behind t (TimedLock (cell_of k.mutex))) (Row.Asleep (later k))) at at
  sleep_at k Later v w at = two (w % 4294967296 == v % 4294967296) (makes (Access.Wait (address_in l t (cell_place l (cell_of k.mutex))) (v % 4294967296)) (begins_behind t (TimedLock (cell_of k.mutex)) ++ Step t ∷ Step t ∷ []) (Row.Asleep (later k))) (makes (Access.Wait (address_in l t (cell_place l (cell_of k.mutex))) (v % 4294967296)) (begins_behind t (TimedLock (cell_of k.mutex))) (Row.Asleep (later k))) at at

  last_at : (k : Taking) (w at : ℕ) (a b d : Bool) → At at → Meets (
      if a then makes (Access.Load at) (Step t ∷ []) (if d then Row.HeirWakes k else Row.Frees k (Fails ENOTRECOVERABLE))
      else if b then makes (Access.Load at) [] (Row.HeirPends k Again)
      else if d then makes (Access.Load at) (Step t ∷ (Step t ∷ (Expire t ∷ []))) (out_of x t c k)
      else makes (Access.Load at) [] (Row.LastMarks k w)
      ).access
  last_at k w at true b d there = there
  last_at k w at false true d there = there
  last_at k w at false false true there = there
  last_at k w at false false false there = there

  pub met_row : (r : Row) → Fits l t r (x.machine.threads t).stage → Owning x.machine t r → SeesCount x r → StandsAs r (x.machine.threads t).stage → FindsItsWord r → Meets (made x t c r).access
  met_row (Row.Looks k) o w sees there meets = two ((fields_of (word (cell_of k.mutex))).owner == t) (makes (Access.Load (address_in l t (cell_place l (cell_of k.mutex)))) (Begin t (OnMutex (TimedLock (cell_of k.mutex))) ∷ Step t ∷ Step t ∷ Step t ∷ []) Row.Rests) (makes (Access.Load (address_in l t (cell_place l (cell_of k.mutex)))) [] (Row.Pends k (word (cell_of k.mutex)))) (cell_at k.mutex o.0.ours) (cell_at k.mutex o.0.ours)
  met_row (Row.Pends k v) o w sees there meets = own (made x t c (Row.Pends k v)).access (own_row x t c s pos known (Row.Pends k v) o w sees there tt)
  met_row (Row.Sees k) o w sees there meets = cell_at k.mutex o.ours
  met_row (Row.Takes k v) o w sees there meets = two (word (cell_of k.mutex) == v) (makes (Access.Exchange (address_in l t (cell_place l (cell_of k.mutex))) v (taken_word v t)) (Step t ∷ Step t ∷ []) (Row.Links k.mutex (acquired (fields_of v)))) (makes (Access.Exchange (address_in l t (cell_place l (cell_of k.mutex))) v (taken_word v t)) (seen_events t k.mutex k.how (word (cell_of k.mutex))) (seen_row t k (word (cell_of k.mutex)))) (cell_at k.mutex o.0.ours) (cell_at k.mutex o.0.ours)
  met_row (Row.Links m r) o w sees there meets = own (access_of_stage (x.machine.threads t).stage (address_in l t (head_place t))) (along x t c s pos known (Row.Links m r) tt there)
  met_row (Row.Clears m r) o w sees there meets = own (made x t c (Row.Clears m r)).access (own_row x t c s pos known (Row.Clears m r) o w sees there tt)
  met_row (Row.Chooses k v) o w sees there meets = slot_at k.mutex o.0.ours
  met_row (Row.SeesAgain k v) o w sees there meets = cell_at k.mutex o.0.ours
  met_row (Row.Marks k v n) o w sees there meets = two (word (cell_of k.mutex) == v) (makes (Access.Exchange (address_in l t (cell_place l (cell_of k.mutex))) v (waiting_word v)) (marked_events x t c k k.how) (marked_row x t c k k.how v n)) (missed x t c (Access.Exchange (address_in l t (cell_place l (cell_of k.mutex))) v (waiting_word v)) k k.how (word (cell_of k.mutex))) (cell_at k.mutex o.0.ours) (missed_at (Access.Exchange (address_in l t (cell_place l (cell_of k.mutex))) v (waiting_word v)) k k.how (word (cell_of k.mutex)) (cell_at k.mutex o.0.ours))
  met_row (Row.SleepsOn k v) o w sees there meets = sleep_at k k.how v (word (cell_of k.mutex)) (cell_at k.mutex o.0.ours)
  met_row (Row.Asleep k) o w sees there meets = own (made x t c (Row.Asleep k)).access (own_row x t c s pos known (Row.Asleep k) o w sees there tt)
  met_row (Row.Late k) o w sees there meets = own (made x t c (Row.Late k)).access (own_row x t c s pos known (Row.Late k) o w sees there tt)
  met_row (Row.LateSees k) o w sees there meets = cell_at k.mutex o.ours
  met_row (Row.SlotPends k g) o w sees there meets = own (made x t c (Row.SlotPends k g)).access (own_row x t c s pos known (Row.SlotPends k g) o w sees there tt)
  met_row (Row.SlotTakes k sl) o w sees there meets = two (word (slot_of k.mutex) == sl) (makes (Access.Exchange (address_in l t (cell_place l (slot_of k.mutex))) sl (taken_word sl t)) (Step t ∷ Step t ∷ []) (Row.SlotLinks k (fields_of sl).died)) (if (fields_of (word (slot_of k.mutex))).owner == 0 then makes (Access.Exchange (address_in l t (cell_place l (slot_of k.mutex))) sl (taken_word sl t)) [] (Row.SlotTakes k (word (slot_of k.mutex))) else makes (Access.Exchange (address_in l t (cell_place l (slot_of k.mutex))) sl (taken_word sl t)) (Step t ∷ []) (Row.SlotLeft k)) (slot_at k.mutex o.0.ours) (two ((fields_of (word (slot_of k.mutex))).owner == 0) (makes (Access.Exchange (address_in l t (cell_place l (slot_of k.mutex))) sl (taken_word sl t)) [] (Row.SlotTakes k (word (slot_of k.mutex)))) (makes (Access.Exchange (address_in l t (cell_place l (slot_of k.mutex))) sl (taken_word sl t)) (Step t ∷ []) (Row.SlotLeft k)) (slot_at k.mutex o.0.ours) (slot_at k.mutex o.0.ours))
  met_row (Row.SlotLeft k) o w sees there meets = own (made x t c (Row.SlotLeft k)).access (own_row x t c s pos known (Row.SlotLeft k) o w sees there tt)
  met_row (Row.SeesToSleep k) o w sees there meets = cell_at k.mutex o.0.ours
  met_row (Row.SlotLinks k d) o w sees there meets = own (access_of_stage (x.machine.threads t).stage (address_in l t (head_place t))) (along x t c s pos known (Row.SlotLinks k d) tt there)
  met_row (Row.SlotClears k) o w sees there meets = own (made x t c (Row.SlotClears k)).access (own_row x t c s pos known (Row.SlotClears k) o w sees there tt)
  met_row (Row.SlotQuiets k) o w sees there meets = slot_at k.mutex o.ours
  met_row (Row.SlotMends k) o w sees there meets = slot_at k.mutex o.ours
  met_row (Row.HeirPends k b) o w sees there meets = own (made x t c (Row.HeirPends k b)).access (own_row x t c s pos known (Row.HeirPends k b) o w sees there tt)
  met_row (Row.HeirSets k) o w sees there meets = slot_at k.mutex o.ours
  met_row (Row.HeirLooks k) o w sees there meets = cell_at k.mutex o.ours
  met_row (Row.HeirPendsOn k v over) o w sees there meets = own (made x t c (Row.HeirPendsOn k v over)).access (own_row x t c s pos known (Row.HeirPendsOn k v over) o w sees there tt)
  met_row (Row.HeirTakes k v) o w sees there meets = two (word (cell_of k.mutex) == v) (makes (Access.Exchange (address_in l t (cell_place l (cell_of k.mutex))) v (taken_word v t)) (Step t ∷ Step t ∷ []) (Row.HeirHas k (acquired (fields_of v)))) (makes (Access.Exchange (address_in l t (cell_place l (cell_of k.mutex))) v (taken_word v t)) [] (watched_row x t c k (word (cell_of k.mutex)) true)) (cell_at k.mutex o.0.ours) (cell_at k.mutex o.0.ours)
  met_row (Row.HeirHas k r) o w sees there meets = slot_at k.mutex o.ours
  met_row (Row.HeirLinks k r) o w sees there meets = own (access_of_stage (x.machine.threads t).stage (address_in l t (head_place t))) (along x t c s pos known (Row.HeirLinks k r) tt there)
  met_row (Row.GivesUp k) o w sees there meets = slot_at k.mutex o.ours
  met_row (Row.LastLooks k) o w sees there meets = last_at k (word (cell_of k.mutex)) (address_in l t (cell_place l (cell_of k.mutex))) (fields_of (word (cell_of k.mutex))).unusable ((fields_of (word (cell_of k.mutex))).owner == 0) (fields_of (word (cell_of k.mutex))).waiters (cell_at k.mutex o.ours)
  met_row (Row.LastMarks k v) o w sees there meets = two (word (cell_of k.mutex) == v) (makes (Access.Exchange (address_in l t (cell_place l (cell_of k.mutex))) v (waiting_word v)) (sets_and_expires t) (out_of x t c k)) (makes (Access.Exchange (address_in l t (cell_place l (cell_of k.mutex))) v (waiting_word v)) [] (Row.HeirPends k Again)) (cell_at k.mutex o.0.ours) (cell_at k.mutex o.0.ours)
  met_row (Row.Frees k f) o w sees there meets = own (made x t c (Row.Frees k f)).access (own_row x t c s pos known (Row.Frees k f) o w sees there tt)
  met_row (Row.FreeUnlinks k f) o w sees there meets = own (access_of_stage (x.machine.threads t).stage (address_in l t (head_place t))) (along x t c s pos known (Row.FreeUnlinks k f) tt there)
  met_row (Row.FreeGives k f) o w sees there meets = slot_at k.mutex o.ours
  met_row (Row.TryLooks m) o w sees there meets = two (is_free (word (cell_of m))) (makes (Access.Load (address_in l t (cell_place l (cell_of m)))) [] (Row.TryPends m (word (cell_of m)))) (makes (Access.Load (address_in l t (cell_place l (cell_of m)))) (Begin t (OnMutex (TryLock (cell_of m))) ∷ Step t ∷ Step t ∷ Step t ∷ []) Row.Rests) (cell_at m o) (cell_at m o)
  met_row (Row.TryPends m v) o w sees there meets = own (made x t c (Row.TryPends m v)).access (own_row x t c s pos known (Row.TryPends m v) o w sees there tt)
  met_row (Row.TryTakes m v) o w sees there meets = two (word (cell_of m) == v) (makes (Access.Exchange (address_in l t (cell_place l (cell_of m))) v (taken_word v t)) (Step t ∷ Step t ∷ []) (Row.Links m (acquired (fields_of v)))) (if is_free (word (cell_of m)) then makes (Access.Exchange (address_in l t (cell_place l (cell_of m))) v (taken_word v t)) [] (Row.TryTakes m (word (cell_of m))) else makes (Access.Exchange (address_in l t (cell_place l (cell_of m))) v (taken_word v t)) (Step t ∷ []) (Row.Clears m (if (fields_of (word (cell_of m))).unusable then ENOTRECOVERABLE else EBUSY))) (cell_at m o.0) (two (is_free (word (cell_of m))) (makes (Access.Exchange (address_in l t (cell_place l (cell_of m))) v (taken_word v t)) [] (Row.TryTakes m (word (cell_of m)))) (makes (Access.Exchange (address_in l t (cell_place l (cell_of m))) v (taken_word v t)) (Step t ∷ []) (Row.Clears m (if (fields_of (word (cell_of m))).unusable then ENOTRECOVERABLE else EBUSY))) (cell_at m o.0) (cell_at m o.0))
  met_row (Row.GiveLooks m) o w sees there meets = two ((fields_of (word (cell_of m))).owner == t) (makes (Access.Load (address_in l t (cell_place l (cell_of m)))) [] (Row.GivePends m (OfUnlock (fields_of (word (cell_of m))).died))) (makes (Access.Load (address_in l t (cell_place l (cell_of m)))) (Begin t (OnMutex (Unlock (cell_of m))) ∷ Step t ∷ []) Row.Rests) (cell_at m o) (cell_at m o)
  met_row (Row.GivePends m y) o w sees there meets = own (made x t c (Row.GivePends m y)).access (own_row x t c s pos known (Row.GivePends m y) o w sees there tt)
  met_row (Row.GiveUnlinks m y) o w sees there meets = own (access_of_stage (x.machine.threads t).stage (address_in l t (head_place t))) (along x t c s pos known (Row.GiveUnlinks m y) tt there)
  met_row (Row.GiveFinds m y) o w sees there meets = slot_at m (gives m y o)
  met_row (Row.Gives m y) o w sees there meets = cell_at m (gives m y o)
  met_row (Row.HandsOn m y is) o w sees there meets = two (shows_heir (word (slot_of m)) && c.yes) (makes (Access.Load (address_in l t (cell_place l (slot_of m)))) (Spare t (heir_of x.machine t (cell_of m)) ∷ []) (given_row x t c m y)) (makes (Access.Load (address_in l t (cell_place l (slot_of m)))) [] (Row.LooksBack m y is)) (slot_at m (gives m y o)) (slot_at m (gives m y o))
  met_row (Row.LooksBack m y is) o w sees there meets = two ((fields_of (word (cell_of m))).owner == 0) (makes (Access.Load (address_in l t (cell_place l (cell_of m)))) [] (Row.WakesOne m y is)) (makes (Access.Load (address_in l t (cell_place l (cell_of m)))) (Spare t left_to.Owner ∷ []) (given_row x t c m y)) (cell_at m (gives m y o)) (cell_at m (gives m y o))
  met_row (Row.Trims m is) o w sees there meets = cell_at m o
  met_row (Row.MendLooks m) o w sees there meets = two (((fields_of (word (cell_of m))).owner == t) && (fields_of (word (cell_of m))).died) (makes (Access.Load (address_in l t (cell_place l (cell_of m)))) [] (Row.Mends m)) (makes (Access.Load (address_in l t (cell_place l (cell_of m)))) (Begin t (OnMutex (Consistent (cell_of m))) ∷ Step t ∷ []) Row.Rests) (cell_at m o) (cell_at m o)
  met_row (Row.Mends m) o w sees there meets = cell_at m o
  met_row (Row.AnewLooks m) o w sees there meets = cell_at m o
  met_row (Row.Anews m v) o w sees there meets = two (word (cell_of m) == v) (makes (Access.Exchange (address_in l t (cell_place l (cell_of m))) v (v - 4294967296 + 8589934592)) (Remake t (cell_of m) ∷ []) Row.Rests) (makes (Access.Exchange (address_in l t (cell_place l (cell_of m))) v (v - 4294967296 + 8589934592)) [] (if (fields_of (word (cell_of m))).unusable then Row.Anews m (word (cell_of m)) else Row.Rests)) (cell_at m o.0) (cell_at m o.0)
  met_row (Row.WaitLooks m k timed) o w sees there meets = two ((fields_of (word (cell_of m))).owner == t) (makes (Access.Load (address_in l t (cell_place l (cell_of m)))) [] (Row.WaitCounts m k timed (fields_of (word (cell_of m))).died)) (makes (Access.Load (address_in l t (cell_place l (cell_of m)))) (wait_begins x t c k timed) Row.Rests) (cell_at m o.ours) (cell_at m o.ours)
  met_row (Row.WaitCounts m k timed died) o w sees there meets = two died (makes (Access.Load (address_in l t (counter_place l k))) (wait_begins x t c k timed) Row.Rests) (makes (Access.Load (address_in l t (counter_place l k))) [] (Row.GivePends m (OfWait k (shown x (counter_place l k) % 4294967296) (shows_slept x t c (shown x (counter_place l k))) timed))) (counter_at_it m k o w.owner) (counter_at_it m k o w.owner)
  met_row (Row.WaitSets m k n timed) o w sees there meets = counter_at_it m k o w.owner
  met_row (Row.WaitAsleep m k n timed) o w sees there meets = own (made x t c (Row.WaitAsleep m k n timed)).access (own_row x t c s pos known (Row.WaitAsleep m k n timed) o w sees there tt)
  met_row (Row.CountLooks m k all) o w sees there meets = two ((fields_of (word (cell_of m))).owner == t) (makes (Access.Load (address_in l t (cell_place l (cell_of m)))) [] (Row.CountLoads m k all)) (makes (Access.Load (address_in l t (cell_place l (cell_of m)))) (refused_count x t c k all) Row.Rests) (cell_at m o.ours) (cell_at m o.ours)
  met_row (Row.CountLoads m k all) o w sees there meets = counter_at_it m k o w
  met_row (Row.Counts m k all n) o w sees there meets = counter_at_it m k o w
  met_row (Row.AllMarks m k n) o w sees there meets = cell_at m o.ours
  met_row (Row.AllMoves m k n) o w sees there meets = counter_at_it m k o w
  met_row (Row.Unsets m k n) o w sees there meets = counter_at_it m k o w
  met_row r o w sees there meets = absurd meets

module _ (g : Late) (h : Holds g) (t : ℕ) (c : Choice) (pos : 1 ≤ t) (known : t ≤ g.layer.machine.layout.threads) where
  found : (p : ℕ) → ((k : ℕ) × ((k < g.layer.machine.layout.mutexes) × (p ≡ cell_place g.layer.machine.layout k))) ⊎ IsOwnHere g.layer.machine t p → found_by g t p ≡ shown g.layer p
  found p (inl (k, (inside, there))) = ap (found_by g t) there ∙ (finds_same g h).cells t k inside ∙ ap (shown g.layer) (sym there)
  found p (inr mine) = (finds_same g h).own t p pos known mine

  pub finds_it : is_alive (g.layer.machine.threads t).stage ≡ true → FindsItsWord (g.layer.rows t) → FindsIt g t (made g.layer t c (g.layer.rows t)).access
  finds_it lives meets = found (place_met g.layer.machine.layout t (made g.layer t c (g.layer.rows t)).access)
      (met_row g.layer t c h.steady pos known (g.layer.rows t) (h.steady.fits t pos known) (h.steady.owning t pos known) (h.steady.sees t pos known) (h.steady.there t pos known lives) meets)

pub find_the_same : AccessesFindTheSame
find_the_same l ms t c is first last trusted lives meets = finds_it (late_from (begin_late l) ms) (late_holds l ms is trusted) t c first last lives meets
