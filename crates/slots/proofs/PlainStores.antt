-- How each access is made, and which words plain stores change.
use Rattle.condvar.specs.Standings.{CondWhole}
use Rattle.condvar.specs.Whole.{cond_access}
use Rattle.condvar.specs.declared.op.Op.TheVariants.{OnMutex}
use Rattle.condvar.specs.declared.phase.CondPhase.{CondPhase}
use Rattle.lockword.specs.Cells.{fields_of}
use Rattle.lockword.specs.declared.reply.Reply.TheVariants.{EBUSY, ENOTRECOVERABLE}
use Rattle.memorymap.specs.Layouts.{Layout', address_in, cell_place, counter_place, head_place}
use Rattle.mutex.specs.Rows.{acquired}
use Rattle.mutex.specs.Standings.{Whole}
use Rattle.mutex.specs.Whole.{whole_access}
use Rattle.mutex.specs.declared.call.Call.TheVariants.{Consistent, TimedLock, TryLock, Unlock}
use Rattle.mutex.specs.declared.phase.Phase.TheVariants.{Linking, Unlinking}
use Rattle.mutex.specs.declared.phase.Phase.{Phase}
use Rattle.protocol.specs.declared.event.Event.TheVariants.{Begin, Expire, Remake, Spare, Step}
use Rattle.protocol.specs.declared.event.LeftTo.TheVariants as left_to
use Rattle.protocol.specs.declared.thread.Stage.{Stage}
use Rattle.robustlist.specs.Link.{link_access}
use Rattle.robustlist.specs.Standings.{LinkStanding, UnlinkStanding}
use Rattle.robustlist.specs.Unlink.{unlink_access}
use Rattle.robustlist.specs.declared.link.LinkRow.{LinkRow}
use Rattle.robustlist.specs.declared.unlink.UnlinkRow.{UnlinkRow}
use Rattle.slots.specs.Places.{cell_of, slot_of}
use Rattle.slots.specs.Rows.Before.{Again}
use Rattle.slots.specs.Rows.Giving.{OfUnlock, OfWait}
use Rattle.slots.specs.Rows.How.{Tried, Later, Waited}
use Rattle.slots.specs.Rows.Onward.{Fails}
use Rattle.slots.specs.Rows.{Choice, How, Row, Taking}
use Rattle.slots.specs.Shown.{Slots, shown}
use Rattle.slots.specs.Stands.{StandsAs}
use Rattle.slots.specs.Stores.Manner.{Loads, Stores, Locks, Asks, Along}
use Rattle.slots.specs.Stores.{AccessesAreMadeSo, IsMadeSo, Manner, manner}
use Rattle.slots.specs.Words.{is_free, shows_heir, taken_word, waiting_word}
use Rattle.slots.specs.Seen.{begins_behind, heir_of, later, seen_events, seen_row, sets_and_expires}
use Rattle.slots.specs.Table.{Made, access_of_stage, counted, made, given_row, makes, marked_events, marked_row, missed, on_cell, out_of, refused_count, shows_slept, wait_begins, watched_row}
use Rattle.std.proofs.Common.{◌≡◌, inl, inr, ℕ, ◌+◌, ◌/◌, ◌%◌, ◌==◌, Bool, true, false, [], ◌∷◌, sym, subst, arith, ◌++◌}
use Rattle.std.specs.Prelude.{if◌then◌else◌, ◌&&◌, ◌-◌}
use Rattle.stepprograms.specs.declared.access.Access.{Access}

link_so : (h e : ℕ) (r : LinkRow) → IsMadeSo Along (link_access h e r)
link_so h e r = grind (arith)

unlink_so : (h e : ℕ) (r : UnlinkRow) → IsMadeSo Along (unlink_access h e r)
unlink_so h e r = grind (arith)

module _ (x : Slots) (t : ℕ) (c : Choice) where
  abbrev So : Row → Type 0
  So r = IsMadeSo (manner r) (made x t c r).access

  -- along the list
  abbrev AlongAt : Stage → Type 0
  AlongAt g = IsMadeSo Along (access_of_stage g (address_in x.machine.layout t (head_place t)))

  at_stage : (g : Stage) → (x.machine.threads t).stage ≡ g → AlongAt g → AlongAt (x.machine.threads t).stage
  at_stage g is so = subst AlongAt (sym is) so

  whole_link : (p : Whole) (u : LinkStanding) (r : _) → p.phase ≡ Linking u r → IsMadeSo Along (whole_access p)
  whole_link p u r is = subst (λ (f : Phase). IsMadeSo Along (whole_access (record p { phase = f }))) (sym is) (link_so u.head u.entry u.row)

  whole_unlink : (p : Whole) (u : UnlinkStanding) (d : Bool) → p.phase ≡ Unlinking u d → IsMadeSo Along (whole_access p)
  whole_unlink p u d is = subst (λ (f : Phase). IsMadeSo Along (whole_access (record p { phase = f }))) (sym is) (unlink_so u.head u.entry u.row)

  cond_unlink : (p : CondWhole) (u : UnlinkStanding) (n : ℕ) → p.phase ≡ CondPhase.Unlinking u n → IsMadeSo Along (cond_access p)
  cond_unlink p u n is = subst (λ (f : CondPhase). IsMadeSo Along (cond_access (record p { phase = f }))) (sym is) (unlink_so u.head u.entry u.row)

  two : (m : Manner) (b : Bool) (n o : Made) → IsMadeSo m n.access → IsMadeSo m o.access → IsMadeSo m (if b then n else o).access
  two m true n o first second = first
  two m false n o first second = second

  abbrev l : Layout'
  l = x.machine.layout

  abbrev word : ℕ → ℕ
  word k = shown x (cell_place l k)

  missed_so : (a : Access) (k : Taking) (h : How) (w : ℕ) → IsMadeSo Locks a → IsMadeSo Locks (missed x t c a k h w).access
  missed_so a k Tried w away = away
  missed_so a k Later w away = away
  missed_so a k (Waited z) w away = away

  sleep_so : (k : Taking) (h : How) (v w : ℕ) → IsMadeSo Asks (on_cell x t c k h v w).access
  sleep_so k (Waited z) v w = tt
  sleep_so k Tried v w = two Asks (w % 4294967296 == v % 4294967296) (makes (Access.Wait (address_in l t (cell_place l (cell_of k.mutex))) (v % 4294967296)) (begins_behind t (TimedLock (cell_of k.mutex)) ++ Step t ∷ Step t ∷ []) (Row.Asleep (later k))) (makes (Access.Wait (address_in l t (cell_place l (cell_of k.mutex))) (v % 4294967296)) (begins_behind t (TimedLock (cell_of k.mutex))) (Row.Asleep (later k))) tt tt
  sleep_so k Later v w = two Asks (w % 4294967296 == v % 4294967296) (makes (Access.Wait (address_in l t (cell_place l (cell_of k.mutex))) (v % 4294967296)) (begins_behind t (TimedLock (cell_of k.mutex)) ++ Step t ∷ Step t ∷ []) (Row.Asleep (later k))) (makes (Access.Wait (address_in l t (cell_place l (cell_of k.mutex))) (v % 4294967296)) (begins_behind t (TimedLock (cell_of k.mutex))) (Row.Asleep (later k))) tt tt

  last_so : (k : Taking) (w at : ℕ) (a b d : Bool) → IsMadeSo Loads (
      if a then makes (Access.Load at) (Step t ∷ []) (if d then Row.HeirWakes k else Row.Frees k (Fails ENOTRECOVERABLE))
      else if b then makes (Access.Load at) [] (Row.HeirPends k Again)
      else if d then makes (Access.Load at) (Step t ∷ (Step t ∷ (Expire t ∷ []))) (out_of x t c k)
      else makes (Access.Load at) [] (Row.LastMarks k w)
      ).access
  last_so k w at true b d = tt
  last_so k w at false true d = tt
  last_so k w at false false true = tt
  last_so k w at false false false = tt

  counts_so : (at v : ℕ) (b : Bool) → IsMadeSo (if b then Locks else Stores) (Access.Store at v)
  counts_so at v true = tt
  counts_so at v false = tt

  pub made_so : (r : Row) → StandsAs r (x.machine.threads t).stage → So r
  made_so (Row.SleepsOn k v) there = sleep_so k k.how v (word (cell_of k.mutex))
  made_so (Row.Links m r) (u, inl (p, is, phase)) = at_stage _ is (whole_link p u r phase)
  made_so (Row.Links m r) (u, inr (inl (p, is, phase))) = at_stage _ is (whole_link p u r phase)
  made_so (Row.Links m r) (u, inr (inr (z, (d, p, is, of, acts, phase)))) = at_stage _ is (whole_link p u r phase)
  made_so (Row.SlotLinks k d) (u, (p, is, phase)) = at_stage _ is (whole_link p u _ phase)
  made_so (Row.HeirLinks k r) (u, (p, is, phase)) = at_stage _ is (whole_link p u r phase)
  made_so (Row.FreeUnlinks k f) (u, (p, is, phase)) = at_stage _ is (whole_unlink p u false phase)
  made_so (Row.GiveUnlinks m (OfUnlock d)) (u, (p, is, phase)) = at_stage _ is (whole_unlink p u d phase)
  made_so (Row.GiveUnlinks m (OfWait k n slept timed)) (p, u, is, phase) = at_stage _ is (cond_unlink p u n phase)
  made_so (Row.LastLooks k) there = last_so k (word (cell_of k.mutex)) (address_in l t (cell_place l (cell_of k.mutex))) (fields_of (word (cell_of k.mutex))).unusable ((fields_of (word (cell_of k.mutex))).owner == 0) (fields_of (word (cell_of k.mutex))).waiters
  made_so (Row.Counts m k all n) there = counts_so (address_in l t (counter_place l k)) (counted x t c n) (n / 4294967296 == 1)
  made_so (Row.HandsOn m y is) there = two Loads (shows_heir (word (slot_of m)) && c.yes) (makes (Access.Load (address_in l t (cell_place l (slot_of m)))) (Spare t (heir_of x.machine t (cell_of m)) ∷ []) (given_row x t c m y)) (makes (Access.Load (address_in l t (cell_place l (slot_of m)))) [] (Row.LooksBack m y is)) tt tt
  made_so (Row.LooksBack m y is) there = two Loads ((fields_of (word (cell_of m))).owner == 0) (makes (Access.Load (address_in l t (cell_place l (cell_of m)))) [] (Row.WakesOne m y is)) (makes (Access.Load (address_in l t (cell_place l (cell_of m)))) (Spare t left_to.Owner ∷ []) (given_row x t c m y)) tt tt
  made_so (Row.Looks k) there = two Loads ((fields_of (word (cell_of k.mutex))).owner == t) (makes (Access.Load (address_in l t (cell_place l (cell_of k.mutex)))) (Begin t (OnMutex (TimedLock (cell_of k.mutex))) ∷ Step t ∷ Step t ∷ Step t ∷ []) Row.Rests) (makes (Access.Load (address_in l t (cell_place l (cell_of k.mutex)))) [] (Row.Pends k (word (cell_of k.mutex)))) tt tt
  made_so (Row.Takes k v) there = two Locks (word (cell_of k.mutex) == v) (makes (Access.Exchange (address_in l t (cell_place l (cell_of k.mutex))) v (taken_word v t)) (Step t ∷ Step t ∷ []) (Row.Links k.mutex (acquired (fields_of v)))) (makes (Access.Exchange (address_in l t (cell_place l (cell_of k.mutex))) v (taken_word v t)) (seen_events t k.mutex k.how (word (cell_of k.mutex))) (seen_row t k (word (cell_of k.mutex)))) tt tt
  made_so (Row.Marks k v n) there = two Locks (word (cell_of k.mutex) == v) (makes (Access.Exchange (address_in l t (cell_place l (cell_of k.mutex))) v (waiting_word v)) (marked_events x t c k k.how) (marked_row x t c k k.how v n)) (missed x t c (Access.Exchange (address_in l t (cell_place l (cell_of k.mutex))) v (waiting_word v)) k k.how (word (cell_of k.mutex))) tt (missed_so (Access.Exchange (address_in l t (cell_place l (cell_of k.mutex))) v (waiting_word v)) k k.how (word (cell_of k.mutex)) tt)
  made_so (Row.SlotTakes k sl) there = two Locks (word (slot_of k.mutex) == sl) (makes (Access.Exchange (address_in l t (cell_place l (slot_of k.mutex))) sl (taken_word sl t)) (Step t ∷ Step t ∷ []) (Row.SlotLinks k (fields_of sl).died)) (if (fields_of (word (slot_of k.mutex))).owner == 0 then makes (Access.Exchange (address_in l t (cell_place l (slot_of k.mutex))) sl (taken_word sl t)) [] (Row.SlotTakes k (word (slot_of k.mutex))) else makes (Access.Exchange (address_in l t (cell_place l (slot_of k.mutex))) sl (taken_word sl t)) (Step t ∷ []) (Row.SlotLeft k)) tt (two Locks ((fields_of (word (slot_of k.mutex))).owner == 0) (makes (Access.Exchange (address_in l t (cell_place l (slot_of k.mutex))) sl (taken_word sl t)) [] (Row.SlotTakes k (word (slot_of k.mutex)))) (makes (Access.Exchange (address_in l t (cell_place l (slot_of k.mutex))) sl (taken_word sl t)) (Step t ∷ []) (Row.SlotLeft k)) tt tt)
  made_so (Row.HeirTakes k v) there = two Locks (word (cell_of k.mutex) == v) (makes (Access.Exchange (address_in l t (cell_place l (cell_of k.mutex))) v (taken_word v t)) (Step t ∷ Step t ∷ []) (Row.HeirHas k (acquired (fields_of v)))) (makes (Access.Exchange (address_in l t (cell_place l (cell_of k.mutex))) v (taken_word v t)) [] (watched_row x t c k (word (cell_of k.mutex)) true)) tt tt
  made_so (Row.LastMarks k v) there = two Locks (word (cell_of k.mutex) == v) (makes (Access.Exchange (address_in l t (cell_place l (cell_of k.mutex))) v (waiting_word v)) (sets_and_expires t) (out_of x t c k)) (makes (Access.Exchange (address_in l t (cell_place l (cell_of k.mutex))) v (waiting_word v)) [] (Row.HeirPends k Again)) tt tt
  made_so (Row.TryLooks m) there = two Loads (is_free (word (cell_of m))) (makes (Access.Load (address_in l t (cell_place l (cell_of m)))) [] (Row.TryPends m (word (cell_of m)))) (makes (Access.Load (address_in l t (cell_place l (cell_of m)))) (Begin t (OnMutex (TryLock (cell_of m))) ∷ Step t ∷ Step t ∷ Step t ∷ []) Row.Rests) tt tt
  made_so (Row.TryTakes m v) there = two Locks (word (cell_of m) == v) (makes (Access.Exchange (address_in l t (cell_place l (cell_of m))) v (taken_word v t)) (Step t ∷ Step t ∷ []) (Row.Links m (acquired (fields_of v)))) (if is_free (word (cell_of m)) then makes (Access.Exchange (address_in l t (cell_place l (cell_of m))) v (taken_word v t)) [] (Row.TryTakes m (word (cell_of m))) else makes (Access.Exchange (address_in l t (cell_place l (cell_of m))) v (taken_word v t)) (Step t ∷ []) (Row.Clears m (if (fields_of (word (cell_of m))).unusable then ENOTRECOVERABLE else EBUSY))) tt (two Locks (is_free (word (cell_of m))) (makes (Access.Exchange (address_in l t (cell_place l (cell_of m))) v (taken_word v t)) [] (Row.TryTakes m (word (cell_of m)))) (makes (Access.Exchange (address_in l t (cell_place l (cell_of m))) v (taken_word v t)) (Step t ∷ []) (Row.Clears m (if (fields_of (word (cell_of m))).unusable then ENOTRECOVERABLE else EBUSY))) tt tt)
  made_so (Row.GiveLooks m) there = two Loads ((fields_of (word (cell_of m))).owner == t) (makes (Access.Load (address_in l t (cell_place l (cell_of m)))) [] (Row.GivePends m (OfUnlock (fields_of (word (cell_of m))).died))) (makes (Access.Load (address_in l t (cell_place l (cell_of m)))) (Begin t (OnMutex (Unlock (cell_of m))) ∷ Step t ∷ []) Row.Rests) tt tt
  made_so (Row.MendLooks m) there = two Loads (((fields_of (word (cell_of m))).owner == t) && (fields_of (word (cell_of m))).died) (makes (Access.Load (address_in l t (cell_place l (cell_of m)))) [] (Row.Mends m)) (makes (Access.Load (address_in l t (cell_place l (cell_of m)))) (Begin t (OnMutex (Consistent (cell_of m))) ∷ Step t ∷ []) Row.Rests) tt tt
  made_so (Row.Anews m v) there = two Locks (word (cell_of m) == v) (makes (Access.Exchange (address_in l t (cell_place l (cell_of m))) v (v - 4294967296 + 8589934592)) (Remake t (cell_of m) ∷ []) Row.Rests) (makes (Access.Exchange (address_in l t (cell_place l (cell_of m))) v (v - 4294967296 + 8589934592)) [] (if (fields_of (word (cell_of m))).unusable then Row.Anews m (word (cell_of m)) else Row.Rests)) tt tt
  made_so (Row.WaitLooks m k timed) there = two Loads ((fields_of (word (cell_of m))).owner == t) (makes (Access.Load (address_in l t (cell_place l (cell_of m)))) [] (Row.WaitCounts m k timed (fields_of (word (cell_of m))).died)) (makes (Access.Load (address_in l t (cell_place l (cell_of m)))) (wait_begins x t c k timed) Row.Rests) tt tt
  made_so (Row.WaitCounts m k timed died) there = two Loads died (makes (Access.Load (address_in l t (counter_place l k))) (wait_begins x t c k timed) Row.Rests) (makes (Access.Load (address_in l t (counter_place l k))) [] (Row.GivePends m (OfWait k (shown x (counter_place l k) % 4294967296) (shows_slept x t c (shown x (counter_place l k))) timed))) tt tt
  made_so (Row.CountLooks m k all) there = two Loads ((fields_of (word (cell_of m))).owner == t) (makes (Access.Load (address_in l t (cell_place l (cell_of m)))) [] (Row.CountLoads m k all)) (makes (Access.Load (address_in l t (cell_place l (cell_of m)))) (refused_count x t c k all) Row.Rests) tt tt
  made_so r there = tt

pub accesses_made_so : AccessesAreMadeSo
accesses_made_so x t c at = made_so x t c (x.rows t) at.there
