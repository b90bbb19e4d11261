-- What a call has seen of its counter, from row to row.
use Rattle.std.proofs.Common.{ℕ, ◌+◌, ◌%◌, ◌==◌, Bool, true, false, [], ◌∷◌, ◌++◌}
use Rattle.std.specs.Prelude.{if◌then◌else◌, not, ◌&&◌, ◌||◌, ◌-◌}
use Rattle.lockword.specs.Cells.{fields_of}
use Rattle.lockword.specs.declared.reply.Reply.TheVariants.{OK, EBUSY, EDEADLK, EINVAL, ETIMEDOUT, ENOTRECOVERABLE}
use Rattle.stepprograms.specs.declared.access.Access.{Access}
use Rattle.stepprograms.specs.Accesses.{is_nobody}
use Rattle.memorymap.specs.Layouts.{Layout', address_in, cell_place}
use Rattle.mutex.specs.Rows.{acquired}
use Rattle.mutex.specs.declared.call.Call.TheVariants.{Consistent, TimedLock, TryLock, Unlock}
use Rattle.condvar.specs.declared.op.Op.TheVariants.{OnMutex}
use Rattle.protocol.specs.declared.event.Event.TheVariants.{Begin, Expire, Remake, Spare, Step}
use Rattle.protocol.specs.declared.event.LeftTo.TheVariants as left_to
use Rattle.protocol.specs.Machine.{run}
use Rattle.slots.specs.Places.{cell_of, slot_of}
use Rattle.slots.specs.Rows.{Choice, Giving, How, Onward, Row, Taking, Then}
use Rattle.slots.specs.Rows.How.{Tried, Later, Waited}
use Rattle.slots.specs.Rows.Before.{Linked, Again}
use Rattle.slots.specs.Rows.Giving.{OfUnlock, OfWait}
use Rattle.slots.specs.Rows.Onward.{Has, Fails, Sleeps}
use Rattle.slots.specs.Rows.Then.{ToSleep, ToSlot}
use Rattle.slots.specs.Shown.{Slots, shown}
use Rattle.slots.specs.Words.{is_free, is_moving}
use Rattle.slots.specs.Seen.{begins_behind, heir_of, later, owned_row}
use Rattle.slots.specs.Table.{Made, freed_row, given_row, is_on_list, made, makes, marked_events, marked_row, missed, on_cell, out_of}
use Rattle.slots.specs.Words.{shows_heir, taken_word, waiting_word}
use Rattle.slots.specs.Seen.{seen_events, seen_row, seen_to_sleep, sets_and_expires, sleep_row}
use Rattle.slots.specs.Table.{refused_count, released, to_slot, tries, wait_begins, watched_row, woke_row}
use Rattle.slots.specs.Premises.{SeesCount}

module _ (x y : Slots) (t : ℕ) (c : Choice) where
  abbrev l : Layout'
  l = x.machine.layout

  abbrev word : ℕ → ℕ
  word k = shown x (cell_place l k)

  abbrev Knows : Row → Type 0
  Knows r = SeesCount y r

  either : (b : Bool) (r s : Row) → Knows r → Knows s → Knows (if b then r else s)
  either true r s first second = first
  either false r s first second = second

  made_either : (b : Bool) (n o : Made) → Knows n.next → Knows o.next → Knows (if b then n else o).next
  made_either true n o first second = first
  made_either false n o first second = second

  lost : (m : ℕ) (b : Bool) → Knows (if b then Row.WakesAll m ENOTRECOVERABLE else Row.Clears m ENOTRECOVERABLE)
  lost m true = tt
  lost m false = tt

  owned : (k : Taking) (h : How) (w : ℕ) → Knows (owned_row k h w)
  owned k Tried w = either k.wrong (Row.Clears k.mutex EINVAL) (Row.Chooses k w) tt tt
  owned k Later w = tt
  owned k (Waited z) w = tt

  seen : (k : Taking) (w : ℕ) → Knows (seen_row t k w)
  seen k w = go (fields_of w).unusable ((fields_of w).owner == 0) ((fields_of w).owner == t)
    where
      go : (a b d : Bool) → Knows (if a then (if (fields_of w).waiters then Row.WakesAll k.mutex ENOTRECOVERABLE else Row.Clears k.mutex ENOTRECOVERABLE) else if b then Row.Takes k w else if d then Row.Clears k.mutex EDEADLK else owned_row k k.how w)
      go true b d = lost k.mutex (fields_of w).waiters
      go false true d = tt
      go false false true = tt
      go false false false = owned k k.how w

  sleep : (k : Taking) (w : ℕ) → Knows (sleep_row k w)
  sleep k w = either (fields_of w).waiters (Row.SleepsOn k w) (Row.Marks k w ToSleep) tt tt

  to_sleep : (k : Taking) (w : ℕ) → Knows (seen_to_sleep k w)
  to_sleep k w = go (fields_of w).unusable ((fields_of w).owner == 0)
    where
      go : (a b : Bool) → Knows (if a then (if (fields_of w).waiters then Row.WakesAll k.mutex ENOTRECOVERABLE else Row.Clears k.mutex ENOTRECOVERABLE) else if b then Row.Takes k w else sleep_row k w)
      go true b = lost k.mutex (fields_of w).waiters
      go false true = tt
      go false false = sleep k w

  to_the_slot : (k : Taking) (h : How) (v sl : ℕ) → Knows (to_slot x t c k h v sl)
  to_the_slot k Tried v sl = tt
  to_the_slot k Later v sl = either (fields_of v).waiters (Row.SlotPends k sl) (Row.Marks k v (ToSlot sl)) tt tt
  to_the_slot k (Waited z) v sl = either (fields_of v).waiters (Row.SlotPends k sl) (Row.Marks k v (ToSlot sl)) tt tt

  watched : (k : Taking) (v : ℕ) (over : Bool) → Knows (watched_row x t c k v over)
  watched k v over = either (over && is_free v) (Row.HeirTakes k v) (if over && not (fields_of v).unusable && not (k.timed && c.yes) then Row.HeirPends k Again else Row.GivesUp k) tt (either (over && not (fields_of v).unusable && not (k.timed && c.yes)) (Row.HeirPends k Again) (Row.GivesUp k) tt tt)

  out : (k : Taking) → Knows (out_of x t c k)
  out k = either (k.timed && c.yes) (Row.Frees k (Fails ETIMEDOUT)) (Row.Frees k Sleeps) tt tt

  missed_so : (a : Access) (k : Taking) (h : How) (w : ℕ) → Knows (missed x t c a k h w).next
  missed_so a k Tried w = seen (later k) w
  missed_so a k Later w = seen k w
  missed_so a k (Waited z) w = seen k w

  marked_so : (k : Taking) (h : How) (v : ℕ) (n : Then) → Knows (marked_row x t c k h v n)
  marked_so k h v (ToSlot sl) = tt
  marked_so k (Waited z) v ToSleep = tt
  marked_so k Tried v ToSleep = tt
  marked_so k Later v ToSleep = tt

  asleep_so : (k : Taking) (h : How) (v w : ℕ) → Knows (on_cell x t c k h v w).next
  asleep_so k (Waited z) v w = tt
  asleep_so k Tried v w = made_either (w % 4294967296 == v % 4294967296) (makes (Access.Wait (address_in l t (cell_place l (cell_of k.mutex))) (v % 4294967296)) (begins_behind t (TimedLock (cell_of k.mutex)) ++ Step t ∷ Step t ∷ []) (Row.Asleep (later k))) (makes (Access.Wait (address_in l t (cell_place l (cell_of k.mutex))) (v % 4294967296)) (begins_behind t (TimedLock (cell_of k.mutex))) (Row.Asleep (later k))) tt tt
  asleep_so k Later v w = made_either (w % 4294967296 == v % 4294967296) (makes (Access.Wait (address_in l t (cell_place l (cell_of k.mutex))) (v % 4294967296)) (begins_behind t (TimedLock (cell_of k.mutex)) ++ Step t ∷ Step t ∷ []) (Row.Asleep (later k))) (makes (Access.Wait (address_in l t (cell_place l (cell_of k.mutex))) (v % 4294967296)) (begins_behind t (TimedLock (cell_of k.mutex))) (Row.Asleep (later k))) tt tt

  given : (m : ℕ) (g : Giving) → Knows (given_row x t c m g)
  given m (OfUnlock d) = tt
  given m (OfWait k n slept timed) = tt

  freed : (k : Taking) (f : Onward) → Knows (freed_row x t c k f)
  freed k (Has r) = tt
  freed k (Fails r) = tt
  freed k Sleeps = tt

  along : (here behind : Row) → Knows here → Knows behind → Knows (if is_on_list ((run x.machine (Step t ∷ [])).threads t).stage then here else behind)
  along here behind now then_on = either (is_on_list ((run x.machine (Step t ∷ [])).threads t).stage) here behind now then_on

  last : (k : Taking) (w : ℕ) (look : Access) (a b d : Bool) → Knows (
      if a then makes look (Step t ∷ []) (if d then Row.HeirWakes k else Row.Frees k (Fails ENOTRECOVERABLE))
      else if b then makes look [] (Row.HeirPends k Again)
      else if d then makes look (Step t ∷ (Step t ∷ (Expire t ∷ []))) (out_of x t c k)
      else makes look [] (Row.LastMarks k w)
      ).next
  last k w look true b true = tt
  last k w look true b false = tt
  last k w look false true d = tt
  last k w look false false true = out k
  last k w look false false false = tt

  given_so : (m : ℕ) (g : Giving) (n : ℕ) → Knows (if c.yes then Row.WakesOne m g n else Row.HandsOn m g n)
  given_so m g n = either c.yes (Row.WakesOne m g n) (Row.HandsOn m g n) tt tt

  released_so : (m : ℕ) (g : Giving) (w : ℕ) → Knows (released x t c m g w)
  released_so m (OfUnlock true) w = either (fields_of w).waiters (Row.WakesAll m OK) (Row.Clears m OK) tt tt
  released_so m (OfUnlock false) w = either (fields_of w).waiters (if c.yes then Row.WakesOne m (OfUnlock false) (w - t) else Row.HandsOn m (OfUnlock false) (w - t)) (Row.Clears m OK) (given_so m (OfUnlock false) (w - t)) tt
  released_so m (OfWait k n slept timed) w = either (fields_of w).waiters (if c.yes then Row.WakesOne m (OfWait k n slept timed) (w - t) else Row.HandsOn m (OfWait k n slept timed) (w - t)) (Row.WaitSleeps m k n timed) (given_so m (OfWait k n slept timed) (w - t)) tt

  woke_so : (m : ℕ) (g : Giving) (n : ℕ) → Knows (woke_row x t c m g n)
  woke_so m (OfUnlock d) n = either (is_nobody (x.machine.queues (cell_place l (cell_of m)))) (Row.Trims m n) (Row.Clears m OK) tt tt
  woke_so m (OfWait k i slept timed) n = tt

  -- what these rows need: they are about the counter
  abbrev pub Needs : Row → Type 0
  Needs (Row.WaitCounts m k timed died) = Knows (made x t c (Row.WaitCounts m k timed died)).next
  Needs (Row.GivePends m y) = Knows (made x t c (Row.GivePends m y)).next
  Needs (Row.GiveUnlinks m y) = Knows (made x t c (Row.GiveUnlinks m y)).next
  Needs (Row.GiveFinds m y) = Knows (made x t c (Row.GiveFinds m y)).next
  Needs (Row.WaitSets m k n timed) = Knows (made x t c (Row.WaitSets m k n timed)).next
  Needs (Row.CountLoads m k all) = Knows (made x t c (Row.CountLoads m k all)).next
  Needs (Row.Counts m k all n) = Knows (made x t c (Row.Counts m k all n)).next
  Needs (Row.CountWakes m k n) = Knows (made x t c (Row.CountWakes m k n)).next
  Needs (Row.AllMarks m k n) = Knows (made x t c (Row.AllMarks m k n)).next
  Needs (Row.AllMoves m k n) = Knows (made x t c (Row.AllMoves m k n)).next
  Needs r = Unit {0}

  pub count_row : (r : Row) → Needs r → Knows (made x t c r).next
  count_row (Row.HandsOn m y is) needs = made_either (shows_heir (word (slot_of m)) && c.yes) (makes (Access.Load (address_in l t (cell_place l (slot_of m)))) (Spare t (heir_of x.machine t (cell_of m)) ∷ []) (given_row x t c m y)) (makes (Access.Load (address_in l t (cell_place l (slot_of m)))) [] (Row.LooksBack m y is)) (given m y) tt
  count_row (Row.LooksBack m y is) needs = made_either ((fields_of (word (cell_of m))).owner == 0) (makes (Access.Load (address_in l t (cell_place l (cell_of m)))) [] (Row.WakesOne m y is)) (makes (Access.Load (address_in l t (cell_place l (cell_of m)))) (Spare t left_to.Owner ∷ []) (given_row x t c m y)) tt (given m y)
  count_row (Row.WaitCounts m k timed died) needs = needs
  count_row (Row.GivePends m y) needs = needs
  count_row (Row.GiveUnlinks m y) needs = needs
  count_row (Row.CountLoads m k all) needs = needs
  count_row (Row.Counts m k all n) needs = needs
  count_row (Row.CountWakes m k n) needs = needs
  count_row (Row.AllMarks m k n) needs = needs
  count_row (Row.AllMoves m k n) needs = needs
  count_row (Row.Gives m y) needs = released_so m y (word (cell_of m))
  count_row (Row.WakesOne m y n) needs = woke_so m y n
  count_row (Row.Looks k) needs = made_either ((fields_of (word (cell_of k.mutex))).owner == t) (makes (Access.Load (address_in l t (cell_place l (cell_of k.mutex)))) (Begin t (OnMutex (TimedLock (cell_of k.mutex))) ∷ Step t ∷ Step t ∷ Step t ∷ []) Row.Rests) (makes (Access.Load (address_in l t (cell_place l (cell_of k.mutex)))) [] (Row.Pends k (word (cell_of k.mutex)))) tt tt
  count_row (Row.Pends k v) needs = either (is_free v) (Row.Takes k v) (Row.Sees k) tt tt
  count_row (Row.Sees k) needs = seen k (word (cell_of k.mutex))
  count_row (Row.Takes k v) needs = made_either (word (cell_of k.mutex) == v) (makes (Access.Exchange (address_in l t (cell_place l (cell_of k.mutex))) v (taken_word v t)) (Step t ∷ Step t ∷ []) (Row.Links k.mutex (acquired (fields_of v)))) (makes (Access.Exchange (address_in l t (cell_place l (cell_of k.mutex))) v (taken_word v t)) (seen_events t k.mutex k.how (word (cell_of k.mutex))) (seen_row t k (word (cell_of k.mutex)))) tt (seen k (word (cell_of k.mutex)))
  count_row (Row.Links m r) needs = along (Row.Links m r) (Row.Clears m r) tt tt
  count_row (Row.Chooses k v) needs = either (tries x t c k.how && is_moving sl && c.again) (Row.SeesAgain k v) (if tries x t c k.how && ((fields_of sl).owner == 0) && c.yes then to_slot x t c k k.how v sl else sleep_row k v) tt (either (tries x t c k.how && ((fields_of sl).owner == 0) && c.yes) (to_slot x t c k k.how v sl) (sleep_row k v) (to_the_slot k k.how v sl) (sleep k v))
    where
      sl : ℕ
      sl = word (slot_of k.mutex)
  count_row (Row.SeesAgain k v) needs = seen k (word (cell_of k.mutex))
  count_row (Row.Marks k v n) needs = made_either (word (cell_of k.mutex) == v) (makes (Access.Exchange (address_in l t (cell_place l (cell_of k.mutex))) v (waiting_word v)) (marked_events x t c k k.how) (marked_row x t c k k.how v n)) (missed x t c (Access.Exchange (address_in l t (cell_place l (cell_of k.mutex))) v (waiting_word v)) k k.how (word (cell_of k.mutex))) (marked_so k k.how v n) (missed_so (Access.Exchange (address_in l t (cell_place l (cell_of k.mutex))) v (waiting_word v)) k k.how (word (cell_of k.mutex)))
  count_row (Row.SleepsOn k v) needs = asleep_so k k.how v (word (cell_of k.mutex))
  count_row (Row.SlotTakes k sl) needs = made_either (word (slot_of k.mutex) == sl) (makes (Access.Exchange (address_in l t (cell_place l (slot_of k.mutex))) sl (taken_word sl t)) (Step t ∷ Step t ∷ []) (Row.SlotLinks k (fields_of sl).died)) (if (fields_of (word (slot_of k.mutex))).owner == 0 then makes (Access.Exchange (address_in l t (cell_place l (slot_of k.mutex))) sl (taken_word sl t)) [] (Row.SlotTakes k (word (slot_of k.mutex))) else makes (Access.Exchange (address_in l t (cell_place l (slot_of k.mutex))) sl (taken_word sl t)) (Step t ∷ []) (Row.SlotLeft k)) tt
      (made_either ((fields_of (word (slot_of k.mutex))).owner == 0) (makes (Access.Exchange (address_in l t (cell_place l (slot_of k.mutex))) sl (taken_word sl t)) [] (Row.SlotTakes k (word (slot_of k.mutex)))) (makes (Access.Exchange (address_in l t (cell_place l (slot_of k.mutex))) sl (taken_word sl t)) (Step t ∷ []) (Row.SlotLeft k)) tt tt)
  count_row (Row.SeesToSleep k) needs = to_sleep k (word (cell_of k.mutex))
  count_row (Row.SlotLinks k d) needs = along (Row.SlotLinks k d) (if d then Row.SlotClears k else Row.HeirPends k Linked) tt (either d (Row.SlotClears k) (Row.HeirPends k Linked) tt tt)
  count_row (Row.HeirLooks k) needs = either ((fields_of (word (cell_of k.mutex))).unusable || (is_free (word (cell_of k.mutex)) && c.yes)) (Row.HeirPendsOn k (word (cell_of k.mutex)) true) (if c.again then Row.HeirPends k Again else Row.HeirPendsOn k (word (cell_of k.mutex)) false) tt (either c.again (Row.HeirPends k Again) (Row.HeirPendsOn k (word (cell_of k.mutex)) false) tt tt)
  count_row (Row.HeirPendsOn k v over) needs = watched k v over
  count_row (Row.HeirTakes k v) needs = made_either (word (cell_of k.mutex) == v) (makes (Access.Exchange (address_in l t (cell_place l (cell_of k.mutex))) v (taken_word v t)) (Step t ∷ Step t ∷ []) (Row.HeirHas k (acquired (fields_of v)))) (makes (Access.Exchange (address_in l t (cell_place l (cell_of k.mutex))) v (taken_word v t)) [] (watched_row x t c k (word (cell_of k.mutex)) true)) tt (watched k (word (cell_of k.mutex)) true)
  count_row (Row.HeirLinks k r) needs = along (Row.HeirLinks k r) (Row.Frees k (Has r)) tt tt
  count_row (Row.LastLooks k) needs = last k (word (cell_of k.mutex)) (Access.Load (address_in l t (cell_place l (cell_of k.mutex)))) (fields_of (word (cell_of k.mutex))).unusable ((fields_of (word (cell_of k.mutex))).owner == 0) (fields_of (word (cell_of k.mutex))).waiters
  count_row (Row.LastMarks k v) needs = made_either (word (cell_of k.mutex) == v) (makes (Access.Exchange (address_in l t (cell_place l (cell_of k.mutex))) v (waiting_word v)) (sets_and_expires t) (out_of x t c k)) (makes (Access.Exchange (address_in l t (cell_place l (cell_of k.mutex))) v (waiting_word v)) [] (Row.HeirPends k Again)) (out k) tt
  count_row (Row.FreeUnlinks k f) needs = along (Row.FreeUnlinks k f) (Row.FreeGives k f) tt tt
  count_row (Row.FreeGives k f) needs = freed k f
  count_row (Row.TryLooks m) needs = made_either (is_free (word (cell_of m))) (makes (Access.Load (address_in l t (cell_place l (cell_of m)))) [] (Row.TryPends m (word (cell_of m)))) (makes (Access.Load (address_in l t (cell_place l (cell_of m)))) (Begin t (OnMutex (TryLock (cell_of m))) ∷ Step t ∷ Step t ∷ Step t ∷ []) Row.Rests) tt tt
  count_row (Row.TryTakes m v) needs = made_either (word (cell_of m) == v) (makes (Access.Exchange (address_in l t (cell_place l (cell_of m))) v (taken_word v t)) (Step t ∷ Step t ∷ []) (Row.Links m (acquired (fields_of v)))) (if is_free (word (cell_of m)) then makes (Access.Exchange (address_in l t (cell_place l (cell_of m))) v (taken_word v t)) [] (Row.TryTakes m (word (cell_of m))) else makes (Access.Exchange (address_in l t (cell_place l (cell_of m))) v (taken_word v t)) (Step t ∷ []) (Row.Clears m (if (fields_of (word (cell_of m))).unusable then ENOTRECOVERABLE else EBUSY))) tt
      (made_either (is_free (word (cell_of m))) (makes (Access.Exchange (address_in l t (cell_place l (cell_of m))) v (taken_word v t)) [] (Row.TryTakes m (word (cell_of m)))) (makes (Access.Exchange (address_in l t (cell_place l (cell_of m))) v (taken_word v t)) (Step t ∷ []) (Row.Clears m (if (fields_of (word (cell_of m))).unusable then ENOTRECOVERABLE else EBUSY))) tt tt)
  count_row (Row.GiveLooks m) needs = made_either ((fields_of (word (cell_of m))).owner == t) (makes (Access.Load (address_in l t (cell_place l (cell_of m)))) [] (Row.GivePends m (OfUnlock (fields_of (word (cell_of m))).died))) (makes (Access.Load (address_in l t (cell_place l (cell_of m)))) (Begin t (OnMutex (Unlock (cell_of m))) ∷ Step t ∷ []) Row.Rests) tt tt
  count_row (Row.GiveFinds m y) needs = needs
  count_row (Row.MendLooks m) needs = made_either (((fields_of (word (cell_of m))).owner == t) && (fields_of (word (cell_of m))).died) (makes (Access.Load (address_in l t (cell_place l (cell_of m)))) [] (Row.Mends m)) (makes (Access.Load (address_in l t (cell_place l (cell_of m)))) (Begin t (OnMutex (Consistent (cell_of m))) ∷ Step t ∷ []) Row.Rests) tt tt
  count_row (Row.AnewLooks m) needs = either (fields_of (word (cell_of m))).unusable (Row.Anews m (word (cell_of m))) Row.Rests tt tt
  count_row (Row.Anews m v) needs = made_either (word (cell_of m) == v) (makes (Access.Exchange (address_in l t (cell_place l (cell_of m))) v (v - 4294967296 + 8589934592)) (Remake t (cell_of m) ∷ []) Row.Rests) (makes (Access.Exchange (address_in l t (cell_place l (cell_of m))) v (v - 4294967296 + 8589934592)) [] (if (fields_of (word (cell_of m))).unusable then Row.Anews m (word (cell_of m)) else Row.Rests)) tt (either (fields_of (word (cell_of m))).unusable (Row.Anews m (word (cell_of m))) Row.Rests tt tt)
  count_row (Row.WaitLooks m k timed) needs = made_either ((fields_of (word (cell_of m))).owner == t) (makes (Access.Load (address_in l t (cell_place l (cell_of m)))) [] (Row.WaitCounts m k timed (fields_of (word (cell_of m))).died)) (makes (Access.Load (address_in l t (cell_place l (cell_of m)))) (wait_begins x t c k timed) Row.Rests) tt tt
  count_row (Row.WaitSets m k n timed) needs = needs
  count_row (Row.CountLooks m k all) needs = made_either ((fields_of (word (cell_of m))).owner == t) (makes (Access.Load (address_in l t (cell_place l (cell_of m)))) [] (Row.CountLoads m k all)) (makes (Access.Load (address_in l t (cell_place l (cell_of m)))) (refused_count x t c k all) Row.Rests) tt tt
  count_row r needs = tt
