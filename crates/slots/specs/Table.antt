-- Our calls as a table of the machine's calls. For each row, the table has the access that the C library makes, the events
-- of the machine that this access is, and the next row. All these events are of the same thread, and happen at the moment
-- of the access.
--
-- | ours                         | calls of the machine
-- | lock                         | trylock of the cell, maybe several times. If the cell is another thread's: trylock of the
-- |                              | slot. With the slot: timedlock of the cell, as the heir, and unlock of the slot. Without
-- |                              | it: timedlock of the cell, in which the thread sleeps; then the same again
-- | a slot that was marked       | AWAKE is cleared, and then consistent of the slot
-- | an heir's look at the cell   | none
-- | a look that ends a timedlock | load, sleep and timeout, if another thread owns the cell and WAITERS is set
-- | unlock                       | unlock of the cell: release; wake or spare; trim or decline
-- | wait, signal, broadcast      | the same; but a broadcast that finds that nobody waits is a signal
-- | reinit                       | remake; in C, trylock, consistent and unlock may follow, each as a call of its own
--
-- Accesses meet the words that memory shows (`memory`), by their addresses in the thread's process. An unconditional
-- exchange of the C library is a Store here: what it finds isn't used.
use Rattle.std.specs.Prelude.{ℕ, ◌+◌, ◌-◌, ◌*◌, ◌/◌, ◌%◌, ◌^◌, ◌==◌, ◌&&◌, ◌||◌, not, Bool, true, false, List, [], ◌∷◌, ◌++◌, if◌then◌else◌}
use Rattle.lockword.specs.Cells.{fields_of, waiters_alone}
use Rattle.lockword.specs.Threads.{most_threads}
use Rattle.lockword.specs.declared.reply.Reply.TheVariants.{OK, EBUSY, ETIMEDOUT, ENOTRECOVERABLE}
use Rattle.stepprograms.specs.declared.access.Access.{Access}
use Rattle.stepprograms.specs.declared.access.Access.TheVariants as access
use Rattle.stepprograms.specs.Accesses.{is_nobody}
use Rattle.memorymap.specs.Layouts.{Layout', head_place, entry_place, cell_place, counter_place, address_in}
use Rattle.mutex.specs.declared.call.Call.TheVariants as call
use Rattle.mutex.specs.declared.phase.Phase.{Phase}
use Rattle.mutex.specs.declared.phase.Phase.TheVariants as phase
use Rattle.mutex.specs.Rows.{acquired}
use Rattle.mutex.specs.Unlock.{released_bits}
use Rattle.mutex.specs.Whole.{whole_access}
use Rattle.condvar.specs.Whole.{cond_access}
use Rattle.condvar.specs.declared.call.CondCall.TheVariants as cond_call
use Rattle.condvar.specs.declared.phase.CondPhase.{CondPhase}
use Rattle.condvar.specs.declared.phase.CondPhase.TheVariants as cond
use Rattle.condvar.specs.declared.op.Op.TheVariants.{OnMutex, OnCondition}
use Rattle.protocol.specs.declared.event.Event.{Event}
use Rattle.protocol.specs.declared.event.Event.TheVariants.{Begin, Step, Decline, Remake, Spare}
use Rattle.protocol.specs.declared.event.LeftTo.TheVariants as left_to
use Rattle.protocol.specs.declared.thread.Stage.{Stage}
use Rattle.protocol.specs.declared.thread.Stage.TheVariants.{Calling, AtCondition}
use Rattle.protocol.specs.Machine.{run}
use Rattle.slots.specs.Places.{cell_of, slot_of}
use Rattle.slots.specs.Rows.{Choice, How, Taking, Before, Then, Onward, Giving, Row}
use Rattle.slots.specs.Rows.How.{Tried, Later, Waited}
use Rattle.slots.specs.Rows.Before.{Linked, Mended, Again}
use Rattle.slots.specs.Rows.Then.{ToSleep, ToSlot}
use Rattle.slots.specs.Rows.Onward.{Has, Fails, Sleeps}
use Rattle.slots.specs.Rows.Giving.{OfUnlock, OfWait}
use Rattle.slots.specs.Shown.{Slots, shown}
use Rattle.slots.specs.Words.{awake_bit, slept_bit, all_but, taken_word, waiting_word, is_free, shows_heir, is_moving, awake_word}
use Rattle.slots.specs.Seen.{begins, begins_behind, frees, expires, sets_and_expires, wait_of, heir_of, later, retakes, sleep_row, seen_row, seen_to_sleep, seen_events, again_events}

-- the access at a row, the events that the access is, and the next row
pub record Made : Type 0 where
  pub access : Access
  pub events : List Event
  pub next : Row

abbrev pub makes : Access → List Event → Row → Made
makes a es r = record { access = a; events = es; next = r }

-- ---- accesses of the list, which are the machine's own

abbrev pub access_of_stage : Stage → ℕ → Access
access_of_stage (Calling o p) at = whole_access p
access_of_stage (AtCondition c p) at = cond_access p
access_of_stage g at = access.Load at

-- the machine is in the middle of a link, or of an unlink
abbrev pub is_linking : Phase → Bool
is_linking (phase.Linking l x) = true
is_linking f = false

abbrev pub is_unlinking : Phase → Bool
is_unlinking (phase.Unlinking u d) = true
is_unlinking f = false

abbrev pub is_unlinking_at : CondPhase → Bool
is_unlinking_at (cond.Unlinking u seen) = true
is_unlinking_at f = false

abbrev pub is_on_list : Stage → Bool
is_on_list (Calling o p) = is_linking p.phase || is_unlinking p.phase
is_on_list (AtCondition c p) = is_unlinking_at p.phase
is_on_list g = false

-- its next access; once it is through, the next row
abbrev pub goes_along : Slots → ℕ → Row → Row → Made
goes_along x t here behind =
    makes (access_of_stage (x.machine.threads t).stage (address_in x.machine.layout t (head_place t))) (Step t ∷ [])
    (if is_on_list ((run x.machine (Step t ∷ [])).threads t).stage then here else behind)

-- ---- the table

module _ (x : Slots) (t : ℕ) (c : Choice) where
  abbrev pub l : Layout'
  l = x.machine.layout

  -- addresses
  abbrev pub cell : ℕ → ℕ
  cell m = address_in l t (cell_place l (cell_of m))

  abbrev pub slot : ℕ → ℕ
  slot m = address_in l t (cell_place l (slot_of m))

  abbrev pub counter : ℕ → ℕ
  counter k = address_in l t (counter_place l k)

  abbrev pub pends : ℕ → Access
  pends e = access.Store (address_in l t (head_place t + 2)) e

  abbrev pub pends_cell : ℕ → Access
  pends_cell m = pends (address_in l t (entry_place l (cell_of m)))

  abbrev pub pends_slot : ℕ → Access
  pends_slot m = pends (address_in l t (entry_place l (slot_of m)))

  -- what they find
  abbrev pub at_cell : ℕ → ℕ
  at_cell m = shown x (cell_place l (cell_of m))

  abbrev pub at_slot : ℕ → ℕ
  at_slot m = shown x (cell_place l (slot_of m))

  abbrev pub at_counter : ℕ → ℕ
  at_counter k = shown x (counter_place l k)

  abbrev pub nobody_on : ℕ → Bool
  nobody_on p = is_nobody (x.machine.queues p)

  -- an heir gives up: its deadline has passed, or it is to sleep
  abbrev pub out_of : Taking → Row
  out_of k = if k.timed && c.yes then Row.Frees k (Fails ETIMEDOUT) else Row.Frees k Sleeps

  -- after the slot's release
  abbrev pub freed_row : Taking → Onward → Row
  freed_row k (Has r) = Row.Clears k.mutex r
  freed_row k (Fails r) = Row.Clears k.mutex r
  freed_row k Sleeps = Row.SlotLeft k

  -- before a release: the hints are set, for which the slot is looked at
  abbrev pub finds_row : ℕ → Giving → Row
  finds_row m g = if c.yes then Row.GiveFinds m g else Row.Gives m g

  abbrev pub unlinked_row : ℕ → Giving → Row
  unlinked_row m (OfWait k n false timed) = Row.WaitSets m k n timed
  unlinked_row m g = finds_row m g

  -- after a release's wake, or if there is none
  abbrev pub given_row : ℕ → Giving → Row
  given_row m (OfUnlock d) = Row.Clears m OK
  given_row m (OfWait k n slept timed) = Row.WaitSleeps m k n timed

  abbrev pub woke_row : ℕ → Giving → ℕ → Row
  woke_row m (OfUnlock d) is = if nobody_on (cell_place l (cell_of m)) then Row.Trims m is else Row.Clears m OK
  woke_row m g is = given_row m g

  -- a caller that has announced its wake in the hints doesn't look for an heir
  abbrev pub hands_row : ℕ → Giving → ℕ → Row
  hands_row m g is = if c.yes then Row.WakesOne m g is else Row.HandsOn m g is

  abbrev pub released : ℕ → Giving → ℕ → Row
  released m (OfUnlock true) w = if (fields_of w).waiters then Row.WakesAll m OK else Row.Clears m OK
  released m g w = if (fields_of w).waiters then hands_row m g (w - t) else given_row m g

  abbrev pub gives : ℕ → Giving → ℕ
  gives t (OfUnlock d) = released_bits t d
  gives t g = t

  abbrev pub giving_begins : ℕ → Giving → List Event
  giving_begins m (OfUnlock d) = Begin t (OnMutex (call.Unlock (cell_of m))) ∷ Step t ∷ Step t ∷ []
  giving_begins m (OfWait k n slept timed) = Begin t (OnCondition (wait_of k timed)) ∷ Step t ∷ Step t ∷ Step t ∷ []

  -- A lock tries the slot, or sleeps, or looks again. The lock that ends a wait keeps away from the slot
  abbrev pub tries : How → Bool
  tries (Waited z) = false
  tries h = true

  -- a lock that has been there, or has slept, sets WAITERS before it tries the slot
  abbrev pub to_slot : Taking → How → ℕ → ℕ → Row
  to_slot k Tried v g = Row.SlotPends k g
  to_slot k h v g = if (fields_of v).waiters then Row.SlotPends k g else Row.Marks k v (ToSlot g)

  abbrev pub chosen : Taking → ℕ → ℕ → Row
  chosen k v g =
      if tries k.how && is_moving g && c.again then Row.SeesAgain k v
      else if tries k.how && ((fields_of g).owner == 0) && c.yes then to_slot k k.how v g
      else sleep_row k v

  abbrev pub marked_row : Taking → How → ℕ → Then → Row
  marked_row k h v (ToSlot g) = Row.SlotPends k g
  marked_row k (Waited z) v ToSleep = Row.SleepsOn k (waiting_word v)
  marked_row k h v ToSleep = Row.SleepsOn (later k) (waiting_word v)

  -- WAITERS is set by a lock that is at its load, or by a call that begins then
  abbrev pub marked_events : Taking → How → List Event
  marked_events k Tried = begins_behind t (call.TimedLock (cell_of k.mutex)) ++ sets_and_expires t
  marked_events k Later = sets_and_expires t
  marked_events k (Waited z) = Step t ∷ Step t ∷ []

  abbrev pub missed : Access → Taking → How → ℕ → Made
  missed a k Tried w =
      makes a (begins_behind t (call.TimedLock (cell_of k.mutex)) ++ seen_events t k.mutex Later w) (seen_row t (later k) w)
  missed a k h w = makes a (seen_events t k.mutex h w) (seen_row t k w)

  -- a sleep on the cell
  abbrev pub on_cell : Taking → How → ℕ → ℕ → Made
  on_cell k (Waited z) v w =
      makes (access.Wait (cell k.mutex) (v % 2 ^ 32)) (Step t ∷ []) (Row.Asleep k)
  on_cell k h v w =
      if w % 2 ^ 32 == v % 2 ^ 32
      then makes (access.Wait (cell k.mutex) (v % 2 ^ 32)) (begins_behind t (call.TimedLock (cell_of k.mutex)) ++ Step t ∷ Step t ∷ []) (Row.Asleep (later k))
      else makes (access.Wait (cell k.mutex) (v % 2 ^ 32)) (begins_behind t (call.TimedLock (cell_of k.mutex))) (Row.Asleep (later k))

  -- an heir makes the cell's entry pending
  abbrev pub heir_begins : Taking → Before → List Event
  heir_begins k Linked = begins_behind t (call.TimedLock (cell_of k.mutex))
  heir_begins k Mended = begins t (call.TimedLock (cell_of k.mutex))
  heir_begins k Again = []

  -- an heir has seen a word of the cell, and its watch is over or not. If another thread was faster, the heir waits again,
  -- unless its deadline has passed
  abbrev pub watched_row : Taking → ℕ → Bool → Row
  watched_row k v over =
      if over && is_free v then Row.HeirTakes k v
      else if over && not (fields_of v).unusable && not (k.timed && c.yes) then Row.HeirPends k Again
      else Row.GivesUp k

  abbrev pub wait_begins : ℕ → Bool → List Event
  wait_begins k timed = Begin t (OnCondition (wait_of k timed)) ∷ Step t ∷ []

  -- the counter with one more, and SLEPT as it was
  abbrev pub counted : ℕ → ℕ
  counted w = w / 2 ^ 32 * 2 ^ 32 + (w + 1) % 2 ^ 32

  abbrev pub count_begins : ℕ → Bool → Bool → List Event
  count_begins k all false =
      Begin t (OnCondition (cond_call.Signal k)) ∷ Step t ∷ Step t ∷ Step t ∷ Step t ∷ []
  count_begins k false true = Begin t (OnCondition (cond_call.Signal k)) ∷ Step t ∷ Step t ∷ Step t ∷ []
  count_begins k true true = Begin t (OnCondition (cond_call.Broadcast k)) ∷ Step t ∷ Step t ∷ Step t ∷ []

  abbrev pub counted_row : ℕ → ℕ → Bool → Bool → ℕ → Row
  counted_row m k all false n = Row.Rests
  counted_row m k false true n = Row.CountWakes m k n
  counted_row m k true true n = Row.AllMarks m k n

  abbrev pub refused_count : ℕ → Bool → List Event
  refused_count k false = Begin t (OnCondition (cond_call.Signal k)) ∷ Step t ∷ []
  refused_count k true = Begin t (OnCondition (cond_call.Broadcast k)) ∷ Step t ∷ []

  -- SLEPT of a counter's word
  abbrev pub shows_slept : ℕ → Bool
  shows_slept w = w / 2 ^ 32 == 1

  -- the row of a thread that is in none of our calls makes no access
  abbrev pub made : Row → Made
  made Row.Rests = makes (access.Load 0) [] Row.Rests
  -- ---- lock
  made (Row.Looks k) =
      if (fields_of (at_cell k.mutex)).owner == t
      then makes (access.Load (cell k.mutex)) (begins t (call.TimedLock (cell_of k.mutex)) ++ Step t ∷ Step t ∷ []) Row.Rests
      else makes (access.Load (cell k.mutex)) [] (Row.Pends k (at_cell k.mutex))
  made (Row.Pends k v) =
      makes (pends_cell k.mutex) (begins t (call.TryLock (cell_of k.mutex))) (if is_free v then Row.Takes k v else Row.Sees k)
  made (Row.Sees k) =
      makes (access.Load (cell k.mutex)) (seen_events t k.mutex k.how (at_cell k.mutex)) (seen_row t k (at_cell k.mutex))
  made (Row.Takes k v) =
      if at_cell k.mutex == v
      then makes (access.Exchange (cell k.mutex) v (taken_word v t)) (Step t ∷ Step t ∷ []) (Row.Links k.mutex (acquired (fields_of v)))
      else makes (access.Exchange (cell k.mutex) v (taken_word v t)) (seen_events t k.mutex k.how (at_cell k.mutex)) (seen_row t k (at_cell k.mutex))
  made (Row.Links m r) = goes_along x t (Row.Links m r) (Row.Clears m r)
  made (Row.Clears m r) = makes (pends 0) (Step t ∷ []) Row.Rests
  -- ---- lock, where another thread is in the way
  made (Row.Chooses k v) = makes (access.Load (slot k.mutex)) [] (chosen k v (at_slot k.mutex))
  made (Row.SeesAgain k v) =
      makes (access.Load (cell k.mutex))
      (again_events t k.mutex k.how v ++ seen_events t k.mutex k.how (at_cell k.mutex)) (seen_row t k (at_cell k.mutex))
  made (Row.Marks k v then_to) =
      if at_cell k.mutex == v
      then makes (access.Exchange (cell k.mutex) v (waiting_word v)) (marked_events k k.how) (marked_row k k.how v then_to)
      else missed (access.Exchange (cell k.mutex) v (waiting_word v)) k k.how (at_cell k.mutex)
  made (Row.SleepsOn k v) = on_cell k k.how v (at_cell k.mutex)
  made (Row.Asleep k) = makes (pends_cell k.mutex) [] (Row.Sees k)
  made (Row.Late k) = makes (pends_cell k.mutex) [] (Row.LateSees k)
  made (Row.LateSees k) = makes (access.Load (cell k.mutex)) [] (Row.Clears k.mutex ETIMEDOUT)
  made (Row.WakesAll m r) = makes (access.Wake (cell m) most_threads) (Step t ∷ []) (Row.Clears m r)
  -- ---- the slot
  made (Row.SlotPends k g) =
      makes (pends_slot k.mutex) (begins_behind t (call.TryLock (slot_of k.mutex))) (Row.SlotTakes k g)
  made (Row.SlotTakes k g) =
      if at_slot k.mutex == g
      then makes (access.Exchange (slot k.mutex) g (taken_word g t)) (Step t ∷ Step t ∷ []) (Row.SlotLinks k (fields_of g).died)
      else if (fields_of (at_slot k.mutex)).owner == 0
      then makes (access.Exchange (slot k.mutex) g (taken_word g t)) [] (Row.SlotTakes k (at_slot k.mutex))
      else makes (access.Exchange (slot k.mutex) g (taken_word g t)) (Step t ∷ []) (Row.SlotLeft k)
  made (Row.SlotLeft k) =
      makes (pends_cell k.mutex) (begins_behind t (call.TimedLock (cell_of k.mutex))) (Row.SeesToSleep (later k))
  made (Row.SeesToSleep k) =
      makes (access.Load (cell k.mutex)) (seen_events t k.mutex k.how (at_cell k.mutex)) (seen_to_sleep k (at_cell k.mutex))
  made (Row.SlotLinks k died) =
      goes_along x t (Row.SlotLinks k died) (if died then Row.SlotClears k else Row.HeirPends k Linked)
  made (Row.SlotClears k) = makes (pends 0) (Step t ∷ []) (Row.SlotQuiets k)
  made (Row.SlotQuiets k) = makes (access.FetchAnd (slot k.mutex) (all_but awake_bit)) [] (Row.SlotMends k)
  made (Row.SlotMends k) =
      makes (access.FetchAnd (slot k.mutex) (all_but 0x4000_0000))
      (Begin t (OnMutex (call.Consistent (slot_of k.mutex))) ∷ Step t ∷ Step t ∷ []) (Row.HeirPends k Mended)
  made (Row.HeirPends k b) = makes (pends_cell k.mutex) (heir_begins k b) (Row.HeirSets k)
  made (Row.HeirSets k) = makes (access.Store (slot k.mutex) (awake_word t c.time)) [] (Row.HeirLooks k)
  made (Row.HeirLooks k) =
      makes (access.Load (cell k.mutex)) [] (
      if (fields_of (at_cell k.mutex)).unusable || (is_free (at_cell k.mutex) && c.yes)
      then Row.HeirPendsOn k (at_cell k.mutex) true
      else if c.again then Row.HeirPends k Again
      else Row.HeirPendsOn k (at_cell k.mutex) false
      )
  made (Row.HeirPendsOn k v over) = makes (pends_cell k.mutex) [] (watched_row k v over)
  made (Row.HeirTakes k v) =
      if at_cell k.mutex == v
      then makes (access.Exchange (cell k.mutex) v (taken_word v t)) (Step t ∷ Step t ∷ []) (Row.HeirHas k (acquired (fields_of v)))
      else makes (access.Exchange (cell k.mutex) v (taken_word v t)) [] (watched_row k (at_cell k.mutex) true)
  made (Row.HeirHas k r) = makes (access.FetchAnd (slot k.mutex) (all_but awake_bit)) [] (Row.HeirLinks k r)
  made (Row.HeirLinks k r) = goes_along x t (Row.HeirLinks k r) (Row.Frees k (Has r))
  made (Row.GivesUp k) = makes (access.FetchAnd (slot k.mutex) (all_but awake_bit)) [] (Row.LastLooks k)
  made (Row.LastLooks k) =
      if (fields_of (at_cell k.mutex)).unusable
      then makes (access.Load (cell k.mutex)) (Step t ∷ []) (if (fields_of (at_cell k.mutex)).waiters then Row.HeirWakes k else Row.Frees k (Fails ENOTRECOVERABLE))
      else if (fields_of (at_cell k.mutex)).owner == 0
      then makes (access.Load (cell k.mutex)) [] (Row.HeirPends k Again)
      else if (fields_of (at_cell k.mutex)).waiters
      then makes (access.Load (cell k.mutex)) (expires t) (out_of k)
      else makes (access.Load (cell k.mutex)) [] (Row.LastMarks k (at_cell k.mutex))
  made (Row.LastMarks k v) =
      if at_cell k.mutex == v
      then makes (access.Exchange (cell k.mutex) v (waiting_word v)) (sets_and_expires t) (out_of k)
      else makes (access.Exchange (cell k.mutex) v (waiting_word v)) [] (Row.HeirPends k Again)
  made (Row.HeirWakes k) =
      makes (access.Wake (cell k.mutex) most_threads) (Step t ∷ []) (Row.Frees k (Fails ENOTRECOVERABLE))
  made (Row.Frees k f) = makes (pends_slot k.mutex) (frees t k.mutex) (Row.FreeUnlinks k f)
  made (Row.FreeUnlinks k f) = goes_along x t (Row.FreeUnlinks k f) (Row.FreeGives k f)
  made (Row.FreeGives k f) = makes (access.FetchXor (slot k.mutex) t) (Step t ∷ []) (freed_row k f)
  -- ---- trylock
  made (Row.TryLooks m) =
      if is_free (at_cell m)
      then makes (access.Load (cell m)) [] (Row.TryPends m (at_cell m))
      else makes (access.Load (cell m)) (begins t (call.TryLock (cell_of m)) ++ Step t ∷ Step t ∷ []) Row.Rests
  made (Row.TryPends m v) = makes (pends_cell m) (begins t (call.TryLock (cell_of m))) (Row.TryTakes m v)
  made (Row.TryTakes m v) =
      if at_cell m == v
      then makes (access.Exchange (cell m) v (taken_word v t)) (Step t ∷ Step t ∷ []) (Row.Links m (acquired (fields_of v)))
      else if is_free (at_cell m)
      then makes (access.Exchange (cell m) v (taken_word v t)) [] (Row.TryTakes m (at_cell m))
      else makes (access.Exchange (cell m) v (taken_word v t)) (Step t ∷ [])
      (Row.Clears m (if (fields_of (at_cell m)).unusable then ENOTRECOVERABLE else EBUSY))
  -- ---- unlock, and a wait's release
  made (Row.GiveLooks m) =
      if (fields_of (at_cell m)).owner == t
      then makes (access.Load (cell m)) [] (Row.GivePends m (OfUnlock (fields_of (at_cell m)).died))
      else makes (access.Load (cell m)) (Begin t (OnMutex (call.Unlock (cell_of m))) ∷ Step t ∷ []) Row.Rests
  made (Row.GivePends m g) = makes (pends_cell m) (giving_begins m g) (Row.GiveUnlinks m g)
  made (Row.GiveUnlinks m g) = goes_along x t (Row.GiveUnlinks m g) (unlinked_row m g)
  made (Row.GiveFinds m g) = makes (access.Load (slot m)) [] (if c.again then Row.GiveFinds m g else Row.Gives m g)
  made (Row.Gives m g) = makes (access.FetchXor (cell m) (gives t g)) (Step t ∷ []) (released m g (at_cell m))
  made (Row.HandsOn m g is) =
      if shows_heir (at_slot m) && c.yes
      then makes (access.Load (slot m)) (Spare t (heir_of x.machine t (cell_of m)) ∷ []) (given_row m g)
      else makes (access.Load (slot m)) [] (Row.LooksBack m g is)
  made (Row.LooksBack m g is) =
      if (fields_of (at_cell m)).owner == 0
      then makes (access.Load (cell m)) [] (Row.WakesOne m g is)
      else makes (access.Load (cell m)) (Spare t left_to.Owner ∷ []) (given_row m g)
  made (Row.WakesOne m g is) = makes (access.Wake (cell m) 1) (Step t ∷ []) (woke_row m g is)
  made (Row.Trims m is) =
      makes (access.Exchange (cell m) is (is - waiters_alone)) (if at_cell m == is then Step t ∷ [] else Decline t ∷ [])
      (Row.Clears m OK)
  -- ---- consistent, reinit
  made (Row.MendLooks m) =
      if ((fields_of (at_cell m)).owner == t) && (fields_of (at_cell m)).died
      then makes (access.Load (cell m)) [] (Row.Mends m)
      else makes (access.Load (cell m)) (Begin t (OnMutex (call.Consistent (cell_of m))) ∷ Step t ∷ []) Row.Rests
  made (Row.Mends m) =
      makes (access.FetchAnd (cell m) (all_but 0x4000_0000))
      (Begin t (OnMutex (call.Consistent (cell_of m))) ∷ Step t ∷ Step t ∷ []) Row.Rests
  made (Row.AnewLooks m) =
      makes (access.Load (cell m)) [] (if (fields_of (at_cell m)).unusable then Row.Anews m (at_cell m) else Row.Rests)
  made (Row.Anews m v) =
      if at_cell m == v
      then makes (access.Exchange (cell m) v (v - 0x1_0000_0000 + 0x2_0000_0000)) (Remake t (cell_of m) ∷ []) Row.Rests
      else makes (access.Exchange (cell m) v (v - 0x1_0000_0000 + 0x2_0000_0000)) []
      (if (fields_of (at_cell m)).unusable then Row.Anews m (at_cell m) else Row.Rests)
  -- ---- condition variables
  made (Row.WaitLooks m k timed) =
      if (fields_of (at_cell m)).owner == t
      then makes (access.Load (cell m)) [] (Row.WaitCounts m k timed (fields_of (at_cell m)).died)
      else makes (access.Load (cell m)) (wait_begins k timed) Row.Rests
  made (Row.WaitCounts m k timed died) =
      if died
      then makes (access.Load (counter k)) (wait_begins k timed) Row.Rests
      else makes (access.Load (counter k)) [] (Row.GivePends m (OfWait k (at_counter k % 2 ^ 32) (shows_slept (at_counter k)) timed))
  made (Row.WaitSets m k n timed) =
      makes (access.Store (counter k) (n + slept_bit)) [] (finds_row m (OfWait k n true timed))
  made (Row.WaitSleeps m k n timed) = makes (access.Wait (counter k) n) (Step t ∷ []) (Row.WaitAsleep m k n timed)
  made (Row.WaitAsleep m k n timed) = makes (pends_cell m) [] (Row.Sees (retakes m k))
  made (Row.WaitLate m k n) = makes (access.Load (counter k)) [] (Row.WaitAsleep m k n false)
  made (Row.CountLooks m k all) =
      if (fields_of (at_cell m)).owner == t
      then makes (access.Load (cell m)) [] (Row.CountLoads m k all)
      else makes (access.Load (cell m)) (refused_count k all) Row.Rests
  made (Row.CountLoads m k all) = makes (access.Load (counter k)) [] (Row.Counts m k all (at_counter k))
  made (Row.Counts m k all n) =
      makes (access.Store (counter k) (counted n)) (count_begins k all (shows_slept n))
      (counted_row m k all (shows_slept n) (counted n % 2 ^ 32))
  made (Row.CountWakes m k n) =
      makes (access.Wake (counter k) 1) (Step t ∷ []) (if nobody_on (counter_place l k) then Row.Unsets m k n else Row.Rests)
  made (Row.AllMarks m k n) = makes (access.FetchOr (cell m) waiters_alone) (Step t ∷ []) (Row.AllMoves m k n)
  made (Row.AllMoves m k n) =
      makes (access.CmpRequeue (counter k) n 0 (cell m) most_threads) (Step t ∷ []) (Row.Unsets m k n)
  made (Row.Unsets m k n) = makes (access.Store (counter k) n) [] Row.Rests
