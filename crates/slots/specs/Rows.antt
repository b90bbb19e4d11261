-- The rows at which a thread can be in one of our calls. Each row is an access to a shared word, named by what it does,
-- and next to it stands the function of the C library (`lib/`) that makes it. `k` is what a lock knows from the start, `v`
-- a word of the cell that the call has seen, and `g` a word of the slot.
--
-- The accesses of hints, of a condition variable's second word and of what a thread knows of itself are left out: no
-- other access depends on what they find, except by a `Choice`.
use Rattle.std.specs.Prelude.{ℕ, Bool}
use Rattle.lockword.specs.declared.reply.Reply.{Reply}

-- What hints, clocks and earlier looks at them leave open at an access: two answers and a time
pub record Choice : Type 0 where
  pub yes : Bool
  pub again : Bool
  pub time : ℕ

-- How a lock has come to its row. Tried: it has only tried the cell, and hasn't set WAITERS. Later: it has been to the
-- slot, or has slept. Waited: it ends a wait on this condition variable, and keeps away from the slot. In C, a lock that
-- is Later is WOKEN or LATER, which differ only in when the slot is tried
pub data How : Type 0 where
  Tried : How
  Later : How
  Waited : ℕ → How

-- a lock of a mutex, with a deadline or without; and whether that deadline isn't a time
pub record Taking : Type 0 where
  pub mutex : ℕ
  pub how : How
  pub timed : Bool
  pub wrong : Bool

-- An heir makes the cell's entry pending: after the slot's links; after it has declared a marked slot consistent; or the
-- entry is pending already
pub data Before : Type 0 where
  Linked : Before
  Mended : Before
  Again : Before

-- why WAITERS is set: to sleep, or to take the slot, whose word was this
pub data Then : Type 0 where
  ToSleep : Then
  ToSlot : ℕ → Then

-- What follows after an heir has given its slot up: the call returns with the mutex, or without it; or the call sleeps
pub data Onward : Type 0 where
  Has : Reply → Onward
  Fails : Reply → Onward
  Sleeps : Onward

-- Whose release it is. An unlock's: whether it makes the mutex unusable. A wait's: the condition variable, the count that
-- the wait has seen, whether SLEPT is set there, and whether the wait has a deadline
pub data Giving : Type 0 where
  OfUnlock : Bool → Giving
  OfWait : ℕ → ℕ → Bool → Bool → Giving

pub data Row : Type 0 where
  -- in none of our calls
  Rests : Row
  -- ---- lock (mutex.c)
  Looks : Taking → Row  -- lock: load_acquire(cell)
  Pends : Taking → ℕ → Row  -- lock: set_pending(cell_entry)
  Sees : Taking → Row  -- lock, sleep_on_cell, lock_again: load_acquire(cell), and this look decides
  Takes : Taking → ℕ → Row  -- lock, decide, lock_again: compare_exchange(cell), taken
  Links : ℕ → Reply → Row  -- acquired: put_on_list(cell_entry)
  Clears : ℕ → Reply → Row  -- reply_with, pz_mutex_trylock: set_pending(NULL)
  -- ---- lock, where another thread is in the way (heir.c)
  Chooses : Taking → ℕ → Row  -- pz_wait_for: load_acquire(slot); tries it, or sleeps
  SeesAgain : Taking → ℕ → Row  -- pz_wait_for: load_acquire(cell), as the slot is about to change hands
  Marks : Taking → ℕ → Then → Row  -- pz_wait_for, sleep_on_cell: compare_exchange(cell), with WAITERS
  SleepsOn : Taking → ℕ → Row  -- sleep_on_cell: sleep_on(cell)
  Asleep : Taking → Row  -- in the kernel; then, in sleep_on_cell: set_pending(cell_entry)
  Late : Taking → Row  -- the same after the deadline
  LateSees : Taking → Row  -- sleep_on_cell: load_acquire(cell), after the deadline
  WakesAll : ℕ → Reply → Row  -- decide, make_unusable: wake(cell, INT_MAX)
  -- ---- the slot (heir.c)
  SlotPends : Taking → ℕ → Row  -- try_slot: set_pending(slot_entry)
  SlotTakes : Taking → ℕ → Row  -- take_slot: compare_exchange(slot), taken
  SlotLeft : Taking → Row  -- try_slot, leave_slot: set_pending(cell_entry), the slot being another's, or given up
  SeesToSleep : Taking → Row  -- try_slot, leave_slot: load_acquire(cell); then the lock sleeps, or decides
  SlotLinks : Taking → Bool → Row  -- take_slot: put_on_list(slot_entry), of a marked slot, or not
  SlotClears : Taking → Row  -- take_slot: set_pending(NULL)
  SlotQuiets : Taking → Row  -- take_slot: fetch_and(slot, ~AWAKE)
  SlotMends : Taking → Row  -- take_slot: fetch_and(slot, ~OWNER_DIED)
  HeirPends : Taking → Before → Row  -- wait_awake, watch: set_pending(cell_entry)
  HeirSets : Taking → Row  -- wait_awake, watch: say_awake, an exchange of the slot
  HeirLooks : Taking → Row  -- wait_awake: load_in_order(cell); watch: load_acquire(cell)
  HeirPendsOn : Taking → ℕ → Bool → Row  -- wait_awake: set_pending(cell_entry) again; whether the watch is over
  HeirTakes : Taking → ℕ → Row  -- take_as_heir: compare_exchange(cell), taken
  HeirHas : Taking → Reply → Row  -- take_as_heir: fetch_and(slot, ~AWAKE)
  HeirLinks : Taking → Reply → Row  -- put_on: put_on_list(cell_entry)
  GivesUp : Taking → Row  -- is_last_look: fetch_and(slot, ~AWAKE)
  LastLooks : Taking → Row  -- is_last_look: load_in_order(cell), and this look decides
  LastMarks : Taking → ℕ → Row  -- is_last_look: compare_exchange(cell), with WAITERS
  HeirWakes : Taking → Row  -- leave_slot: wake(cell, INT_MAX)
  Frees : Taking → Onward → Row  -- free_slot: set_pending(slot_entry)
  FreeUnlinks : Taking → Onward → Row  -- free_slot: take_off_list(slot_entry)
  FreeGives : Taking → Onward → Row  -- free_slot: fetch_sub(slot, tid)
  -- ---- trylock (mutex.c)
  TryLooks : ℕ → Row  -- pz_mutex_trylock: load_acquire(cell)
  TryPends : ℕ → ℕ → Row  -- pz_mutex_trylock: set_pending(cell_entry)
  TryTakes : ℕ → ℕ → Row  -- pz_mutex_trylock: compare_exchange(cell), taken
  -- ---- unlock, and a wait's release (mutex.c, heir.c, cond.c)
  GiveLooks : ℕ → Row  -- pz_mutex_unlock: load_relaxed(cell)
  GivePends : ℕ → Giving → Row  -- pz_mutex_unlock, make_unusable, wait_until: set_pending(cell_entry)
  GiveUnlinks : ℕ → Giving → Row  -- take_off: take_off_list(cell_entry)
  GiveFinds : ℕ → Giving → Row  -- find_heir: load_acquire(slot), for the hints
  Gives : ℕ → Giving → Row  -- pz_mutex_unlock, release: fetch_sub(cell, tid); make_unusable: fetch_add
  HandsOn : ℕ → Giving → ℕ → Row  -- pz_hand_on: load_in_order(slot); and the word that the release left
  LooksBack : ℕ → Giving → ℕ → Row  -- pz_hand_on: load_in_order(cell), without an heir; and the same word
  WakesOne : ℕ → Giving → ℕ → Row  -- pz_hand_on: wake(cell, 1)
  Trims : ℕ → ℕ → Row  -- trim: compare_exchange(cell), without WAITERS
  -- ---- consistent, reinit (mutex.c)
  MendLooks : ℕ → Row  -- pz_mutex_consistent: load_relaxed(cell)
  Mends : ℕ → Row  -- pz_mutex_consistent: fetch_and(cell, ~OWNER_DIED)
  AnewLooks : ℕ → Row  -- is_reinitialised: load_acquire(cell)
  Anews : ℕ → ℕ → Row  -- is_reinitialised: compare_exchange(cell), without UNUSABLE, with one turn more
  -- ---- condition variables (cond.c), of a mutex and a condition variable
  WaitLooks : ℕ → ℕ → Bool → Row  -- wait_until: load_relaxed(cell)
  WaitCounts : ℕ → ℕ → Bool → Bool → Row  -- wait_until: load_relaxed(counter); whether OWNER_DIED was seen
  WaitSets : ℕ → ℕ → ℕ → Bool → Row  -- release: store_release(counter), with SLEPT
  WaitSleeps : ℕ → ℕ → ℕ → Bool → Row  -- wait_until: sleep_on(counter)
  WaitAsleep : ℕ → ℕ → ℕ → Bool → Row  -- in the kernel, on this count; then, in lock_again: set_pending(cell_entry)
  WaitLate : ℕ → ℕ → ℕ → Row  -- wait_until: load_acquire(counter), after the deadline; and that count
  CountLooks : ℕ → ℕ → Bool → Row  -- may_signal: load_relaxed(cell); for a broadcast, or for a signal
  CountLoads : ℕ → ℕ → Bool → Row  -- may_signal: load_relaxed(counter)
  Counts : ℕ → ℕ → Bool → ℕ → Row  -- pz_cond_signal, pz_cond_broadcast: store_release(counter); exchange, if SLEPT is set
  CountWakes : ℕ → ℕ → ℕ → Row  -- pz_cond_signal: wake(counter, 1); and the count that it left
  AllMarks : ℕ → ℕ → ℕ → Row  -- pz_cond_broadcast: fetch_or(cell, WAITERS)
  AllMoves : ℕ → ℕ → ℕ → Row  -- pz_cond_broadcast: move_sleepers, FUTEX_CMP_REQUEUE
  Unsets : ℕ → ℕ → ℕ → Row  -- pz_cond_signal, pz_cond_broadcast: store_release(counter), without SLEPT

-- which mutex of ours a row is about
abbrev pub about : Row → ℕ
about Row.Rests = 0
about (Row.Looks k) = k.mutex
about (Row.Pends k v) = k.mutex
about (Row.Sees k) = k.mutex
about (Row.Takes k v) = k.mutex
about (Row.Links m r) = m
about (Row.Clears m r) = m
about (Row.Chooses k v) = k.mutex
about (Row.SeesAgain k v) = k.mutex
about (Row.Marks k v n) = k.mutex
about (Row.SleepsOn k v) = k.mutex
about (Row.Asleep k) = k.mutex
about (Row.Late k) = k.mutex
about (Row.LateSees k) = k.mutex
about (Row.WakesAll m r) = m
about (Row.SlotPends k g) = k.mutex
about (Row.SlotTakes k g) = k.mutex
about (Row.SlotLeft k) = k.mutex
about (Row.SeesToSleep k) = k.mutex
about (Row.SlotLinks k d) = k.mutex
about (Row.SlotClears k) = k.mutex
about (Row.SlotQuiets k) = k.mutex
about (Row.SlotMends k) = k.mutex
about (Row.HeirPends k b) = k.mutex
about (Row.HeirSets k) = k.mutex
about (Row.HeirLooks k) = k.mutex
about (Row.HeirPendsOn k v over) = k.mutex
about (Row.HeirTakes k v) = k.mutex
about (Row.HeirHas k r) = k.mutex
about (Row.HeirLinks k r) = k.mutex
about (Row.GivesUp k) = k.mutex
about (Row.LastLooks k) = k.mutex
about (Row.LastMarks k v) = k.mutex
about (Row.HeirWakes k) = k.mutex
about (Row.Frees k f) = k.mutex
about (Row.FreeUnlinks k f) = k.mutex
about (Row.FreeGives k f) = k.mutex
about (Row.TryLooks m) = m
about (Row.TryPends m v) = m
about (Row.TryTakes m v) = m
about (Row.GiveLooks m) = m
about (Row.GivePends m y) = m
about (Row.GiveUnlinks m y) = m
about (Row.GiveFinds m y) = m
about (Row.Gives m y) = m
about (Row.HandsOn m y is) = m
about (Row.LooksBack m y is) = m
about (Row.WakesOne m y is) = m
about (Row.Trims m is) = m
about (Row.MendLooks m) = m
about (Row.Mends m) = m
about (Row.AnewLooks m) = m
about (Row.Anews m v) = m
about (Row.WaitLooks m k timed) = m
about (Row.WaitCounts m k timed died) = m
about (Row.WaitSets m k n timed) = m
about (Row.WaitSleeps m k n timed) = m
about (Row.WaitAsleep m k n timed) = m
about (Row.WaitLate m k n) = m
about (Row.CountLooks m k all) = m
about (Row.CountLoads m k all) = m
about (Row.Counts m k all n) = m
about (Row.CountWakes m k n) = m
about (Row.AllMarks m k n) = m
about (Row.AllMoves m k n) = m
about (Row.Unsets m k n) = m
