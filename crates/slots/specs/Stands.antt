-- Where the machine's thread is, at each of our rows.
use Rattle.std.specs.Prelude.{ℕ, ◌≡◌, ◌⊎◌, ◌+◌, ◌%◌, ◌^◌, Bool, true, false, Some, if◌then◌else◌}
use Rattle.lockword.specs.Cells.{Fields, fields_of, low_of}
use Rattle.lockword.specs.declared.reply.Reply.{Reply}
use Rattle.lockword.specs.declared.reply.Reply.TheVariants.{OK, EBUSY, EDEADLK, EINVAL, ETIMEDOUT, ENOTRECOVERABLE, EOWNERDEAD}
use Rattle.robustlist.specs.Standings.{LinkStanding, UnlinkStanding}
use Rattle.mutex.specs.declared.call.Call.{Call}
use Rattle.mutex.specs.declared.call.Call.TheVariants as call
use Rattle.mutex.specs.declared.phase.Phase.{Phase}
use Rattle.mutex.specs.declared.phase.Phase.TheVariants.{AtCell, Linking, Unlinking, Clearing}
use Rattle.mutex.specs.declared.row.Row.TheVariants as mutex_row
use Rattle.mutex.specs.declared.lock.LockRow.TheVariants as lock
use Rattle.mutex.specs.declared.try_lock.TryLockRow.TheVariants as try
use Rattle.mutex.specs.declared.unlock.UnlockRow.TheVariants as unlock
use Rattle.mutex.specs.Standings.{Whole}
use Rattle.condvar.specs.declared.call.CondCall.{CondCall}
use Rattle.condvar.specs.declared.call.CondCall.TheVariants as cond_call
use Rattle.condvar.specs.Calls.{condition_of, acts_as}
use Rattle.posixmutex.specs.declared.point.Operation.TheVariants.{Wait}
use Rattle.condvar.specs.declared.phase.CondPhase.TheVariants as cond
use Rattle.condvar.specs.declared.row.CondRow.{CondRow}
use Rattle.condvar.specs.declared.row.CondRow.TheVariants as cond_row
use Rattle.condvar.specs.declared.wait.WaitRow.TheVariants as wait
use Rattle.condvar.specs.declared.signal.SignalRow.TheVariants as signal
use Rattle.condvar.specs.declared.broadcast.BroadcastRow.TheVariants as broadcast
use Rattle.condvar.specs.Standings.{CondWhole}
use Rattle.condvar.specs.declared.op.Op.{Op}
use Rattle.condvar.specs.declared.op.Op.TheVariants.{OnMutex, OnCondition}
use Rattle.protocol.specs.declared.thread.Stage.{Stage}
use Rattle.protocol.specs.declared.thread.Stage.TheVariants.{Idle, Calling, AtCondition}
use Rattle.protocol.specs.Headline.{seen}
use Rattle.protocol.specs.Machine.{is_timed, stands_in}
use Rattle.slots.specs.Invariant.{fields_at}
use Rattle.slots.specs.Places.{cell_of, slot_of}
use Rattle.slots.specs.Rows.{How, Taking, Before, Onward, Giving, Row}
use Rattle.slots.specs.Rows.How.{Tried, Later, Waited}
use Rattle.slots.specs.Rows.Before.{Linked, Mended, Again}
use Rattle.slots.specs.Rows.Onward.{Has, Fails, Sleeps}
use Rattle.slots.specs.Rows.Giving.{OfUnlock, OfWait}
use Rattle.slots.specs.Seen.{wait_of}
use Rattle.slots.specs.Shown.{Slots}

-- in this call on a mutex, in this phase
abbrev pub IsIn : Call → Phase → Stage → Type 0
IsIn c f g = (p : Whole) × (g ≡ Calling (OnMutex c) p) × (p.phase ≡ f)

abbrev pub IsLinking : Call → Reply → Stage → Type 0
IsLinking c r g = (u : LinkStanding) × IsIn c (Linking u r) g

abbrev pub IsUnlinking : Call → Bool → Stage → Type 0
IsUnlinking c d g = (u : UnlinkStanding) × IsIn c (Unlinking u d) g

-- in the lock that ends a wait on condition variable k
abbrev pub IsRetaking : ℕ → Phase → Stage → Type 0
IsRetaking k f g =
    (c : CondCall) × (p : Whole) × (g ≡ Calling (OnCondition c) p) × (condition_of c ≡ k) × (acts_as c ≡ Wait) × (p.phase ≡ f)

-- its call has a deadline
abbrev pub has_limit : Stage → Bool
has_limit (Calling o p) = is_timed o
has_limit g = false

-- in a call on a condition variable
abbrev pub IsAtWords : CondCall → CondRow → Stage → Type 0
IsAtWords c r g = (p : CondWhole) × (g ≡ AtCondition c p) × (p.phase ≡ cond.AtWords r)

-- ---- a lock

abbrev pub at_load : Phase
at_load = AtCell (mutex_row.Lock lock.Load)

-- it looks at the cell next
abbrev pub IsToLook : Taking → How → Stage → Type 0
IsToLook k Tried g = IsIn (call.TryLock (cell_of k.mutex)) (AtCell (mutex_row.TryLock try.Load)) g
IsToLook k Later g = IsIn (call.TimedLock (cell_of k.mutex)) at_load g
IsToLook k (Waited z) g = IsRetaking z at_load g

-- the machine's call is through, and its entry is still pending
abbrev pub IsThrough : ℕ → How → Stage → Type 0
IsThrough m Tried g = IsIn (call.TryLock (cell_of m)) (Clearing EBUSY) g
IsThrough m Later g = IsIn (call.TimedLock (cell_of m)) (Clearing ETIMEDOUT) g
IsThrough m (Waited z) g = ⊥

abbrev pub IsToSleep : Taking → How → ℕ → Stage → Type 0
IsToSleep k (Waited z) v g =
    (c : Fields) × (low_of c ≡ v % 2 ^ 32) × IsRetaking z (AtCell (mutex_row.Lock (lock.Sleep c))) g
IsToSleep k h v g = IsThrough k.mutex h g

-- A call has seen the word v of a cell that another thread owns. A trylock is through; a lock is through if it has seen
-- WAITERS, and else has still to look; the lock that ends a wait is about to sleep if it has seen WAITERS
abbrev pub HasChosen : Taking → How → Bool → ℕ → Stage → Type 0
HasChosen k Tried waiters v g = IsThrough k.mutex Tried g
HasChosen k Later true v g = IsThrough k.mutex Later g
HasChosen k Later false v g = IsIn (call.TimedLock (cell_of k.mutex)) at_load g
HasChosen k (Waited z) true v g = IsToSleep k (Waited z) v g
HasChosen k (Waited z) false v g = IsRetaking z at_load g

-- of any of the three calls that take the cell
abbrev pub IsTaking : ℕ → Phase → Stage → Type 0
IsTaking m f g =
    IsIn (call.TryLock (cell_of m)) f g ⊎ (IsIn (call.TimedLock (cell_of m)) f g ⊎ (k : ℕ) × IsRetaking k f g)

-- ---- a release

abbrev pub IsGiving : ℕ → Giving → Stage → Type 0
IsGiving m (OfUnlock d) g = IsIn (call.Unlock (cell_of m)) (AtCell (mutex_row.Unlock (unlock.Release d))) g
IsGiving m (OfWait k n slept timed) g = IsAtWords (wait_of k timed) (cond_row.Wait (wait.Release n)) g

abbrev pub IsGivingUnlinked : ℕ → Giving → Stage → Type 0
IsGivingUnlinked m (OfUnlock d) g = IsUnlinking (call.Unlock (cell_of m)) d g
IsGivingUnlinked m (OfWait k n slept timed) g =
    (p : CondWhole) × (u : UnlinkStanding) × (g ≡ AtCondition (wait_of k timed) p) × (p.phase ≡ cond.Unlinking u n)

abbrev pub IsWaking : ℕ → Giving → Stage → Type 0
IsWaking m (OfUnlock d) g = IsIn (call.Unlock (cell_of m)) (AtCell (mutex_row.Unlock (unlock.Wake false))) g
IsWaking m (OfWait k n slept timed) g = IsAtWords (wait_of k timed) (cond_row.Wait (wait.Wake n)) g

abbrev pub IsFreeing : ℕ → Onward → Stage → Type 0
IsFreeing m (Has r) g = IsIn (call.TimedLock (cell_of m)) (Clearing r) g
IsFreeing m (Fails r) g = IsIn (call.TimedLock (cell_of m)) (Clearing r) g
IsFreeing m Sleeps g = IsIn (call.TimedLock (cell_of m)) (Clearing ETIMEDOUT) g

abbrev pub IsHeirToBe : ℕ → Before → Stage → Type 0
IsHeirToBe m Linked g = IsIn (call.TryLock (slot_of m)) (Clearing OK) g
IsHeirToBe m Mended g = g ≡ Idle
IsHeirToBe m Again g = IsIn (call.TimedLock (cell_of m)) at_load g

-- ---- a call's end

-- What a call of ours on mutex m returns, y, if its last call of the machine, o, has the reply x: the same. But an heir's
-- last call is the unlock of its slot; and a lock has only tried the cell, which is owned, if its deadline isn't a time or
-- the cell is its own
pub data RepliesAs (m : ℕ) (o : Op) (x y : Reply) : Type 0 where
  Same : x ≡ y → RepliesAs m o x y
  SlotsUnlock : o ≡ OnMutex (call.Unlock (slot_of m)) → x ≡ OK → RepliesAs m o x y
  CellsTrylock : o ≡ OnMutex (call.TryLock (cell_of m)) → x ≡ EBUSY → (y ≡ EINVAL) ⊎ (y ≡ EDEADLK) → RepliesAs m o x y

-- ---- each row

abbrev pub StandsAs : Row → Stage → Type 0
StandsAs (Row.Sees k) g = IsToLook k k.how g
StandsAs (Row.Takes k v) g = IsToLook k k.how g
StandsAs (Row.Chooses k v) g = HasChosen k k.how (fields_of v).waiters v g
StandsAs (Row.SeesAgain k v) g = HasChosen k k.how (fields_of v).waiters v g
StandsAs (Row.Marks k v n) g = HasChosen k k.how false v g
StandsAs (Row.SleepsOn k v) g = IsToSleep k k.how v g
StandsAs (Row.Asleep k) g = IsToLook k k.how g
StandsAs (Row.Late k) g = IsThrough k.mutex Later g
StandsAs (Row.LateSees k) g = IsThrough k.mutex Later g
StandsAs (Row.WakesAll m r) g =
    (IsTaking m (AtCell (mutex_row.Lock lock.WakeAll)) g × (r ≡ ENOTRECOVERABLE))
    ⊎ (IsIn (call.Unlock (cell_of m)) (AtCell (mutex_row.Unlock (unlock.Wake true))) g × (r ≡ OK))
StandsAs (Row.Links m r) g = (u : LinkStanding) × IsTaking m (Linking u r) g
StandsAs (Row.Clears m r) g =
    (o : Op) × (p : Whole) × (x : Reply) × (g ≡ Calling o p) × (p.phase ≡ Clearing x) × RepliesAs m o x r
StandsAs (Row.SlotPends k v) g = IsThrough k.mutex k.how g
StandsAs (Row.SlotTakes k v) g = IsIn (call.TryLock (slot_of k.mutex)) (AtCell (mutex_row.TryLock try.Load)) g
StandsAs (Row.SlotLeft k) g =
    IsIn (call.TryLock (slot_of k.mutex)) (Clearing EBUSY) g ⊎ IsIn (call.Unlock (slot_of k.mutex)) (Clearing OK) g
StandsAs (Row.SeesToSleep k) g = IsToLook k k.how g
StandsAs (Row.SlotLinks k d) g = IsLinking (call.TryLock (slot_of k.mutex)) (if d then EOWNERDEAD else OK) g
StandsAs (Row.SlotClears k) g = IsIn (call.TryLock (slot_of k.mutex)) (Clearing EOWNERDEAD) g
StandsAs (Row.HeirPends k b) g = IsHeirToBe k.mutex b g
StandsAs (Row.HeirSets k) g = IsIn (call.TimedLock (cell_of k.mutex)) at_load g
StandsAs (Row.HeirLooks k) g = IsIn (call.TimedLock (cell_of k.mutex)) at_load g
StandsAs (Row.HeirPendsOn k v over) g = IsIn (call.TimedLock (cell_of k.mutex)) at_load g
StandsAs (Row.HeirTakes k v) g = IsIn (call.TimedLock (cell_of k.mutex)) at_load g
StandsAs (Row.HeirHas k r) g = IsLinking (call.TimedLock (cell_of k.mutex)) r g
StandsAs (Row.HeirLinks k r) g = IsLinking (call.TimedLock (cell_of k.mutex)) r g
StandsAs (Row.GivesUp k) g = IsIn (call.TimedLock (cell_of k.mutex)) at_load g
StandsAs (Row.LastLooks k) g = IsIn (call.TimedLock (cell_of k.mutex)) at_load g
StandsAs (Row.LastMarks k v) g = IsIn (call.TimedLock (cell_of k.mutex)) at_load g
StandsAs (Row.HeirWakes k) g = IsIn (call.TimedLock (cell_of k.mutex)) (AtCell (mutex_row.Lock lock.WakeAll)) g
StandsAs (Row.Frees k f) g = IsFreeing k.mutex f g
StandsAs (Row.FreeUnlinks k f) g = IsUnlinking (call.Unlock (slot_of k.mutex)) false g
StandsAs (Row.FreeGives k f) g = IsIn (call.Unlock (slot_of k.mutex)) (AtCell (mutex_row.Unlock (unlock.Release false))) g
StandsAs (Row.TryTakes m v) g = IsIn (call.TryLock (cell_of m)) (AtCell (mutex_row.TryLock try.Load)) g
StandsAs (Row.GiveUnlinks m y) g = IsGivingUnlinked m y g
StandsAs (Row.GiveFinds m y) g = IsGiving m y g
StandsAs (Row.Gives m y) g = IsGiving m y g
StandsAs (Row.HandsOn m y is) g = IsWaking m y g
StandsAs (Row.LooksBack m y is) g = IsWaking m y g
StandsAs (Row.WakesOne m y is) g = IsWaking m y g
StandsAs (Row.Trims m is) g = IsIn (call.Unlock (cell_of m)) (AtCell (mutex_row.Unlock unlock.Trim)) g
StandsAs (Row.WaitSets m k n timed) g = IsAtWords (wait_of k timed) (cond_row.Wait (wait.Release n)) g
StandsAs (Row.WaitSleeps m k n timed) g = IsAtWords (wait_of k timed) (cond_row.Wait (wait.Sleep n)) g
StandsAs (Row.WaitAsleep m k n timed) g = IsRetaking k at_load g × (timed ≡ true → has_limit g ≡ true)
StandsAs (Row.WaitLate m k n) g = IsRetaking k at_load g
StandsAs (Row.CountWakes m k n) g = IsAtWords (cond_call.Signal k) (cond_row.Signal signal.Wake) g
StandsAs (Row.AllMarks m k n) g =
    (seen : ℕ) × (n ≡ (seen + 1) % 2 ^ 32) × IsAtWords (cond_call.Broadcast k) (cond_row.Broadcast (broadcast.SetWaiters seen)) g
StandsAs (Row.AllMoves m k n) g =
    (seen : ℕ) × (n ≡ (seen + 1) % 2 ^ 32) × IsAtWords (cond_call.Broadcast k) (cond_row.Broadcast (broadcast.Move seen)) g
-- at all others the machine's thread is in no call
StandsAs r g = g ≡ Idle

-- ---- whose slot it is

-- at these rows the thread owns the slot of a mutex
abbrev pub HasSlot : Row → ℕ → Type 0
HasSlot (Row.SlotLinks k d) m = k.mutex ≡ m
HasSlot (Row.SlotClears k) m = k.mutex ≡ m
HasSlot (Row.SlotQuiets k) m = k.mutex ≡ m
HasSlot (Row.SlotMends k) m = k.mutex ≡ m
HasSlot (Row.HeirPends k b) m = k.mutex ≡ m
HasSlot (Row.HeirSets k) m = k.mutex ≡ m
HasSlot (Row.HeirLooks k) m = k.mutex ≡ m
HasSlot (Row.HeirPendsOn k v over) m = k.mutex ≡ m
HasSlot (Row.HeirTakes k v) m = k.mutex ≡ m
HasSlot (Row.HeirHas k r) m = k.mutex ≡ m
HasSlot (Row.HeirLinks k r) m = k.mutex ≡ m
HasSlot (Row.GivesUp k) m = k.mutex ≡ m
HasSlot (Row.LastLooks k) m = k.mutex ≡ m
HasSlot (Row.LastMarks k v) m = k.mutex ≡ m
HasSlot (Row.HeirWakes k) m = k.mutex ≡ m
HasSlot (Row.Frees k f) m = k.mutex ≡ m
HasSlot (Row.FreeUnlinks k f) m = k.mutex ≡ m
HasSlot (Row.FreeGives k f) m = k.mutex ≡ m
HasSlot r m = ⊥

-- at these rows AWAKE may be set there; in a marked slot, until it is cleared
abbrev pub MayBeAwake : Row → Type 0
MayBeAwake (Row.SlotLinks k d) = d ≡ true
MayBeAwake (Row.SlotClears k) = Unit {0}
MayBeAwake (Row.SlotQuiets k) = Unit {0}
MayBeAwake (Row.HeirPends k Again) = Unit {0}
MayBeAwake (Row.HeirSets k) = Unit {0}
MayBeAwake (Row.HeirLooks k) = Unit {0}
MayBeAwake (Row.HeirPendsOn k v over) = Unit {0}
MayBeAwake (Row.HeirTakes k v) = Unit {0}
MayBeAwake (Row.HeirHas k r) = Unit {0}
MayBeAwake (Row.GivesUp k) = Unit {0}
MayBeAwake r = ⊥

-- at these rows the slot was marked, and the thread hasn't declared it consistent yet
abbrev pub HasMarked : Row → Type 0
HasMarked (Row.SlotLinks k d) = d ≡ true
HasMarked (Row.SlotClears k) = Unit {0}
HasMarked (Row.SlotQuiets k) = Unit {0}
HasMarked (Row.SlotMends k) = Unit {0}
HasMarked r = ⊥

-- A living thread is where its row says, and owns just the slots that its row says. These have AWAKE only if the row allows
-- it, and are marked if the row says so. If AWAKE may be set, the thread is awake
pub record Stands (x : Slots) (t : ℕ) : Type 0 where
  pub stage : StandsAs (x.rows t) (x.machine.threads t).stage
  pub owns : (m : ℕ) → HasSlot (x.rows t) m → (seen x.machine (slot_of m)).owner ≡ Some t
  pub alone : (m : ℕ) → (seen x.machine (slot_of m)).owner ≡ Some t → HasSlot (x.rows t) m
  pub quiet : (m : ℕ) → HasSlot (x.rows t) m → x.awake m ≡ true → MayBeAwake (x.rows t)
  pub marked : (m : ℕ) → HasSlot (x.rows t) m → HasMarked (x.rows t) → (fields_at x.machine (slot_of m)).died ≡ true
  pub out : MayBeAwake (x.rows t) → (key : ℕ) → stands_in t (x.machine.queues key) ≡ false
