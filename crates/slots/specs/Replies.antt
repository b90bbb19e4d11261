-- What our calls do to our mutexes, and what they return.
--
-- *One call, one point.* For each row, this says what its access does to the object of the row's mutex, as POSIX sees it:
-- mostly nothing. Each call has one access at which it takes effect, its *point*, which decides the reply that the call
-- returns. A wait has one more before, at which it unlocks its mutex. The machine's calls that one of ours makes have more
-- points: those of a lock's trylocks and timed locks that don't get the mutex, and those on slots. None of them is a point
-- of ours, since none changes a mutex of ours.
use Rattle.std.specs.Prelude.{ℕ, ◌≡◌, ◌≤◌, ◌⊎◌, ◌==◌, ◌&&◌, not, nat_lt, Bool, true, false, Option, Some, None, List, [], ◌∷◌, ◌++◌, if◌then◌else◌}
use Rattle.lockword.specs.Cells.{fields_of}
use Rattle.lockword.specs.declared.reply.Reply.{Reply}
use Rattle.lockword.specs.declared.reply.Reply.TheVariants.{OK, EPERM, EBUSY, EINVAL, EDEADLK, ETIMEDOUT, ENOTRECOVERABLE, XSTATE}
use Rattle.memorymap.specs.Layouts.{Layout', IsLayout, cell_place}
use Rattle.mutex.specs.Rows.{acquired}
use Rattle.posixmutex.specs.declared.object.Object.{Object}
use Rattle.posixmutex.specs.declared.point.Decision.{Decision}
use Rattle.posixmutex.specs.declared.point.Operation.{Operation}
use Rattle.posixmutex.specs.declared.point.Operation.TheVariants as op
use Rattle.posixmutex.specs.Objects.{fresh}
use Rattle.posixmutex.specs.Histories.{Legal, opening}
use Rattle.protocol.specs.declared.event.Event.TheVariants.{Step}
use Rattle.protocol.specs.Headline.{points_of, seen}
use Rattle.protocol.specs.Machine.{State, happens, has_thread, is_alive, is_asleep, is_dying}
use Rattle.protocol.specs.Notes.{facts_of}
use Rattle.slots.specs.Places.{cell_of, is_slot, our_mutexes, our_own}
use Rattle.slots.specs.Rows.{Choice, How, Taking, Onward, Giving, Row, about}
use Rattle.slots.specs.Rows.How.{Tried, Waited}
use Rattle.slots.specs.Rows.Onward.{Has, Fails, Sleeps}
use Rattle.slots.specs.Rows.Giving.{OfUnlock, OfWait}
use Rattle.slots.specs.Shown.{Slots, begin, shown}
use Rattle.slots.specs.Words.{is_free}
use Rattle.slots.specs.Table.{made}
use Rattle.slots.specs.Runs.{Happening, lapse_row, may_call, next, reached}
use Rattle.slots.specs.Runs.Happening.{Goes, Walks}
use Rattle.slots.specs.Premises.{AllTrusted}

-- ---- what an access does

-- Nothing; a wait's unlock; the call's point; or the call, which would have to wait, is refused for its deadline, and has no
-- point
pub data Deed : Type 0 where
  Nothing : Deed
  Unlocks : Decision → Deed
  Decides : Decision → Deed
  Refuses : Reply → Deed

-- thread t's operation on mutex m of ours, with this reply
abbrev pub decided : ℕ → ℕ → Operation → Reply → Decision
decided t m o r = record { thread = t; mutex = m; operation = o; reply = r }

abbrev pub locks : ℕ → ℕ → Reply → Deed
locks t m r = Decides (decided t m op.Lock r)

-- a lock has seen the word w of the cell. If another thread owns the mutex, the lock isn't decided
abbrev pub looked : ℕ → ℕ → ℕ → Deed
looked t m w =
    if (fields_of w).unusable then locks t m ENOTRECOVERABLE
    else if (fields_of w).owner == 0 then Nothing
    else if (fields_of w).owner == t then locks t m EDEADLK
    else Nothing

-- a deadline that isn't a time is an error if another thread owns the mutex
abbrev pub refused_or : Taking → How → Deed
refused_or k Tried = if k.wrong then Refuses EINVAL else Nothing
refused_or k h = Nothing

abbrev pub looked_first : ℕ → Taking → ℕ → Deed
looked_first t k w =
    if (fields_of w).unusable then locks t k.mutex ENOTRECOVERABLE
    else if (fields_of w).owner == 0 then Nothing
    else if (fields_of w).owner == t then locks t k.mutex EDEADLK
    else refused_or k k.how

-- a lock that was at the slot doesn't own the mutex
abbrev pub looked_to_sleep : ℕ → ℕ → ℕ → Deed
looked_to_sleep t m w = if (fields_of w).unusable then locks t m ENOTRECOVERABLE else Nothing

-- a trylock has seen the word w, which isn't free
abbrev pub tried : ℕ → ℕ → ℕ → Deed
tried t m w = Decides (decided t m op.TryLock (if (fields_of w).unusable then ENOTRECOVERABLE else EBUSY))

abbrev pub counts_as : Bool → Operation
counts_as true = op.Broadcast
counts_as false = op.Signal

abbrev pub gave : ℕ → ℕ → Giving → Deed
gave t m (OfUnlock d) = Decides (decided t m op.Unlock OK)
gave t m (OfWait k n slept timed) = Unlocks (decided t m op.Unlock OK)

-- ---- how far a call is

-- in no call; in a call of this operation, which isn't decided; in such a lock, whose deadline isn't a time; in a wait that
-- has unlocked its mutex; in a call that returns this
pub data Progress : Type 0 where
  Idle : Progress
  Called : Operation → Progress
  Mistimed : Progress
  Unlocked : Progress
  Decided : Reply → Progress

-- in a lock, and whether its deadline isn't a time
abbrev pub locking : Bool → Progress
locking true = Mistimed
locking false = Called op.Lock

abbrev pub lock_progress : How → Bool → Progress
lock_progress (Waited z) wrong = Unlocked
lock_progress h wrong = locking wrong

abbrev pub giving_progress : Giving → Progress
giving_progress (OfUnlock d) = Called op.Unlock
giving_progress (OfWait k n slept timed) = Called op.Wait

abbrev pub given_progress : Giving → Progress
given_progress (OfUnlock d) = Decided OK
given_progress (OfWait k n slept timed) = Unlocked

abbrev pub freeing_progress : Onward → Bool → Progress
freeing_progress (Has r) wrong = Decided r
freeing_progress (Fails r) wrong = Decided r
freeing_progress Sleeps wrong = locking wrong

abbrev pub progress : Row → Progress
progress Row.Rests = Idle
progress (Row.Looks k) = lock_progress k.how k.wrong
progress (Row.Pends k v) = lock_progress k.how k.wrong
progress (Row.Sees k) = lock_progress k.how k.wrong
progress (Row.Takes k v) = lock_progress k.how k.wrong
progress (Row.Links m r) = Decided r
progress (Row.Clears m r) = Decided r
progress (Row.Chooses k v) = lock_progress k.how k.wrong
progress (Row.SeesAgain k v) = lock_progress k.how k.wrong
progress (Row.Marks k v n) = lock_progress k.how k.wrong
progress (Row.SleepsOn k v) = lock_progress k.how k.wrong
progress (Row.Asleep k) = lock_progress k.how k.wrong
progress (Row.WakesAll m r) = Decided r
progress (Row.SeesToSleep k) = lock_progress k.how k.wrong
progress (Row.HeirHas k r) = Decided r
progress (Row.HeirLinks k r) = Decided r
progress (Row.HeirWakes k) = Decided ENOTRECOVERABLE
progress (Row.Frees k f) = freeing_progress f k.wrong
progress (Row.FreeUnlinks k f) = freeing_progress f k.wrong
progress (Row.FreeGives k f) = freeing_progress f k.wrong
progress (Row.TryLooks m) = Called op.TryLock
progress (Row.TryPends m v) = Called op.TryLock
progress (Row.TryTakes m v) = Called op.TryLock
progress (Row.GiveLooks m) = Called op.Unlock
progress (Row.GivePends m y) = giving_progress y
progress (Row.GiveUnlinks m y) = giving_progress y
progress (Row.GiveFinds m y) = giving_progress y
progress (Row.Gives m y) = giving_progress y
progress (Row.HandsOn m y is) = given_progress y
progress (Row.LooksBack m y is) = given_progress y
progress (Row.WakesOne m y is) = given_progress y
progress (Row.Trims m is) = Decided OK
progress (Row.MendLooks m) = Called op.Consistent
progress (Row.Mends m) = Called op.Consistent
progress (Row.AnewLooks m) = Called op.Reinit
progress (Row.Anews m v) = Called op.Reinit
progress (Row.WaitLooks m k timed) = Called op.Wait
progress (Row.WaitCounts m k timed died) = Called op.Wait
progress (Row.WaitSets m k n timed) = Called op.Wait
progress (Row.WaitSleeps m k n timed) = Unlocked
progress (Row.WaitAsleep m k n timed) = Unlocked
progress (Row.WaitLate m k n) = Unlocked
progress (Row.CountLooks m k all) = Called (counts_as all)
progress (Row.CountLoads m k all) = Called (counts_as all)
progress (Row.Counts m k all n) = Called (counts_as all)
progress (Row.CountWakes m k n) = Decided OK
progress (Row.AllMarks m k n) = Decided OK
progress (Row.AllMoves m k n) = Decided OK
progress (Row.Unsets m k n) = Decided OK
-- at the slot, and as the heir: only a lock
progress (Row.Late k) = locking k.wrong
progress (Row.LateSees k) = locking k.wrong
progress (Row.SlotPends k g) = locking k.wrong
progress (Row.SlotTakes k g) = locking k.wrong
progress (Row.SlotLeft k) = locking k.wrong
progress (Row.SlotLinks k d) = locking k.wrong
progress (Row.SlotClears k) = locking k.wrong
progress (Row.SlotQuiets k) = locking k.wrong
progress (Row.SlotMends k) = locking k.wrong
progress (Row.HeirPends k b) = locking k.wrong
progress (Row.HeirSets k) = locking k.wrong
progress (Row.HeirLooks k) = locking k.wrong
progress (Row.HeirPendsOn k v over) = locking k.wrong
progress (Row.HeirTakes k v) = locking k.wrong
progress (Row.GivesUp k) = locking k.wrong
progress (Row.LastLooks k) = locking k.wrong
progress (Row.LastMarks k v) = locking k.wrong

-- a lock's point: a lock with a deadline may be out of time
abbrev pub IsOfLock : Decision → Type 0
IsOfLock d = (d.operation ≡ op.Lock) ⊎ ((d.operation ≡ op.TimedLock) × (d.reply ≡ ETIMEDOUT))

-- what such a call may do: have its point, of its own operation. The lock that ends a wait is a lock. A lock whose deadline
-- isn't a time may be refused
abbrev pub MayDo : Progress → Deed → Type 0
MayDo p Nothing = Unit {0}
MayDo (Called op.Lock) (Decides d) = IsOfLock d
MayDo (Called o) (Decides d) = d.operation ≡ o
MayDo (Called op.Wait) (Unlocks d) = (d.operation ≡ op.Unlock) × (d.reply ≡ OK)
MayDo Mistimed (Decides d) = IsOfLock d
MayDo Mistimed (Refuses r) = r ≡ EINVAL
MayDo Unlocked (Decides d) = d.operation ≡ op.Lock
MayDo p e = ⊥

-- how far it is then
abbrev pub after_deed : Progress → Deed → Progress
after_deed p Nothing = p
after_deed p (Unlocks d) = Unlocked
after_deed p (Decides d) = Decided d.reply
after_deed p (Refuses r) = Decided r

-- what a call returns that is decided with this reply: ETIMEDOUT for OK, if it is a wait that is overdue
abbrev pub returned : Reply → Bool → Reply
returned OK true = ETIMEDOUT
returned y overdue = y

-- the reply of a call that is as far as this
abbrev pub replied : Bool → Progress → Option Reply
replied overdue (Decided y) = Some (returned y overdue)
replied overdue p = None

-- ---- what each row does

module _ (x : Slots) (t : ℕ) (c : Choice) where
  -- what the access finds in the cell
  abbrev pub found : ℕ → ℕ
  found m = shown x (cell_place x.machine.layout (cell_of m))

  -- an heir has looked for the last time, and another thread owns the mutex
  abbrev pub late : Taking → Deed
  late k = if k.timed && c.yes then Decides (decided t k.mutex op.TimedLock ETIMEDOUT) else Nothing

  abbrev pub deed : Row → Deed
  -- ---- lock
  deed (Row.Looks k) = if (fields_of (found k.mutex)).owner == t then locks t k.mutex EDEADLK else Nothing
  deed (Row.Sees k) = looked_first t k (found k.mutex)
  deed (Row.Takes k v) =
      if found k.mutex == v then locks t k.mutex (acquired (fields_of v)) else looked_first t k (found k.mutex)
  deed (Row.SeesAgain k v) = looked_first t k (found k.mutex)
  deed (Row.Marks k v n) = if found k.mutex == v then Nothing else looked t k.mutex (found k.mutex)
  deed (Row.LateSees k) = Decides (decided t k.mutex op.TimedLock ETIMEDOUT)
  deed (Row.SeesToSleep k) = looked_to_sleep t k.mutex (found k.mutex)
  deed (Row.HeirTakes k v) = if found k.mutex == v then locks t k.mutex (acquired (fields_of v)) else Nothing
  deed (Row.LastLooks k) =
      if (fields_of (found k.mutex)).unusable then locks t k.mutex ENOTRECOVERABLE
      else if (fields_of (found k.mutex)).owner == 0 then Nothing
      else if (fields_of (found k.mutex)).waiters then late k
      else Nothing
  deed (Row.LastMarks k v) = if found k.mutex == v then late k else Nothing
  -- ---- trylock
  deed (Row.TryLooks m) = if is_free (found m) then Nothing else tried t m (found m)
  deed (Row.TryTakes m v) =
      if found m == v then Decides (decided t m op.TryLock (acquired (fields_of v)))
      else if is_free (found m) then Nothing
      else tried t m (found m)
  -- ---- unlock, and a wait's release
  deed (Row.GiveLooks m) = if (fields_of (found m)).owner == t then Nothing else Decides (decided t m op.Unlock EPERM)
  deed (Row.Gives m y) = gave t m y
  -- ---- consistent, reinit
  deed (Row.MendLooks m) =
      if ((fields_of (found m)).owner == t) && (fields_of (found m)).died then Nothing
      else Decides (decided t m op.Consistent (if (fields_of (found m)).owner == t then EINVAL else EPERM))
  deed (Row.Mends m) = Decides (decided t m op.Consistent OK)
  deed (Row.Anews m v) = if found m == v then Decides (decided t m op.Reinit OK) else Nothing
  -- ---- condition variables
  deed (Row.WaitLooks m k timed) =
      if (fields_of (found m)).owner == t then Nothing else Decides (decided t m op.Wait EPERM)
  deed (Row.WaitCounts m k timed died) = if died then Decides (decided t m op.Wait XSTATE) else Nothing
  deed (Row.CountLooks m k all) =
      if (fields_of (found m)).owner == t then Nothing else Decides (decided t m (counts_as all) EPERM)
  deed (Row.Counts m k all n) = Decides (decided t m (counts_as all) OK)
  -- at all others it does nothing
  deed r = Nothing

  -- what the call returns, if it returns after this access
  abbrev pub reply : Row → Option Reply
  reply r = replied (x.overdue t) (after_deed (progress r) (deed r))

-- ---- one call, one reply

-- it is the thread's own, and of this mutex
abbrev pub IsItsOwn : ℕ → ℕ → Deed → Type 0
IsItsOwn t m (Unlocks d) = (d.thread ≡ t) × (d.mutex ≡ m)
IsItsOwn t m (Decides d) = (d.thread ≡ t) × (d.mutex ≡ m)
IsItsOwn t m e = Unit {0}

-- a call is decided when it returns; but a reinit that finds a usable mutex isn't: there, the C library goes on with a
-- trylock, which is a call of its own here
abbrev pub HasEnded : Row → Progress → Type 0
HasEnded Row.Rests p = p ≡ Idle
HasEnded (Row.AnewLooks m) p = Unit {0}
HasEnded (Row.Anews m v) p = Unit {0}
HasEnded r (Decided y) = Unit {0}
HasEnded r p = ⊥

-- from a row, where the call is as far as this then, it returns or goes on to a row of the same mutex, and is as far there
abbrev pub GoesOn : Row → Progress → Row → Type 0
GoesOn r p Row.Rests = HasEnded r p
GoesOn r p q = (progress q ≡ p) × (about q ≡ about r)

pub record DecidesOnce (x : Slots) (t : ℕ) (c : Choice) (r : Row) : Type 0 where
  pub may : MayDo (progress r) (deed x t c r)
  pub own : IsItsOwn t (about r) (deed x t c r)
  pub goes : GoesOn r (after_deed (progress r) (deed x t c r)) (made x t c r).next
  pub lapses : (progress (lapse_row r) ≡ progress r) × (about (lapse_row r) ≡ about r)

-- in any run, whatever a thread's next access finds, it is its call's point or does nothing; a call has one point, and is
-- decided from then on until it returns. A deadline that passes decides nothing
abbrev pub CallsDecideOnce : Type 0
CallsDecideOnce = (l : Layout') (hs : List Happening) (t : ℕ) (c : Choice) → IsLayout l → 1 ≤ t → t ≤ l.threads
    → AllTrusted (begin l) hs → DecidesOnce (reached l hs) t c ((reached l hs).rows t)

-- a call begins undecided
abbrev pub IsCalled : Progress → Type 0
IsCalled (Called o) = Unit {0}
IsCalled Mistimed = Unit {0}
IsCalled p = ⊥

abbrev pub CallsBeginUndecided : Type 0
CallsBeginUndecided = (l : Layout') (held : ℕ) (r : Row) → may_call l held r ≡ true → IsCalled (progress r)

-- ---- one history

abbrev pub points_in : Deed → List Decision
points_in (Unlocks d) = d ∷ []
points_in (Decides d) = d ∷ []
points_in e = []

-- of our mutexes, among the machine's
abbrev pub is_ours_too : Layout' → ℕ → Bool
is_ours_too l k = not (is_slot k) && nat_lt (our_own k) (our_mutexes l)

abbrev pub ours_among : Layout' → List Decision → List Decision
ours_among l [] = []
ours_among l (d ∷ ds) =
    if is_ours_too l d.mutex
    then decided d.thread (our_own d.mutex) d.operation d.reply ∷ ours_among l ds
    else ours_among l ds

-- the points of a happening: an access's; and the deaths that Linux marks
abbrev pub points_by : Slots → Happening → List Decision
points_by x (Goes t c) =
    if has_thread x.machine t && is_alive (x.machine.threads t).stage && not (is_asleep x.machine t)
    then points_in (deed x t c (x.rows t))
    else []
points_by x (Walks t) =
    if is_dying x.machine t
    then ours_among x.machine.layout (points_of (facts_of (happens x.machine (Step t)).note))
    else []
points_by x h = []

abbrev pub points_of_run : Slots → List Happening → List Decision
points_of_run x [] = []
points_of_run x (h ∷ hs) = points_by x h ++ points_of_run (next x h) hs

-- our mutexes, as their cells say
abbrev pub our_objects : State → ℕ → Object
our_objects s m = if nat_lt m (our_mutexes s.layout) then seen s (cell_of m) else fresh

-- in any run, the points of our calls and the deaths are one legal history from free mutexes, after which each mutex is as
-- its cell says
abbrev pub CallsAreOneHistory : Type 0
CallsAreOneHistory = (l : Layout') (hs : List Happening) → IsLayout l → AllTrusted (begin l) hs
    → Legal (our_mutexes l) opening (points_of_run (begin l) hs) (our_objects (reached l hs).machine)
