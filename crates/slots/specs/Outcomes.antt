-- What a call returns: the reply of its point. A wait that has unlocked its mutex returns what its lock got, or ETIMEDOUT for
-- OK if it is late: its deadline passed in its sleep, and no signal had come. A lock whose deadline passes in its sleep
-- returns ETIMEDOUT; and one whose deadline isn't a time is refused if it would have to wait. Sources:
-- pthread_mutex_lock(3p), pthread_mutex_timedlock(3p), pthread_cond_timedwait(3p).
use Rattle.std.specs.Prelude.{ℕ, ◌≡◌, ◌<◌, ◌≤◌, ◌⊎◌, ◌+◌, ◌%◌, ◌^◌, ◌==◌, ◌&&◌, ◌||◌, not, Bool, true, false, Option, Some, None, List, [], ◌∷◌, ◌++◌, length, if◌then◌else◌}
use Rattle.lockword.specs.declared.reply.Reply.{Reply}
use Rattle.lockword.specs.declared.reply.Reply.TheVariants.{OK, EINVAL, ETIMEDOUT}
use Rattle.memorymap.specs.Layouts.{Layout', IsLayout, counter_place}
use Rattle.condvar.specs.Calls.{reply_of}
use Rattle.condvar.specs.declared.call.CondCall.TheVariants.{TimedWait}
use Rattle.condvar.specs.declared.call.Limit.{Limit}
use Rattle.condvar.specs.declared.call.Limit.TheVariants.{Ahead, Past}
use Rattle.posixmutex.specs.declared.point.Decision.{Decision}
use Rattle.posixmutex.specs.declared.point.Operation.{Operation}
use Rattle.posixmutex.specs.declared.point.Operation.TheVariants as op
use Rattle.protocol.specs.Machine.{has_thread, is_alive, is_asleep}
use Rattle.slots.specs.Rows.{Choice, How, Row, about}
use Rattle.slots.specs.Rows.How.{Later, Waited}
use Rattle.slots.specs.Shown.{Slots, begin, shown}
use Rattle.slots.specs.Table.{made}
use Rattle.slots.specs.Runs.{Happening, is_resting, next, reached}
use Rattle.slots.specs.Runs.Happening.{Goes, Lapses}
use Rattle.slots.specs.Deadlines.{has_deadline, is_anothers, is_lock}
use Rattle.slots.specs.Premises.{AllTrusted}
use Rattle.slots.specs.Replies.{Deed, counts_as, decided, deed, points_in, reply}
use Rattle.slots.specs.Replies.Deed.{Unlocks, Refuses}

-- ---- counts

-- the count of condition variable k, as memory shows it
abbrev pub count_of : Slots → ℕ → ℕ
count_of x k = shown x (counter_place x.machine.layout k) % 2 ^ 32

-- at this row a signal or a broadcast of condition variable k counts
abbrev pub counts_at : Row → ℕ → Bool
counts_at (Row.Counts m j all n) k = j == k
counts_at r k = false

-- that access is made
abbrev pub signals_at : Slots → ℕ → Happening → Bool
signals_at x k (Goes t c) =
    if has_thread x.machine t && is_alive (x.machine.threads t).stage && not (is_asleep x.machine t)
    then counts_at (x.rows t) k
    else false
signals_at x k h = false

-- In any run, whatever happens next: a count rises by one at a signal and at a broadcast of its condition variable, and stays at
-- everything else
abbrev pub CountsAreSignals : Type 0
CountsAreSignals = (l : Layout') (hs : List Happening) (h : Happening) (k : ℕ) → IsLayout l → k < length l.conditions
    → AllTrusted (begin l) hs → AllTrusted (reached l hs) (h ∷ [])
    → count_of (next (reached l hs) h) k ≡ count_of (reached l hs) k + (if signals_at (reached l hs) k h then 1 else 0)

-- ---- a call so far

-- it is a wait
abbrev pub is_wait : Row → Bool
is_wait (Row.WaitLooks m k timed) = true
is_wait r = false

-- The row at which a call began, and its points since then; whether its deadline has *passed*, in its sleep; of a wait, whether
-- it was *signalled*: since it unlocked its mutex, a signal or a broadcast of its condition variable has come; and whether it
-- is *late*: it has gone on after its deadline had passed, and hadn't been signalled before that
pub record Call : Type 0 where
  pub began : Row
  pub points : List Decision
  pub passed : Bool
  pub signalled : Bool
  pub late : Bool

abbrev pub begun_at : Row → Call
begun_at r = record { began = r; points = []; passed = false; signalled = false; late = false }

abbrev pub no_call : Call
no_call = begun_at Row.Rests

-- a wait unlocks its mutex
abbrev pub unlocks : Deed → Bool
unlocks (Unlocks d) = true
unlocks e = false

-- after thread t's next access
abbrev pub gone_on : Slots → ℕ → Choice → Call → Call
gone_on x t c s = record {
  began = s.began;
  points = s.points ++ points_in (deed x t c (x.rows t));
  passed = s.passed;
  signalled = s.signalled && not (unlocks (deed x t c (x.rows t)));
  late = s.late || (is_wait s.began && s.passed && not s.signalled);
}

-- it is the lock that ends a wait
abbrev pub ends_wait : How → Bool
ends_wait (Waited z) = true
ends_wait h = false

-- at these rows a call sleeps until its deadline, if it has one: the lock that ends a wait has none
abbrev pub is_in_sleep : Row → Bool
is_in_sleep (Row.Asleep k) = not (ends_wait k.how)
is_in_sleep (Row.WaitAsleep m k n timed) = true
is_in_sleep r = false

-- thread t sleeps so, in a call that began at row b and has a deadline
abbrev pub sleeps_until : Slots → ℕ → Row → Bool
sleeps_until x t b = is_asleep x.machine t && has_deadline b && is_in_sleep (x.rows t)

abbrev pub call_after : Slots → ℕ → Call → Happening → Call
call_after x t s (Goes u c) =
    if (u == t) && has_thread x.machine u && is_alive (x.machine.threads u).stage && not (is_asleep x.machine u)
    then gone_on x t c s
    else s
call_after x t s (Lapses u) = if (u == t) && sleeps_until x t s.began then record s { passed = true } else s
call_after x t s h = s

-- a signal or a broadcast of the condition variable of a wait that began at this row
abbrev pub signals_to : Slots → Row → Happening → Bool
signals_to x (Row.WaitLooks m k timed) h = signals_at x k h
signals_to x r h = false

-- it comes
abbrev pub hears : Slots → Happening → Call → Call
hears x h s = record s { signalled = s.signalled || signals_to x s.began h }

-- of thread t, after this happening
abbrev pub call_next : Slots → ℕ → Call → Happening → Call
call_next x t s h =
    if is_resting (x.rows t) then begun_at ((next x h).rows t) else hears x h (call_after x t s h)

abbrev pub call_from : Slots → ℕ → Call → List Happening → Call
call_from x t s [] = s
call_from x t s (h ∷ hs) = call_from (next x h) t (call_next x t s h) hs

abbrev pub call_so_far : Layout' → List Happening → ℕ → Call
call_so_far l hs t = call_from (begin l) t no_call hs

-- ---- what it returns

-- the machine's wait with a deadline, which has passed, or is still to come
abbrev pub limit : Bool → Limit
limit true = Past
limit false = Ahead

-- thread t's call on mutex m of ours, with these points, returns y
module _ (t m : ℕ) (ds : List Decision) (late : Bool) (y : Reply) where
  abbrev pub IsPoint : Operation → Type 0
  IsPoint o = ds ≡ decided t m o y ∷ []

  -- a lock that its deadline ends: the deadline isn't a time, or it has passed
  abbrev pub IsTurnedAway : Bool → Type 0
  IsTurnedAway true = (ds ≡ []) × (y ≡ EINVAL)
  IsTurnedAway false = IsPoint op.TimedLock × (y ≡ ETIMEDOUT)

  -- a wait on condition variable k that has unlocked its mutex, and has locked it again with reply z: it returns what the
  -- machine's wait does
  abbrev pub HasWaited : ℕ → Type 0
  HasWaited k =
      (z : Reply) × (ds ≡ decided t m op.Unlock OK ∷ decided t m op.Lock z ∷ []) × (y ≡ reply_of (TimedWait k (limit late)) z)

  -- the call began at this row
  abbrev pub EndsAs : Row → Type 0
  EndsAs (Row.Looks k) = IsPoint op.Lock ⊎ IsTurnedAway k.wrong
  EndsAs (Row.TryLooks j) = IsPoint op.TryLock
  EndsAs (Row.GiveLooks j) = IsPoint op.Unlock
  EndsAs (Row.MendLooks j) = IsPoint op.Consistent
  EndsAs (Row.AnewLooks j) = IsPoint op.Reinit
  EndsAs (Row.WaitLooks j k timed) = IsPoint op.Wait ⊎ HasWaited k
  EndsAs (Row.CountLooks j k all) = IsPoint (counts_as all)
  EndsAs r = ⊥

-- a call is a reinit
abbrev pub is_reinit : Row → Bool
is_reinit (Row.AnewLooks m) = true
is_reinit r = false

-- A call returns the reply of its point. A lock whose deadline has passed in its sleep returns ETIMEDOUT. A reinit that finds a
-- usable mutex has no point and no reply: there, the C library goes on with a trylock, which is a call of its own here
abbrev pub Returns : ℕ → Call → Option Reply → Type 0
Returns t s (Some y) = EndsAs t (about s.began) s.points s.late y s.began
    × (is_lock s.began ≡ true → s.passed ≡ true → y ≡ ETIMEDOUT)
Returns t s None = (is_reinit s.began ≡ true) × (s.points ≡ [])

-- in any run, if a thread's call returns after its next access
abbrev pub CallsReturnTheirPoints : Type 0
CallsReturnTheirPoints = (l : Layout') (hs : List Happening) (t : ℕ) (c : Choice) → IsLayout l → 1 ≤ t → t ≤ l.threads
    → AllTrusted (begin l) hs → is_resting ((reached l hs).rows t) ≡ false
    → is_resting (made (reached l hs) t c ((reached l hs).rows t)).next ≡ true
    → Returns t (gone_on (reached l hs) t c (call_so_far l hs t)) (reply (reached l hs) t c ((reached l hs).rows t))

-- ---- deadlines that aren't times

-- it is a lock whose deadline isn't a time
abbrev pub is_mistimed : Row → Bool
is_mistimed (Row.Looks k) = k.wrong
is_mistimed r = false

-- it has been to the slot, or has slept
abbrev pub is_later : How → Bool
is_later Later = true
is_later h = false

-- at these rows a lock has seen that another thread owned the mutex, and waits, or has waited
abbrev pub has_met : Row → Bool
has_met (Row.Sees k) = is_later k.how
has_met (Row.Takes k v) = is_later k.how
has_met (Row.Chooses k v) = true
has_met (Row.SeesAgain k v) = true
has_met (Row.Marks k v n) = true
has_met (Row.SleepsOn k v) = true
has_met (Row.Asleep k) = true
has_met (Row.Late k) = true
has_met (Row.LateSees k) = true
has_met (Row.SlotPends k g) = true
has_met (Row.SlotTakes k g) = true
has_met (Row.SlotLeft k) = true
has_met (Row.SeesToSleep k) = true
has_met (Row.SlotLinks k d) = true
has_met (Row.SlotClears k) = true
has_met (Row.SlotQuiets k) = true
has_met (Row.SlotMends k) = true
has_met (Row.HeirPends k b) = true
has_met (Row.HeirSets k) = true
has_met (Row.HeirLooks k) = true
has_met (Row.HeirPendsOn k v over) = true
has_met (Row.HeirTakes k v) = true
has_met (Row.HeirHas k r) = true
has_met (Row.HeirLinks k r) = true
has_met (Row.GivesUp k) = true
has_met (Row.LastLooks k) = true
has_met (Row.LastMarks k v) = true
has_met (Row.HeirWakes k) = true
has_met (Row.Frees k f) = true
has_met (Row.FreeUnlinks k f) = true
has_met (Row.FreeGives k f) = true
has_met r = false

-- If thread t's call is a lock whose deadline isn't a time, it doesn't wait. If its next access refuses it, it is such a lock,
-- returns EINVAL, and would have to wait: another thread owns the mutex
pub record IsRefusedSo (x : Slots) (t : ℕ) (c : Choice) (s : Call) : Type 0 where
  pub waits : is_mistimed s.began ≡ true → has_met (x.rows t) ≡ false
  pub refused : (y : Reply) → deed x t c (x.rows t) ≡ Refuses y
      → (y ≡ EINVAL) × (is_mistimed s.began ≡ true) × (has_deadline s.began ≡ true)
      × (is_anothers x.machine t (about (x.rows t)) ≡ true)

-- in any run, of a thread in one of our calls
abbrev pub WrongDeadlinesAreRefused : Type 0
WrongDeadlinesAreRefused = (l : Layout') (hs : List Happening) (t : ℕ) (c : Choice) → IsLayout l → 1 ≤ t → t ≤ l.threads
    → AllTrusted (begin l) hs → is_resting ((reached l hs).rows t) ≡ false
    → IsRefusedSo (reached l hs) t c (call_so_far l hs t)
