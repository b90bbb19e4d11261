-- What a call that has seen a word goes on to, and the events of the machine of which several accesses are made.
use Rattle.std.specs.Prelude.{ℕ, ◌==◌, Bool, true, false, List, [], ◌∷◌, ◌++◌, if◌then◌else◌}
use Rattle.lockword.specs.Cells.{fields_of}
use Rattle.lockword.specs.declared.reply.Reply.TheVariants.{EINVAL, EDEADLK, ENOTRECOVERABLE}
use Rattle.mutex.specs.declared.call.Call.{Call}
use Rattle.mutex.specs.declared.call.Call.TheVariants as call
use Rattle.condvar.specs.declared.call.CondCall.{CondCall}
use Rattle.condvar.specs.declared.call.CondCall.TheVariants as cond_call
use Rattle.condvar.specs.declared.call.Limit.TheVariants.{Ahead}
use Rattle.condvar.specs.declared.op.Op.TheVariants.{OnMutex}
use Rattle.protocol.specs.declared.event.Event.{Event}
use Rattle.protocol.specs.declared.event.Event.TheVariants.{Begin, Step, Expire}
use Rattle.protocol.specs.declared.event.LeftTo.{LeftTo}
use Rattle.protocol.specs.declared.event.LeftTo.TheVariants as left_to
use Rattle.protocol.specs.Machine.{State, is_left_to}
use Rattle.slots.specs.Places.{cell_of, slot_of}
use Rattle.slots.specs.Rows.{How, Taking, Row}
use Rattle.slots.specs.Rows.How.{Tried, Later, Waited}
use Rattle.slots.specs.Rows.Then.{ToSleep}

-- ---- events

-- A call of the machine begins and announces its mutex. If the last call has still to clear what it had pending, it does
-- that first: all this is one store in C
abbrev pub begins : ℕ → Call → List Event
begins t c = Begin t (OnMutex c) ∷ Step t ∷ []

abbrev pub begins_behind : ℕ → Call → List Event
begins_behind t c = Step t ∷ Begin t (OnMutex c) ∷ Step t ∷ []

-- an unlock of the slot, which its thread owns, after a call that has still to clear what it had pending
abbrev pub frees : ℕ → ℕ → List Event
frees t m = Step t ∷ Begin t (OnMutex (call.Unlock (slot_of m))) ∷ Step t ∷ Step t ∷ []

-- the machine's lock sees that the cell is owned, with WAITERS, falls asleep, and times out; or it sets WAITERS first
abbrev pub expires : ℕ → List Event
expires t = Step t ∷ Step t ∷ Expire t ∷ []

abbrev pub sets_and_expires : ℕ → List Event
sets_and_expires t = Step t ∷ expires t

abbrev pub wait_of : ℕ → Bool → CondCall
wait_of c true = cond_call.TimedWait c Ahead
wait_of c false = cond_call.Wait c

-- the thread to which a wake is left
abbrev pub heir_of : State → ℕ → ℕ → LeftTo
heir_of s t k =
    if is_left_to s t k left_to.Thread then left_to.Thread
    else if is_left_to s t k left_to.Owner then left_to.Owner
    else left_to.Walk

-- ---- a lock has seen the word w of the cell

abbrev pub later : Taking → Taking
later k = record { mutex = k.mutex; how = Later; timed = k.timed; wrong = k.wrong }

-- the lock that ends a wait: it has no deadline
abbrev pub retakes : ℕ → ℕ → Taking
retakes m c = record { mutex = m; how = Waited c; timed = false; wrong = false }

abbrev pub unusable_row : ℕ → ℕ → Row
unusable_row m w =
    if (fields_of w).waiters then Row.WakesAll m ENOTRECOVERABLE else Row.Clears m ENOTRECOVERABLE

-- a deadline that isn't a time is an error only if the lock has to wait
abbrev pub owned_row : Taking → How → ℕ → Row
owned_row k Tried w = if k.wrong then Row.Clears k.mutex EINVAL else Row.Chooses k w
owned_row k h w = Row.Chooses k w

-- it sleeps, whatever the slot is
abbrev pub sleep_row : Taking → ℕ → Row
sleep_row k w = if (fields_of w).waiters then Row.SleepsOn k w else Row.Marks k w ToSleep

abbrev pub seen_row : ℕ → Taking → ℕ → Row
seen_row t k w =
    if (fields_of w).unusable then unusable_row k.mutex w
    else if (fields_of w).owner == 0 then Row.Takes k w
    else if (fields_of w).owner == t then Row.Clears k.mutex EDEADLK
    else owned_row k k.how w

-- it was at the slot, or has given it up
abbrev pub seen_to_sleep : Taking → ℕ → Row
seen_to_sleep k w =
    if (fields_of w).unusable then unusable_row k.mutex w
    else if (fields_of w).owner == 0 then Row.Takes k w
    else sleep_row k w

-- A trylock is decided. Or a lock is decided, or times out: then its entry is still pending, and another call follows. The
-- lock that ends a wait has no deadline
abbrev pub seen_events : ℕ → ℕ → How → ℕ → List Event
seen_events t m Tried w =
    if (fields_of w).unusable
    then (if (fields_of w).waiters then Step t ∷ (begins_behind t (call.TimedLock (cell_of m)) ++ Step t ∷ []) else Step t ∷ [])
    else if (fields_of w).owner == 0 then []
    else Step t ∷ []
seen_events t m Later w =
    if (fields_of w).unusable then Step t ∷ []
    else if (fields_of w).owner == 0 then []
    else if (fields_of w).owner == t then Step t ∷ []
    else if (fields_of w).waiters then expires t
    else []
seen_events t m (Waited c) w =
    if (fields_of w).unusable then Step t ∷ []
    else if (fields_of w).owner == 0 then []
    else if (fields_of w).owner == t then Step t ∷ []
    else if (fields_of w).waiters then Step t ∷ []
    else []

-- it looks again after that: a trylock is made again; a lock that has timed out is made again; another has still to look
abbrev pub again_events : ℕ → ℕ → How → ℕ → List Event
again_events t m Tried v = begins_behind t (call.TryLock (cell_of m))
again_events t m Later v = if (fields_of v).waiters then begins_behind t (call.TimedLock (cell_of m)) else []
again_events t m (Waited c) v = []
