-- What can happen: accesses of our calls, in any order; interruptions, timeouts and deaths at any moment; the kernel's
-- walks; and ids that are used again.
use Rattle.std.specs.Prelude.{ℕ, ◌%◌, ◌^◌, ◌==◌, ◌&&◌, ◌||◌, not, nat_lt, length, slice_index, Bool, true, false, List, [], ◌∷◌, ◌++◌, if◌then◌else◌}
use Rattle.memorymap.specs.Layouts.{Layout', counter_place}
use Rattle.protocol.specs.declared.event.Event.{Event}
use Rattle.protocol.specs.declared.event.Event.TheVariants.{Step, Kill, Leave, Expire, Renew}
use Rattle.protocol.specs.Machine.{put, has_thread, is_alive, is_asleep, is_dying, stands_in}
use Rattle.slots.specs.Places.{our_mutexes, cell_of, slot_of}
use Rattle.slots.specs.Rows.{Choice, How, Row, Taking}
use Rattle.slots.specs.Rows.How.{Tried}
use Rattle.slots.specs.Shown.{Slots, begin, after, shown}
use Rattle.slots.specs.Table.{Made, made}

-- A thread begins one of our calls, at this row; it makes its next access, with this choice of what is left open there;
-- its sleep is interrupted (EINTR); its deadline passes while it sleeps; it is killed; the kernel makes the next access of
-- its walk; after that, another thread gets its id
pub data Happening : Type 0 where
  Calls : ℕ → Row → Happening
  Goes : ℕ → Choice → Happening
  Interrupts : ℕ → Happening
  Lapses : ℕ → Happening
  Dies : ℕ → Happening
  Walks : ℕ → Happening
  Lives : ℕ → Happening

-- ---- what the layer keeps in addition to the machine

-- AWAKE after the access at a row
abbrev pub awake_after : Row → (ℕ → Bool) → ℕ → Bool
awake_after (Row.HeirSets k) awake = put awake k.mutex true
awake_after (Row.SlotQuiets k) awake = put awake k.mutex false
awake_after (Row.HeirHas k r) awake = put awake k.mutex false
awake_after (Row.GivesUp k) awake = put awake k.mutex false
awake_after r awake = awake

-- the time above AWAKE: an heir says when it is awake
abbrev pub turns_after : Row → Choice → (ℕ → ℕ) → ℕ → ℕ
turns_after (Row.HeirSets k) c turns = put turns (slot_of k.mutex) c.time
turns_after r c turns = turns

-- SLEPT
abbrev pub slept_after : Row → (ℕ → Bool) → ℕ → Bool
slept_after (Row.WaitSets m k n timed) slept = put slept k true
slept_after (Row.Unsets m k n) slept = put slept k false
slept_after r slept = slept

-- A call begins at one of these rows
abbrev pub is_first_row : Row → Bool
is_first_row (Row.Looks k) = true
is_first_row (Row.TryLooks m) = true
is_first_row (Row.GiveLooks m) = true
is_first_row (Row.MendLooks m) = true
is_first_row (Row.AnewLooks m) = true
is_first_row (Row.WaitLooks m k timed) = true
is_first_row (Row.CountLooks m k all) = true
is_first_row r = false

-- Whether thread t's wait is *overdue*: its deadline passed in its sleep, and after that the count is still the one on which
-- it slept, so no signal and no broadcast came. No call is overdue when it begins
abbrev pub overdue_after : Slots → ℕ → Row → Bool
overdue_after x t (Row.WaitLate m k n) = shown x (counter_place x.machine.layout k) % 2 ^ 32 == n
overdue_after x t r = x.overdue t && not (is_first_row r)

-- ---- one happening

-- A call is on a mutex and a condition variable that exist. A thread that holds 2,046 of the machine's mutexes doesn't
-- take another, since it may need the cell and the slot. The C library refuses a lock with EAGAIN before that, when the
-- thread owns 2,000 of its mutexes
abbrev pub is_ours : Layout' → ℕ → Bool
is_ours l m = nat_lt m (our_mutexes l)

abbrev pub is_of : Layout' → ℕ → ℕ → Bool
is_of l m k = is_ours l m && nat_lt k (length l.conditions) && (slice_index l.conditions k == cell_of m)

abbrev pub is_first : How → Bool
is_first Tried = true
is_first h = false

-- only a lock with a deadline has one that isn't a time
abbrev pub may_be_due : Taking → Bool
may_be_due k = k.timed || not k.wrong

abbrev pub may_call : Layout' → ℕ → Row → Bool
may_call l held (Row.Looks k) = is_first k.how && is_ours l k.mutex && nat_lt held 2046 && may_be_due k
may_call l held (Row.TryLooks m) = is_ours l m && nat_lt held 2046
may_call l held (Row.GiveLooks m) = is_ours l m
may_call l held (Row.MendLooks m) = is_ours l m
may_call l held (Row.AnewLooks m) = is_ours l m
may_call l held (Row.WaitLooks m k timed) = is_of l m k
may_call l held (Row.CountLooks m k all) = is_of l m k
may_call l held r = false

abbrev pub is_resting : Row → Bool
is_resting Row.Rests = true
is_resting r = false

-- thread t is at this row
abbrev pub at_row : Slots → ℕ → Row → Slots
at_row x t r = record x { rows = put x.rows t r }

-- its next access
abbrev pub made_by : Slots → ℕ → Choice → Made → Slots
made_by x t c g = record (after x g.events) {
  turns = turns_after (x.rows t) c (after x g.events).turns;
  awake = awake_after (x.rows t) x.awake;
  slept = slept_after (x.rows t) x.slept;
  rows = put x.rows t g.next;
  overdue = put x.overdue t (overdue_after x t (x.rows t));
}

-- A deadline passes in a lock's sleep on the cell, or in a wait's sleep. If a broadcast has moved a wait to the cell by
-- then, the machine has no deadline there: this is an interruption
abbrev pub lapse_events : Slots → ℕ → Row → List Event
lapse_events x t (Row.Asleep k) = if k.timed then Expire t ∷ [] else []
lapse_events x t (Row.WaitAsleep m k n true) =
    if stands_in t (x.machine.queues (counter_place x.machine.layout k)) then Expire t ∷ [] else Leave t ∷ []
lapse_events x t r = []

abbrev pub lapse_row : Row → Row
lapse_row (Row.Asleep k) = if k.timed then Row.Late k else Row.Asleep k
lapse_row (Row.WaitAsleep m k n true) = Row.WaitLate m k n
lapse_row r = r

-- a happening that isn't possible changes nothing
abbrev pub next : Slots → Happening → Slots
next x (Calls t r) =
    if has_thread x.machine t && is_alive (x.machine.threads t).stage && is_resting (x.rows t)
    && may_call x.machine.layout (x.machine.threads t).held r
    then at_row x t r
    else x
next x (Goes t c) =
    if has_thread x.machine t && is_alive (x.machine.threads t).stage && not (is_asleep x.machine t)
    then made_by x t c (made x t c (x.rows t))
    else x
next x (Interrupts t) = after x (Leave t ∷ [])
next x (Lapses t) =
    if is_asleep x.machine t then at_row (after x (lapse_events x t (x.rows t))) t (lapse_row (x.rows t)) else x
next x (Dies t) =
    if has_thread x.machine t && is_alive (x.machine.threads t).stage
    then at_row (after x (Kill t ∷ [])) t Row.Rests
    else x
next x (Walks t) = if is_dying x.machine t then after x (Step t ∷ []) else x
next x (Lives t) = after x (Renew t ∷ [])

-- ---- the events that it is

abbrev pub events_of : Slots → Happening → List Event
events_of x (Calls t r) = []
events_of x (Goes t c) =
    if has_thread x.machine t && is_alive (x.machine.threads t).stage && not (is_asleep x.machine t)
    then (made x t c (x.rows t)).events
    else []
events_of x (Interrupts t) = Leave t ∷ []
events_of x (Lapses t) = if is_asleep x.machine t then lapse_events x t (x.rows t) else []
events_of x (Dies t) = if has_thread x.machine t && is_alive (x.machine.threads t).stage then Kill t ∷ [] else []
events_of x (Walks t) = if is_dying x.machine t then Step t ∷ [] else []
events_of x (Lives t) = Renew t ∷ []

-- ---- runs

abbrev pub reached_from : Slots → List Happening → Slots
reached_from x [] = x
reached_from x (h ∷ hs) = reached_from (next x h) hs

abbrev pub reached : Layout' → List Happening → Slots
reached l hs = reached_from (begin l) hs

abbrev pub all_events : Slots → List Happening → List Event
all_events x [] = []
all_events x (h ∷ hs) = events_of x h ++ all_events (next x h) hs
