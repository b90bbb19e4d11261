-- Accesses of the C library that are several events of the machine at one moment, how many, and what these events leave.
use Rattle.std.specs.Prelude.{ℕ, ◌≡◌, ◌≢◌, ◌<◌, ◌≤◌, ◌+◌, true, false, [], ◌∷◌, length}
use Rattle.lockword.specs.Cells.{fields_of, word_of, taken}
use Rattle.lockword.specs.declared.reply.Reply.{Reply}
use Rattle.lockword.specs.declared.reply.Reply.TheVariants.{ETIMEDOUT}
use Rattle.mutex.specs.Standings.{Whole}
use Rattle.condvar.specs.declared.op.Op.{Op}
use Rattle.protocol.specs.declared.thread.Stage.TheVariants.{Calling}
use Rattle.memorymap.specs.Layouts.{address_in, cell_place, entry_place, head_place}
use Rattle.mutex.specs.declared.call.Call.TheVariants.{TimedLock}
use Rattle.mutex.specs.declared.phase.Phase.TheVariants.{Clearing}
use Rattle.mutex.specs.Rows.{acquired}
use Rattle.protocol.specs.Machine.{State, put, run, stands_in}
use Rattle.slots.specs.Stands.{IsIn, IsLinking, at_load}
use Rattle.slots.specs.Places.{cell_of, is_slot}
use Rattle.slots.specs.Rows.{Choice, Taking, Row}
use Rattle.slots.specs.Rows.Before.{Again}
use Rattle.slots.specs.Shown.{Slots, after, shown}
use Rattle.slots.specs.Words.{is_free, taken_word}
use Rattle.slots.specs.Seen.{begins_behind, expires}
use Rattle.slots.specs.Table.{made}
use Rattle.slots.specs.Invariant.{fields_at, IsHeir}
use Rattle.slots.specs.Laws.{IsEvents, IsReached}
use Rattle.protocol.specs.declared.event.Event.TheVariants.{Step}

-- an access is eight events at most, whatever it finds
abbrev pub AccessesAreFew : Type 0
AccessesAreFew = (x : Slots) (t : ℕ) (c : Choice) (r : Row) → length (made x t c r).events ≤ 8

-- thread t is in the machine's lock of mutex k, at its load, and in no queue
pub record IsAtLock (s : State) (t k : ℕ) : Type 0 where
  pub reached : IsReached s
  pub first : 1 ≤ t
  pub last : t ≤ s.layout.threads
  pub inside : k < s.layout.mutexes
  pub there : IsIn (TimedLock k) at_load (s.threads t).stage
  pub out : (key : ℕ) → stands_in t (s.queues key) ≡ false

-- A lock gives up a mutex that another thread owns, with WAITERS, by a load, a sleep and a timeout. Then the lock's call is
-- decided, and no word, no queue and no other thread has changed; and it owns as many mutexes as before
pub record HasExpired (s s' : State) (t k : ℕ) : Type 0 where
  pub words : (p : ℕ) → s'.words p ≡ s.words p
  pub queues : (key : ℕ) → s'.queues key ≡ s.queues key
  pub others : (u : ℕ) → u ≢ t → s'.threads u ≡ s.threads u
  pub there : IsIn (TimedLock k) (Clearing ETIMEDOUT) (s'.threads t).stage
  pub held : (s'.threads t).held ≡ (s.threads t).held

abbrev pub GivingUpLeavesNothing : Type 0
GivingUpLeavesNothing = (s : State) (t k : ℕ) → IsAtLock s t k → (fields_at s k).owner ≢ 0 → (fields_at s k).owner ≢ t
    → (fields_at s k).unusable ≡ false → (fields_at s k).waiters ≡ true → HasExpired s (run s (expires t)) t k

-- A lock takes a mutex that nobody owns, by load and exchange. One word has changed, that of the mutex, and the thread is about
-- to put the mutex on its list
pub record HasTakenIt (s s' : State) (t k : ℕ) : Type 0 where
  pub word : s'.words (cell_place s.layout k) ≡ word_of (taken (fields_at s k) t)
  pub words : (p : ℕ) → p ≢ cell_place s.layout k → s'.words p ≡ s.words p
  pub queues : (key : ℕ) → s'.queues key ≡ s.queues key
  pub others : (u : ℕ) → u ≢ t → s'.threads u ≡ s.threads u
  pub there : IsLinking (TimedLock k) (acquired (fields_at s k)) (s'.threads t).stage
  pub held : (s'.threads t).held ≡ (s.threads t).held + 1

abbrev pub TakesAreOneExchange : Type 0
TakesAreOneExchange = (s : State) (t k : ℕ) → IsAtLock s t k → (fields_at s k).owner ≡ 0
    → (fields_at s k).unusable ≡ false → HasTakenIt s (run s (Step t ∷ Step t ∷ [])) t k

-- ---- as memory shows it

-- the look of a lock that gives up changes nothing that memory shows
abbrev pub GivingUpIsALook : Type 0
GivingUpIsALook = (x : Slots) (t k : ℕ) → IsAtLock x.machine t k → (fields_at x.machine k).owner ≢ 0
    → (fields_at x.machine k).owner ≢ t → (fields_at x.machine k).unusable ≡ false → (fields_at x.machine k).waiters ≡ true
    → ((p : ℕ) → shown (after x (expires t)) p ≡ shown x p)
    × ((key : ℕ) → (after x (expires t)).machine.queues key ≡ x.machine.queues key)

-- load and take are the exchange of the word that memory shows for the same word, taken, with one turn more
abbrev pub TakesAreTheExchange : Type 0
TakesAreTheExchange = (x : Slots) (t k : ℕ) → IsAtLock x.machine t k → (fields_at x.machine k).owner ≡ 0
    → (fields_at x.machine k).unusable ≡ false → (fields_at x.machine k).rest ≡ 0 → is_slot k ≡ false
    → ((p : ℕ) → shown (after x (Step t ∷ Step t ∷ [])) p
    ≡ put (shown x) (cell_place x.machine.layout k) (taken_word (shown x (cell_place x.machine.layout k)) t) p)
    × ((key : ℕ) → (after x (Step t ∷ Step t ∷ [])).machine.queues key ≡ x.machine.queues key)

-- ---- the heir's own rows

-- the rows at which the slot's owner has AWAKE set, or is setting it, and hasn't taken the cell. An heir exchanges only the
-- word of a free mutex
abbrev pub IsHeirRow : Taking → Row → Type 0
IsHeirRow k (Row.HeirPends j Again) = j ≡ k
IsHeirRow k (Row.HeirSets j) = j ≡ k
IsHeirRow k (Row.HeirLooks j) = j ≡ k
IsHeirRow k (Row.HeirPendsOn j v over) = j ≡ k
IsHeirRow k (Row.HeirTakes j v) = (j ≡ k) × (is_free v ≡ true)
IsHeirRow k r = ⊥

-- whatever it finds there, and however it chooses, it is the cell's heir after its access
abbrev pub HeirsGoOn : Type 0
HeirsGoOn = (x : Slots) (t : ℕ) (c : Choice) (k : Taking) (r : Row) → IsAtLock x.machine t (cell_of k.mutex)
    → (fields_at x.machine (cell_of k.mutex)).rest ≡ 0 → IsHeirRow k r
    → IsHeir (run x.machine (made x t c r).events) (cell_of k.mutex) t

-- ---- one store

-- thread t's call has only to clear what it has pending; the thread is in no queue, and may take another mutex
pub record IsAtClear (s : State) (t : ℕ) : Type 0 where
  pub reached : IsReached s
  pub first : 1 ≤ t
  pub last : t ≤ s.layout.threads
  pub call : Op
  pub whole : Whole
  pub reply : Reply
  pub there : (s.threads t).stage ≡ Calling call whole
  pub clears : whole.phase ≡ Clearing reply
  pub out : (key : ℕ) → stands_in t (s.queues key) ≡ false
  pub room : (s.threads t).held < 2048

-- The thread clears that, begins a lock, and announces the lock's mutex. One word has changed: the pending one is that mutex's entry.
-- And the thread is at the lock's load
pub record HasAnnounced (s s' : State) (t k : ℕ) : Type 0 where
  pub words : (p : ℕ) → s'.words p ≡ put s.words (head_place t + 2) (address_in s.layout t (entry_place s.layout k)) p
  pub queues : (key : ℕ) → s'.queues key ≡ s.queues key
  pub others : (u : ℕ) → u ≢ t → s'.threads u ≡ s.threads u
  pub there : IsIn (TimedLock k) at_load (s'.threads t).stage
  pub held : (s'.threads t).held ≡ (s.threads t).held

abbrev pub AnnouncingIsOneStore : Type 0
AnnouncingIsOneStore = (s : State) (t k : ℕ) → IsAtClear s t → k < s.layout.mutexes
    → HasAnnounced s (run s (begins_behind t (TimedLock k))) t k

-- ---- two rows of an heir

-- an heir's exchange that takes the cell is the events that the table has
abbrev pub HeirTakesAreEvents : Type 0
HeirTakesAreEvents = (x : Slots) (t : ℕ) (c : Choice) (k : Taking) (v : ℕ) → IsAtLock x.machine t (cell_of k.mutex)
    → (fields_at x.machine (cell_of k.mutex)).rest ≡ 0 → x.rows t ≡ Row.HeirTakes k v → is_free v ≡ true
    → shown x (cell_place x.machine.layout (cell_of k.mutex)) ≡ v → IsEvents x t c

-- its last look is too, if it finds that another thread owns the cell, with WAITERS: a load is three events
abbrev pub LastLooksAreEvents : Type 0
LastLooksAreEvents = (x : Slots) (t : ℕ) (c : Choice) (k : Taking) → IsAtLock x.machine t (cell_of k.mutex)
    → (fields_at x.machine (cell_of k.mutex)).rest ≡ 0 → x.rows t ≡ Row.LastLooks k
    → (fields_of (shown x (cell_place x.machine.layout (cell_of k.mutex)))).unusable ≡ false
    → (fields_of (shown x (cell_place x.machine.layout (cell_of k.mutex)))).owner ≢ 0
    → (fields_of (shown x (cell_place x.machine.layout (cell_of k.mutex)))).owner ≢ t
    → (fields_of (shown x (cell_place x.machine.layout (cell_of k.mutex)))).waiters ≡ true → IsEvents x t c
