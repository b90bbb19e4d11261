-- The machine with a store buffer for each thread, as x86-TSO describes processors (Sewell, Sarkar, Owens, Zappa
-- Nardelli and Myreen, 2010; Intel's Software Developer's Manual, volume 3A, "Memory Ordering"). More may happen here
-- than there: of all locked instructions only a release waits for the buffer.
use Rattle.std.specs.Prelude.{ℕ, ◌≡◌, ◌+◌, ◌⊎◌, Bool, true, false, List, [], ◌∷◌, ◌++◌, if◌then◌else◌}
use Rattle.stepprograms.specs.declared.access.Access.{Access}
use Rattle.stepprograms.specs.declared.access.Access.TheVariants as access
use Rattle.memorymap.specs.Layouts.{Layout', head_place, head_word, cell_place}
use Rattle.mutex.specs.Whole.{whole_access}
use Rattle.condvar.specs.Whole.{cond_access}
use Rattle.exitwalk.specs.Walks as exit
use Rattle.protocol.specs.declared.event.Event.{Event}
use Rattle.protocol.specs.declared.event.Event.TheVariants.{Step, Kill, Renew, Remake}
use Rattle.protocol.specs.declared.thread.Stage.{Stage}
use Rattle.protocol.specs.declared.thread.Stage.TheVariants.{Calling, AtCondition, Dying}
use Rattle.protocol.specs.declared.note.Note.{Note}
use Rattle.protocol.specs.declared.note.Note.TheVariants.{Nothing}
use Rattle.protocol.specs.Explained.{caller}
use Rattle.protocol.specs.Machine.{State, After, put, start, place_met, is_met, happens}

-- ---- stores that wait

-- a store on its way to memory: the place of its word, and its value
pub record Store : Type 0 where
  pub at : ℕ
  pub value : ℕ

-- the machine, whose words are those in memory, and for each thread its buffer: its stores that wait, the oldest first
pub record Buffered : Type 0 where
  pub memory : State
  pub buffers : ℕ → List Store

-- nothing waits at first
abbrev pub start_buffered : Layout' → (ℕ → ℕ) → Buffered
start_buffered l counters = record { memory = start l counters; buffers = λ t. [] }

-- a store to this place is among them
abbrev pub Waits : ℕ → List Store → Type 0
Waits p [] = ⊥
Waits p (x ∷ xs) = (x.at ≡ p) ⊎ Waits p xs

-- the words once these stores have reached them, one after the other
abbrev pub stored : List Store → (ℕ → ℕ) → ℕ → ℕ
stored [] words = words
stored (x ∷ xs) words = stored xs (put words x.at x.value)

abbrev pub with_words : State → (ℕ → ℕ) → State
with_words s words = record s { words = words }

-- ---- stores that reach memory

-- thread t's buffer is this: its oldest store, if any waits, reaches memory
abbrev pub drained : Buffered → ℕ → List Store → Buffered
drained b t [] = b
drained b t (x ∷ xs) =
    record { memory = with_words b.memory (put b.memory.words x.at x.value); buffers = put b.buffers t xs }

-- all of thread t's do
abbrev pub flushed : Buffered → ℕ → Buffered
flushed b t =
    record { memory = with_words b.memory (stored (b.buffers t) b.memory.words); buffers = put b.buffers t [] }

-- ---- what a thread sees

-- a load finds its thread's youngest store of the word where one waits, and else memory. A dead thread's walk finds
-- memory: it is another thread's, or the kernel's, that makes it
abbrev pub words_seen : List Store → (ℕ → ℕ) → Stage → ℕ → ℕ
words_seen xs words (Dying w) = words
words_seen xs words g = stored xs words

abbrev pub view : Buffered → ℕ → State
view b t = with_words b.memory (words_seen (b.buffers t) b.memory.words (b.memory.threads t).stage)

-- ---- what an event does with its thread's buffer

-- it leaves the buffer; these stores wait at its end; the word at this place is written in memory, whatever waits; or
-- all that waits reaches memory before the event is made there
pub data Way : Type 0 where
  Keeps : Way
  Appends : List Store → Way
  Writes : ℕ → Way
  Flushes : Way

-- a load leaves it, and a store waits. An exchange or a fetch, a locked instruction, writes its word in memory. A
-- release, which is the one fetch-xor, flushes first: after it others may own the mutex, and store its links. (On x86
-- each locked instruction flushes: drains right before it.) A trim, by the kernel under a bucket's lock, writes its
-- word too. The kernel's other sections change no word, and a driver that knows that nobody sleeps leaves them out
abbrev pub way_of : Layout' → ℕ → Access → Way
way_of l t (access.Load at) = Keeps
way_of l t (access.Store at v) =
    if is_met l t (access.Store at v)
    then Appends (record { at = place_met l t (access.Store at v); value = v } ∷ [])
    else Keeps
way_of l t (access.Wait at e) = Keeps
way_of l t (access.Wake at n) = Keeps
way_of l t (access.Requeue from n to k) = Keeps
way_of l t (access.CmpRequeue from e n to k) = Keeps
way_of l t (access.FetchXor at o) = Flushes
way_of l t a = Writes (place_met l t a)

-- the next access of a thread that is there
abbrev pub way_at : Layout' → ℕ → Stage → Way
way_at l t (Calling o p) = way_of l t (whole_access p)
way_at l t (AtCondition c p) = way_of l t (cond_access p)
way_at l t (Dying w) = way_of l t (exit.access_of w)
way_at l t g = Keeps

-- the stores that make thread t's head as it was at first: its first entry, the offset, and nothing pending
abbrev pub head_store : Layout' → ℕ → ℕ → Store
head_store l t k = record { at = head_place t + k; value = head_word l (head_place t + k) }

abbrev pub head_stores : Layout' → ℕ → List Store
head_stores l t = head_store l t 0 ∷ head_store l t 1 ∷ head_store l t 2 ∷ []

-- an event that applies: a thread that dies flushes, since the kernel says by a locked instruction of that very thread
-- that it is dead (in the C driver it marks the thread's token: robust-futexes), and nobody begins a walk before; a
-- renewed thread stores its head itself; a remake is an exchange; and a begin, a leave, an expiry, a decline and a
-- spare write nothing
abbrev pub way_by : State → Event → Way
way_by s (Step t) = way_at s.layout t (s.threads t).stage
way_by s (Kill t) = Flushes
way_by s (Renew t) = Appends (head_stores s.layout t)
way_by s (Remake t m) = Writes (cell_place s.layout m)
way_by s e = Keeps

abbrev pub is_noted : Note → Bool
is_noted Nothing = false
is_noted n = true

-- one that doesn't apply, as the step of a thread that sleeps, is noted as nothing, and leaves the buffer
abbrev pub way : State → Event → Note → Way
way s e n = if is_noted n then way_by s e else Keeps

-- ---- one event

-- event e as its thread sees the words
abbrev pub seen_by : Buffered → Event → After
seen_by b e = happens (view b (caller e)) e

-- what it leaves, that came to a on its thread's view
abbrev pub left_by : Buffered → Event → After → Way → Buffered
left_by b e a Keeps = record { memory = with_words a.state b.memory.words; buffers = b.buffers }
left_by b e a (Appends xs) = record {
  memory = with_words a.state b.memory.words;
  buffers = put b.buffers (caller e) (b.buffers (caller e) ++ xs);
}
left_by b e a (Writes at) =
    record { memory = with_words a.state (put b.memory.words at (a.state.words at)); buffers = b.buffers }
left_by b e a Flushes =
    record { memory = (happens (flushed b (caller e)).memory e).state; buffers = (flushed b (caller e)).buffers }

-- ---- runs

-- an event of the machine; or the oldest store of a thread reaches memory
pub data Happening : Type 0 where
  Happens : Event → Happening
  Drain : ℕ → Happening

abbrev pub next : Buffered → Happening → Buffered
next b (Happens e) = left_by b e (seen_by b e) (way b.memory e (seen_by b e).note)
next b (Drain t) = drained b t (b.buffers t)

abbrev pub run_buffered : Buffered → List Happening → Buffered
run_buffered b [] = b
run_buffered b (h ∷ hs) = run_buffered (next b h) hs

-- one note an event: a store that reaches memory is none
abbrev pub noted : Buffered → List Happening → List Note
noted b [] = []
noted b (Happens e ∷ hs) = (seen_by b e).note ∷ noted (next b (Happens e)) hs
noted b (Drain t ∷ hs) = noted (next b (Drain t)) hs

-- the events alone
abbrev pub without_drains : List Happening → List Event
without_drains [] = []
without_drains (Happens e ∷ hs) = e ∷ without_drains hs
without_drains (Drain t ∷ hs) = without_drains hs
