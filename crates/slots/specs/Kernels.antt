-- A wake that newer kernels make in addition: where a walk finds that the pending word is another thread's, without
-- WAITERS, they wake one that sleeps there. Source: futex_core.c, handle_futex_death.
--
-- At the moment of the walk's look, nobody sleeps there, so a wake at that moment changes nothing. Between the look and the
-- wake, another thread may set WAITERS and fall asleep. That thread is woken, as by a signal handler. So what follows speaks
-- of kernels that may wake one that sleeps on any mutex, at any moment.
use Rattle.std.specs.Prelude.{ℕ, ◌≡◌, ◌≤◌, ◌<◌, nat_lt, drop, false, List, [], ◌∷◌, if◌then◌else◌}
use Rattle.stepprograms.specs.declared.access.Access.TheVariants.{Wake}
use Rattle.memorymap.specs.Layouts.{Layout', IsLayout, address_in, cell_place}
use Rattle.protocol.specs.Machine.{State, put, queues_after, words_after}
use Rattle.slots.specs.Shown.{Slots, begin}
use Rattle.slots.specs.Runs.{Happening, next, reached}
use Rattle.slots.specs.Invariant.{fields_at}
use Rattle.slots.specs.Laws.{IsReached}
use Rattle.slots.specs.Goes.{who}
use Rattle.slots.specs.Premises.{AllTrusted, TrustsIn}

-- a wake of at most n at mutex k, by thread t, changes no word and no queue
pub record WakesNobody (s : State) (t k n : ℕ) : Type 0 where
  pub nobody : s.queues (cell_place s.layout k) ≡ []
  pub words : (p : ℕ) → words_after s t (Wake (address_in s.layout t (cell_place s.layout k)) n) p ≡ s.words p
  pub queues : (p : ℕ) → queues_after s t (Wake (address_in s.layout t (cell_place s.layout k)) n) p ≡ s.queues p

-- In every state of the machine, nobody sleeps on a mutex without WAITERS. So a wake there changes nothing
abbrev pub WakesWithoutWaitersWakeNobody : Type 0
WakesWithoutWaitersWakeNobody = (s : State) (t k n : ℕ) → IsReached s → 1 ≤ t → t ≤ s.layout.threads
    → k < s.layout.mutexes → (fields_at s k).waiters ≡ false → WakesNobody s t k n

-- ---- runs

-- what happens in any kernel; or a kernel wakes one that sleeps on this mutex of the machine
pub data AnyHappening : Type 0 where
  Happens : Happening → AnyHappening
  Rouses : ℕ → AnyHappening

-- a queue without its first
abbrev pub without_one : List ℕ → List ℕ
without_one q = drop 1 q

-- the first that sleeps there leaves the queue. It goes on as after any wake
abbrev pub roused : Slots → ℕ → Slots
roused x k = record x {
  machine = record x.machine {
    queues = put x.machine.queues (cell_place x.machine.layout k) (without_one (x.machine.queues (cell_place x.machine.layout k)));
  };
}

abbrev pub next_in_any : Slots → AnyHappening → Slots
next_in_any x (Happens h) = next x h
next_in_any x (Rouses k) = if nat_lt k x.machine.layout.mutexes then roused x k else x

abbrev pub reached_in_any : Slots → List AnyHappening → Slots
reached_in_any x [] = x
reached_in_any x (a ∷ ks) = reached_in_any (next_in_any x a) ks

-- each happening is of one of the layout's threads, and has what the laws of runs take for granted of it. Of a kernel's wake
-- nothing is taken for granted
abbrev pub AllTrustedInAny : Slots → List AnyHappening → Type 0
AllTrustedInAny x [] = Unit {0}
AllTrustedInAny x (Happens h ∷ ks) =
    ((1 ≤ who h) × (who h ≤ x.machine.layout.threads) × TrustsIn x h) × AllTrustedInAny (next x h) ks
AllTrustedInAny x (Rouses k ∷ ks) = AllTrustedInAny (next_in_any x (Rouses k)) ks

-- where the word has no WAITERS, such a wake changes nothing
abbrev pub RousesNobody : Type 0
RousesNobody = (x : Slots) (k : ℕ) → IsReached x.machine → (fields_at x.machine k).waiters ≡ false
    → next_in_any x (Rouses k) ≡ x

-- whatever such a kernel leads to, a run without these wakes leads to the same state. So the laws of all runs hold of it
abbrev pub AnyKernelWillDo : Type 0
AnyKernelWillDo = (l : Layout') (ks : List AnyHappening) → IsLayout l → AllTrustedInAny (begin l) ks
    → (hs : List Happening) × AllTrusted (begin l) hs × (reached_in_any (begin l) ks ≡ reached l hs)
