-- Sleepers that leave their queue by themselves (futex(2), EINTR), and trims that are declined.
use Rattle.std.specs.Prelude.{ℕ, ◌≡◌, ◌≢◌, ◌≤◌, List, [], ◌∷◌}
use Rattle.buckets.specs.Queues.{without}
use Rattle.memorymap.specs.Layouts.{Layout', IsLayout}
use Rattle.protocol.specs.declared.event.Event.{Event}
use Rattle.protocol.specs.declared.event.Event.TheVariants.{Step, Leave, Expire, Decline}
use Rattle.facts.specs.declared.fact.Fact.TheVariants.{Wake}
use Rattle.protocol.specs.Notes.{facts_of}
use Rattle.protocol.specs.Machine.{State, start, happens, run, notes}
use Rattle.protocol.specs.Headline.{facts_among}
use Rattle.protocol.specs.Wakings.{nobody, NameFronts}
use Rattle.protocol.specs.Applies.{IsInAQueue, IsInNoQueue, IsAboutToTrim}

-- ---- leaves

-- thread t leaves, from state s to s': no word changes, and no thread, so each is in its call where it stood; and
-- from the queues nobody else goes
pub record OnlyLeaves (s s' : State) (t : ℕ) : Type 0 where
  pub words : (p : ℕ) → s'.words p ≡ s.words p
  pub threads : (u : ℕ) → s'.threads u ≡ s.threads u
  pub queues : (key : ℕ) → s'.queues key ≡ without t (s.queues key)
  pub gone : IsInNoQueue s' t

-- of a thread that sleeps a wake is recorded, and nothing else
abbrev pub LeavesSo : State → ℕ → Type 0
LeavesSo s t =
    OnlyLeaves s (happens s (Leave t)).state t × (IsInAQueue s t → facts_of (happens s (Leave t)).note ≡ Wake t ∷ [])

-- ---- declines

-- thread t's trim is declined, from state s to s': no word and no queue changes, and no other thread; it goes on as
-- after a trim that was made
pub record OnlyDeclines (s s' : State) (t : ℕ) : Type 0 where
  pub words : (p : ℕ) → s'.words p ≡ s.words p
  pub queues : (key : ℕ) → s'.queues key ≡ s.queues key
  pub others : (u : ℕ) → u ≢ t → s'.threads u ≡ s.threads u
  pub goes_on : IsAboutToTrim s t → s'.threads t ≡ (happens s (Step t)).state.threads t

-- nothing is recorded of it
abbrev pub DeclinesSo : State → ℕ → Type 0
DeclinesSo s t = OnlyDeclines s (happens s (Decline t)).state t × (facts_of (happens s (Decline t)).note ≡ [])

-- ---- runs

-- whatever happened, with any values of the counters at the beginning: so does each thread
pub record LeavesAndDeclines (l : Layout') (s : State) : Type 0 where
  pub leaves : (t : ℕ) → 1 ≤ t → t ≤ l.threads → LeavesSo s t
  pub declines : (t : ℕ) → 1 ≤ t → t ≤ l.threads → DeclinesSo s t

abbrev pub LeavesAreLone : Type 0
LeavesAreLone = (l : Layout') (counters : ℕ → ℕ) (events : List Event) → IsLayout l
    → LeavesAndDeclines l (run (start l counters) events)

-- nobody leaves by itself or is out of time
abbrev pub NobodyLeaves : List Event → Type 0
NobodyLeaves [] = Unit {0}
NobodyLeaves (Leave t ∷ es) = ⊥
NobodyLeaves (Expire t ∷ es) = ⊥
NobodyLeaves (e ∷ es) = NobodyLeaves es

-- where nobody does, whoever is told to be woken is the front of a queue
abbrev pub FrontsAreWoken : Type 0
FrontsAreWoken = (l : Layout') (counters : ℕ → ℕ) (events : List Event) → IsLayout l → NobodyLeaves events
    → NameFronts l nobody (facts_among (notes (start l counters) events))
