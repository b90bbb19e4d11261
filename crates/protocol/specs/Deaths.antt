-- What is recorded of a thread's death (robust-futexes; pthread_mutexattr_getrobust(3p)).
--
-- *Reports deaths.* A killed thread's death is recorded, once, of each mutex that it owned at the kill and has lost
-- since, and of no other. The law `deaths_are_told` states it of every layout, list of events and kill, and
-- `Machine::run` of what the machine did.
use Rattle.std.specs.Prelude.{ℕ, ◌≡◌, ◌≢◌, ◌+◌, ◌<◌, ◌==◌, true, ◌&&◌, ◌⊎◌, Some, List, [], ◌∷◌, ◌++◌, if◌then◌else◌}
use Rattle.memorymap.specs.Layouts.{Layout', IsLayout}
use Rattle.protocol.specs.declared.event.Event.{Event}
use Rattle.protocol.specs.declared.event.Event.TheVariants.{Kill}
use Rattle.facts.specs.declared.fact.Fact.{Fact}
use Rattle.facts.specs.declared.fact.Fact.TheVariants.{Death, Renew}
use Rattle.protocol.specs.declared.thread.Stage.TheVariants.{Reaped}
use Rattle.protocol.specs.Machine.{State, start, run, notes, has_thread, is_alive, killed}
use Rattle.protocol.specs.Headline.{seen, facts_among}

-- how often thread t's death is recorded of mutex m
abbrev pub deaths : ℕ → ℕ → List Fact → ℕ
deaths t m [] = 0
deaths t m (Death u k ∷ fs) = (if (u == t) && (k == m) then 1 else 0) + deaths t m fs
deaths t m (f ∷ fs) = deaths t m fs

-- no renewal of thread t is recorded
abbrev pub IsNotRenewed : ℕ → List Fact → Type 0
IsNotRenewed t [] = Unit {0}
IsNotRenewed t (Renew u ∷ fs) = (u ≢ t) × IsNotRenewed t fs
IsNotRenewed t (f ∷ fs) = IsNotRenewed t fs

-- thread t is killed in state s, and then these events happen: its death is recorded, once, of each mutex that it
-- owned and has lost since, and of no other; so once it is reaped, of each mutex that it owned
pub record ReportsDeath (s : State) (t : ℕ) (events : List Event) : Type 0 where
  pub owned : (m : ℕ) → m < s.layout.mutexes → (seen s m).owner ≡ Some t →
      ((deaths t m (facts_among (notes (killed s t).state events)) ≡ 1)
      × ((seen (run (killed s t).state events) m).owner ≢ Some t))
      ⊎
      ((deaths t m (facts_among (notes (killed s t).state events)) ≡ 0)
      × ((seen (run (killed s t).state events) m).owner ≡ Some t))
  pub others : (m : ℕ) → m < s.layout.mutexes → (seen s m).owner ≢ Some t
      → deaths t m (facts_among (notes (killed s t).state events)) ≡ 0
  pub reaped : (m : ℕ) → m < s.layout.mutexes → (seen s m).owner ≡ Some t
      → ((run (killed s t).state events).threads t).stage ≡ Reaped
      → deaths t m (facts_among (notes (killed s t).state events)) ≡ 1

-- it is so of each kill among the events, wherever it stands, of a thread that lives then, at each moment after it
-- before the thread is renewed: of each life of a thread its own mutexes are recorded
abbrev pub ReportsDeaths : State → List Event → Type 0
ReportsDeaths s events = (before after rest : List Event) (t : ℕ) → events ≡ before ++ Kill t ∷ (after ++ rest)
    → has_thread (run s before) t ≡ true → is_alive ((run s before).threads t).stage ≡ true
    → IsNotRenewed t (facts_among (notes (killed (run s before) t).state after)) → ReportsDeath (run s before) t after

-- whatever happens, with any values of the counters at the beginning
abbrev pub DeathsAreTold : Type 0
DeathsAreTold =
    (l : Layout') (counters : ℕ → ℕ) (events : List Event) → IsLayout l → ReportsDeaths (start l counters) events
