-- Unusable mutexes that are reinitialised (pthread_mutex_destroy(3p), pthread_mutex_init(3p)), by the exchange that
-- ends such a call.
--
-- *Nobody is forgotten.* The exchange may meet sleepers: who looked before it saw none, but the mutex may have been
-- reinitialised in between, locked, slept on and made unusable again. So it keeps WAITERS: the law
-- `remakes_forget_nobody`.
--
-- *Nobody joins.* Where a mutex is unusable, whoever sleeps on it after the next event, or after any events in which
-- nobody reinitialises it, slept there before: the law `nobody_joins_an_unusable_mutex`, of every state that events
-- lead to.
use Rattle.std.specs.Prelude.{ℕ, ◌≡◌, ◌≢◌, ◌<◌, ◌≤◌, true, None, List, [], ◌∷◌}
use Rattle.lockword.specs.Cells.{fields_of, bit, waiters_alone}
use Rattle.lockword.specs.declared.reply.Reply.TheVariants.{OK}
use Rattle.posixmutex.specs.declared.point.Operation.TheVariants as operation
use Rattle.memorymap.specs.Layouts.{Layout', IsLayout, cell_place}
use Rattle.posixmutex.specs.Objects.{fresh}
use Rattle.facts.specs.declared.fact.Fact.{Fact}
use Rattle.facts.specs.declared.fact.Fact.TheVariants.{Begin, Point, Return}
use Rattle.protocol.specs.declared.event.Event.{Event}
use Rattle.protocol.specs.declared.event.Event.TheVariants.{Remake}
use Rattle.protocol.specs.declared.thread.Stage.TheVariants.{Idle}
use Rattle.protocol.specs.Notes.{facts_of}
use Rattle.protocol.specs.Machine.{State, nothing, start, happens, run}
use Rattle.protocol.specs.Headline.{seen}
use Rattle.protocol.specs.Sleepers.{Sleeps}

-- ---- a remake

-- thread t, one of the layout, lives and is in no call, and mutex m is unusable
pub record MayRemake (s : State) (t m : ℕ) : Type 0 where
  pub first : 1 ≤ t
  pub last : t ≤ s.layout.threads
  pub resting : (s.threads t).stage ≡ Idle
  pub inside : m < s.layout.mutexes
  pub unusable : (seen s m).unusable ≡ true

-- it is recorded as a call of one event: its begin, its point and its return with OK
abbrev pub reinit_told : ℕ → ℕ → List Fact
reinit_told t m = Begin t (record { operation = operation.Reinit; mutex = m; condition = None })
    ∷ (Point (record { thread = t; mutex = m; operation = operation.Reinit; reply = OK }) ∷ (Return t OK ∷ []))

-- mutex m is reinitialised, from state s to s': it is free, as nobody had locked it yet, and its word has WAITERS
-- where it had, and says nothing else; every other word and mutex is as it was, and every queue and thread
pub record OnlyRemakes (s s' : State) (m : ℕ) : Type 0 where
  pub layout : s'.layout ≡ s.layout
  pub free : seen s' m ≡ fresh
  pub word : s'.words (cell_place s.layout m)
      ≡ bit (fields_of (s.words (cell_place s.layout m))).waiters waiters_alone
  pub words : (p : ℕ) → p ≢ cell_place s.layout m → s'.words p ≡ s.words p
  pub mutexes : (k : ℕ) → k ≢ m → seen s' k ≡ seen s k
  pub queues : (key : ℕ) → s'.queues key ≡ s.queues key
  pub threads : (u : ℕ) → s'.threads u ≡ s.threads u

-- thread t reinitialises mutex m where it may, which is recorded as a reinit; else nothing happens
pub record RemakesSo (s : State) (t m : ℕ) : Type 0 where
  pub anew : MayRemake s t m
      → OnlyRemakes s (happens s (Remake t m)).state m × (facts_of (happens s (Remake t m)).note ≡ reinit_told t m)
  pub else_nothing : ¬ MayRemake s t m → happens s (Remake t m) ≡ nothing s

-- whatever happened, with any values of the counters at the beginning
abbrev pub RemakesForgetNobody : Type 0
RemakesForgetNobody = (l : Layout') (counters : ℕ → ℕ) (events : List Event) → IsLayout l → (t m : ℕ)
    → RemakesSo (run (start l counters) events) t m

-- ---- runs without reinits

-- nobody reinitialises mutex m
abbrev pub NobodyReinits : ℕ → List Event → Type 0
NobodyReinits m [] = Unit {0}
NobodyReinits m (Remake t k ∷ es) = (k ≢ m) × NobodyReinits m es
NobodyReinits m (e ∷ es) = NobodyReinits m es

-- whatever happened, with any values of the counters at the beginning: where mutex m is unusable then, it stays so,
-- whatever else happens after that
abbrev pub UnusableStays : Type 0
UnusableStays = (l : Layout') (counters : ℕ → ℕ) (before after : List Event) (m : ℕ) → IsLayout l
    → (seen (run (start l counters) before) m).unusable ≡ true → NobodyReinits m after
    → (seen (run (run (start l counters) before) after) m).unusable ≡ true

-- ---- who comes to sleep on an unusable mutex

-- from state s on: whoever sleeps on mutex m after the next event slept there before it; so after any events in which
-- nobody reinitialises it
pub record NobodyJoins (s : State) (m : ℕ) : Type 0 where
  pub next : (e : Event) (u : ℕ) → Sleeps (happens s e).state u m → Sleeps s u m
  pub later : (after : List Event) (u : ℕ) → NobodyReinits m after → Sleeps (run s after) u m → Sleeps s u m

-- whatever happened, with any values of the counters at the beginning: so it is of a mutex that is unusable then.
-- Whoever sees nobody sleep there finds nobody there later, as long as the mutex isn't reinitialised
abbrev pub NobodyJoinsAnUnusableMutex : Type 0
NobodyJoinsAnUnusableMutex = (l : Layout') (counters : ℕ → ℕ) (events : List Event) (m : ℕ) → IsLayout l → m < l.mutexes
    → (seen (run (start l counters) events) m).unusable ≡ true → NobodyJoins (run (start l counters) events) m
