-- Threads that sleep, and who owes them.
--
-- *Asleep, awake.* A thread sleeps on a mutex where it stands in the queue of the mutex's cell. It is asleep where it
-- stands in the queue of one of the places that its stage has: a call on a mutex has its cell; the lock that ends a
-- wait has its mutex's cell, and the counter of its condition variable until it is moved or woken. It is awake in a
-- call or dying where it stands in no queue. Source: futex(2).
--
-- *Owes.* A thread owes a mutex where, run alone, within this many steps it owns the mutex or one that slept on it
-- sleeps there no more. Whenever a mutex that nobody owns has sleepers, some awake thread owes it, within 9,000
-- steps.
--
-- *Undivided.* A call that no other event divides has its return told after 9,000 steps of its thread at the latest, or
-- its thread sleeps then. What it returns is a reply that the object's step has for the mutex as it was, never X_RACED,
-- and leaves it so; it sleeps only where it locks a mutex that another owns, or waits as the owner of a consistent one,
-- and then in the queue of its condition variable.
--
-- *Runs alone.* The three of every state that events lead to: the laws `no_sleeper_is_stranded` (somebody owes),
-- `lone_threads_come_to_rest` (ends alone) and `undivided_calls_reply` (undivided); and all of them together
-- (`RunsAlone`) in the contract of each of the machine's calls that makes or changes one.
use Rattle.std.specs.Prelude.{ℕ, ◌≡◌, ◌≢◌, ◌<◌, ◌≤◌, ◌⊎◌, true, false, Some, None, Option, List, [], ◌∷◌, replicate}
use Rattle.lockword.specs.declared.reply.Reply.{Reply}
use Rattle.lockword.specs.declared.reply.Reply.TheVariants.{XRACED}
use Rattle.posixmutex.specs.declared.point.Operation.TheVariants.{Lock, Wait}
use Rattle.memorymap.specs.Layouts.{Layout', IsLayout}
use Rattle.posixmutex.specs.Histories.{held_by}
use Rattle.posixmutex.specs.Objects.{Does}
use Rattle.posixmutex.specs.declared.object.Object.{Object}
use Rattle.posixmutex.specs.declared.point.Operation.{Operation}
use Rattle.facts.specs.declared.fact.Queue.{Queue}
use Rattle.facts.specs.declared.fact.Queue.TheVariants.{Condition}
use Rattle.condvar.specs.declared.op.Op.{Op}
use Rattle.condvar.specs.Ops.{acts_as, mutex_of, condition_of}
use Rattle.protocol.specs.Ops.{queue_place}
use Rattle.protocol.specs.declared.event.Event.{Event}
use Rattle.protocol.specs.declared.event.Event.TheVariants.{Begin, Step}
use Rattle.facts.specs.declared.fact.Fact.{Fact}
use Rattle.facts.specs.declared.fact.Fact.TheVariants.{Return}
use Rattle.protocol.specs.Machine.{State, start, run, notes, stands_in, sleepers}
use Rattle.protocol.specs.Machine.{is_busy, is_dying, is_asleep, may_begin}
use Rattle.protocol.specs.Headline.{seen, facts_among}

-- thread t stands in a queue
abbrev pub StandsIn : State → ℕ → Queue → Type 0
StandsIn s t q = stands_in t (s.queues (queue_place s.layout q)) ≡ true

-- thread t sleeps on mutex m
abbrev pub Sleeps : State → ℕ → ℕ → Type 0
Sleeps s t m = stands_in t (sleepers s m) ≡ true

-- nobody owns mutex m
abbrev pub IsUnowned : State → ℕ → Type 0
IsUnowned s m = (seen s m).owner ≡ None

-- thread t is in a call, or killed and not reaped, and stands in no queue
abbrev pub IsAwake : State → ℕ → Type 0
IsAwake s t = ((is_busy s t ≡ true) ⊎ (is_dying s t ≡ true)) × ((key : ℕ) → stands_in t (s.queues key) ≡ false)

-- after n steps of thread t, and of nobody else
abbrev pub alone : State → ℕ → ℕ → State
alone s t n = run s (replicate n (Step t))

-- thread t, run alone, takes mutex m or wakes one that sleeps on it, within n steps
abbrev pub Owes : State → ℕ → ℕ → ℕ → Type 0
Owes s t m n = (k : ℕ) × (k ≤ n)
    × (((seen (alone s t k) m).owner ≡ Some t)
    ⊎ ((u : ℕ) × Sleeps s u m × (stands_in u (sleepers (alone s t k) m) ≡ false)))

-- whenever a mutex that nobody owns has sleepers, some awake thread owes them
abbrev pub SomebodyOwes : State → Type 0
SomebodyOwes s =
    (m u : ℕ) → m < s.layout.mutexes → IsUnowned s m → Sleeps s u m → (t : ℕ) × IsAwake s t × Owes s t m 9000

-- thread t has ended its call, and its walk if it died; or it sleeps
abbrev pub IsAtRest : State → ℕ → Type 0
IsAtRest s t = ((is_busy s t ≡ false) × (is_dying s t ≡ false)) ⊎ (is_asleep s t ≡ true)

-- whoever is awake and runs alone ends its call, falls asleep or is reaped within 9,000 steps
abbrev pub EndsAlone : State → ℕ → Type 0
EndsAlone s t = IsAwake s t → (n : ℕ) × (n ≤ 9000) × IsAtRest (alone s t n) t

-- a fact is one of those told
abbrev pub IsAmong : Fact → List Fact → Type 0
IsAmong f [] = ⊥
IsAmong f (g ∷ gs) = (g ≡ f) ⊎ IsAmong f gs

-- a lock of a mutex that another owns
pub record IsKeptWaiting (o : Object) (t : ℕ) (op : Operation) : Type 0 where
  pub locks : op ≡ Lock
  pub owned : (u : ℕ) × (o.owner ≡ Some u) × (u ≢ t)

-- a wait by the owner of a consistent mutex: then it stands in the queue of its condition variable
pub record IsWaiting (o : Object) (t : ℕ) (op : Operation) (condition : Option ℕ) (s' : State) : Type 0 where
  pub waits : op ≡ Wait
  pub owns : (o.owner ≡ Some t) × (o.inconsistent ≡ false)
  pub there : (k : ℕ) × (condition ≡ Some k) × StandsIn s' t (Condition k)

-- a call and n steps of its thread, which no other event divides: after 9,000 its return has been recorded, or it
-- sleeps. Whatever it returns is a reply of its mutex's object as it was, never X_RACED, and leaves that object as
-- it is then; and it sleeps only where it is a lock of a mutex that another owns, or a wait by the owner of a
-- consistent one, and that in the queue of its condition variable
pub record IsUndivided (s : State) (t : ℕ) (c : Op) (n : ℕ) : Type 0 where
  pub ends : 9000 ≤ n
      → ((x : Reply) × IsAmong (Return t x) (facts_among (notes s (Begin t c ∷ replicate n (Step t)))))
      ⊎ (is_asleep (run s (Begin t c ∷ replicate n (Step t))) t ≡ true)
  pub returns : (x : Reply) → IsAmong (Return t x) (facts_among (notes s (Begin t c ∷ replicate n (Step t))))
      → (x ≢ XRACED)
      × Does (held_by t (seen s) s.layout.mutexes) (seen s (mutex_of s.layout c)) t (acts_as c) x
      (seen (run s (Begin t c ∷ replicate n (Step t))) (mutex_of s.layout c))
  pub sleeps : is_asleep (run s (Begin t c ∷ replicate n (Step t))) t ≡ true
      → IsKeptWaiting (seen s (mutex_of s.layout c)) t (acts_as c)
      ⊎ IsWaiting (seen s (mutex_of s.layout c)) t (acts_as c) (condition_of c)
      (run s (Begin t c ∷ replicate n (Step t)))

-- what thread t can do alone in every state that events lead to: the three together
pub record RunsAlone (s : State) : Type 0 where
  pub owed : SomebodyOwes s
  pub ends : (t : ℕ) → EndsAlone s t
  pub undivided : (t : ℕ) (c : Op) (n : ℕ) → may_begin s t c ≡ true → IsUndivided s t c n

-- whatever happens, with any values of the counters at the beginning: whenever a mutex that nobody owns has sleepers,
-- some awake thread owes them
abbrev pub NoSleeperIsStranded : Type 0
NoSleeperIsStranded =
    (l : Layout') (counters : ℕ → ℕ) (events : List Event) → IsLayout l → SomebodyOwes (run (start l counters) events)

-- whatever happens, so: whoever is awake and runs alone comes to rest
abbrev pub LoneThreadsComeToRest : Type 0
LoneThreadsComeToRest = (l : Layout') (counters : ℕ → ℕ) (events : List Event) → IsLayout l → (t : ℕ)
    → EndsAlone (run (start l counters) events) t

-- whatever happened before, so: a call that may begin, and that no other event divides, returns or sleeps as its
-- mutex's object says
abbrev pub UndividedCallsReply : Type 0
UndividedCallsReply = (l : Layout') (counters : ℕ → ℕ) (events : List Event) → IsLayout l
    → (t : ℕ) (c : Op) (n : ℕ) → may_begin (run (start l counters) events) t c ≡ true
    → IsUndivided (run (start l counters) events) t c n
