-- What sections do under a bucket's lock (futex(2)).
--
-- *What sections do under a bucket's lock.* A wait: the thread falls asleep exactly where the low half of the word
-- found there is the expected one, it sleeps nowhere and there is room; else nothing changes. A wake takes the first
-- threads of the key's queue, in order; one of `most_threads` leaves nobody there, one of 1 takes the first, where
-- there is one. A trim is made where nobody sleeps on the word, and nothing is where somebody does; by the word that it
-- found, which it left 0 or as it was, it answers as a trim means it (`Trims`): true only where nobody sleeps there and
-- the word said WAITERS and nothing else. Source: futex(2) FUTEX_WAIT, FUTEX_WAKE; Futexes Are Tricky.
--
-- *A wait of a thread that may be killed.* Under its bucket's lock it goes on only with what `ask` gave, which asks its
-- note (that it does is only tested). Where that tells it to stop, neither the bucket nor the call changes, and its
-- word isn't looked at; else it is a wait.
use Rattle.std.specs.Prelude.{ℕ, ◌≡◌, ◌≢◌, ◌+◌, ◌%◌, ◌^◌, ◌⊎◌, ◌==◌, if◌then◌else◌, Bool}
use Rattle.std.specs.Prelude.{true, MatchBool, Option, None, Some, List, [], ◌∷◌}
use Rattle.lockword.specs.Threads.{most_threads}
use Rattle.buckets.specs.Queues.{Sleepers, standing, Stands, StandsNowhere, Enqueues}
use Rattle.stepprograms.specs.Accesses.{Trims}
use Rattle.ruledwords.specs.declared.pass.Card.{Card}
use Rattle.ruledwords.specs.declared.turn.Running.{Running}
use Rattle.ruledwords.specs.Looks.{Finds}
use Rattle.ruledwords.specs.Changes.{Writes}
use Rattle.threadbench.specs.declared.section.Waited.{Waited}
use Rattle.threadbench.specs.declared.section.Waited.TheVariants.{Asleep, Awake, Stopped}

-- thread t falls asleep on key k: the word n that it saw has the expected low half, it stands in no queue, there is
-- room, and it is put at the end of the key's queue
pub record FallsAsleep (old new : Sleepers) (t k n e : ℕ) : Type 0 where
  pub expected : n % 2 ^ 32 ≡ e
  pub awake : StandsNowhere old t
  pub room : standing old ≢ old.capacity
  pub enqueues : Enqueues old new t k

-- it doesn't: the word differs, the thread stands in a queue already, or as many stand as there is room for. Nothing
-- changes
pub record StaysAwake (old new : Sleepers) (t n e : ℕ) : Type 0 where
  pub cause : (n % 2 ^ 32 ≢ e) ⊎ Stands old t ⊎ (standing old ≡ old.capacity)
  pub same : new ≡ old

abbrev pub Waits : Sleepers → Sleepers → ℕ → ℕ → ℕ → ℕ → Bool → Type 0
Waits old new t k n e slept = MatchBool slept (FallsAsleep old new t k n e) (StaysAwake old new t n e)

-- a wait came to this. A thread that was told to stop doesn't wait, and nothing changes
abbrev pub WaitsUnlessStopped : {N : Type 0} → Sleepers → Sleepers → ℕ → ℕ → ℕ → ℕ → Waited N → Type 0
WaitsUnlessStopped old new t k n e (Asleep a) = FallsAsleep old new t k n e
WaitsUnlessStopped old new t k n e Awake = StaysAwake old new t n e
WaitsUnlessStopped old new t k n e Stopped = new ≡ old

-- it found the word n at the place q, unless it was told to stop
abbrev pub FindsUnlessStopped : {N : Type 0} → Card → ℕ → ℕ → Waited N → Type 0
FindsUnlessStopped c q n Stopped = Unit {0}
FindsUnlessStopped c q n x = Finds c q n

-- one that was told to stop has not looked at its word
abbrev pub StaysIfStopped : {N : Type 0} → Running → Running → Waited N → Type 0
StaysIfStopped r r' Stopped = r' ≡ r
StaysIfStopped r r' x = Unit {0}

-- the thread that fell asleep, and on which key
abbrev pub IsAsleepOn : {N : Type 0} → ℕ → ℕ → Waited N → Type 0
IsAsleepOn t k (Asleep a) = (a.thread ≡ t) × (a.key.0 ≡ k)
IsAsleepOn t k x = Unit {0}

-- how often its thread was told to stop
abbrev pub stops_waiting : {N : Type 0} → Waited N → ℕ
stops_waiting Stopped = 1
stops_waiting x = 0

-- how often it was told so where it has this to show
abbrev pub stops_unless : {A : Type 0} → Option A → ℕ
stops_unless None = 1
stops_unless (Some x) = 0

-- a trim of a word on which these threads sleep, by a thread that knew c and knows d then: it is answered by the word
-- that it found as a trim means it; it is made where nobody sleeps there, and else nothing was done
pub record TrimsThere (queue : List ℕ) (c d : Card) (cleared : Bool) : Type 0 where
  pub means : (after : ℕ) × Trims d.last queue after cleared
  pub made : queue ≡ [] → d.trims ≡ c.trims + 1
  pub still : queue ≢ [] → d ≡ c

-- the same in fewer words: it is answered true only where nobody sleeps there and the word was found to say WAITERS and
-- nothing else; and where somebody sleeps there, the word isn't touched
pub record TrimsNobodys (queue : List ℕ) (c d : Card) (told : Bool) : Type 0 where
  pub cleared : told ≡ true → (queue ≡ []) × (d.last ≡ 0x8000_0000)
  pub spared : queue ≢ [] → d.trims ≡ c.trims

-- where nobody sleeps there, the word at p that the trim found, by which it is answered, is 0 after it if it said
-- WAITERS and nothing else, and else as it was
abbrev pub TrimLeaves : List ℕ → Card → ℕ → Card → Type 0
TrimLeaves queue c p d = queue ≡ [] → Writes c p d.last (if d.last == 0x8000_0000 then 0 else d.last) d

-- a wake of n took these threads out of a queue: a wake of `most_threads`, as many as there are threads at most, takes
-- all, and nobody is left; and one of 1 takes the first, where there is one, and leaves those after it
pub record WakesFirsts (old new : List ℕ) (n : ℕ) (woken : List ℕ) : Type 0 where
  pub all : n ≡ most_threads → (woken ≡ old) × (new ≡ [])
  pub one : (t : ℕ) (behind : List ℕ) → n ≡ 1 → old ≡ t ∷ behind → (woken ≡ t ∷ []) × (new ≡ behind)
