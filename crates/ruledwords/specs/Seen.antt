-- What a pass has seen of each mutex, and what its thread holds by that.
--
-- What is seen of a mutex is a legal list of its points: from a mutex that nobody has locked yet, each is a step of the
-- mutex as POSIX has it. Between passes that never met, no order is claimed.
--
-- *Seen.* What a thread's pass knows of each mutex, by the place of its cell: a list of its points by the layout's
-- threads, legal from a free mutex on. A call adds to it the points that others made before, and then its own points,
-- the last of them at the end; of its own thread the list has just the points that it made. Of a call in which its
-- thread died it has a beginning of the call's points. A call of which no point counts (`count_acts`) changes no word
-- but its mutex's cell. By those it holds as many mutexes as it took and didn't release. Nothing is said of the order
-- between passes that never met.
--
-- *Joined.* Two passes that met see one legal list of each mutex, which begins with what either had seen; of each of
-- the two threads it has just that thread's points. So no mutex is held by both.
use Rattle.std.specs.Prelude.{◌≡◌, ◌≢◌, ℕ, ◌+◌, ◌≤◌, ◌==◌, Bool, true, false}
use Rattle.std.specs.Prelude.{List, [], ◌∷◌, ◌++◌, filter, map, if◌then◌else◌}
use mathlib.Core.List.{IsPrefix}
use Rattle.lockword.specs.declared.reply.Reply.{Reply}
use Rattle.lockword.specs.declared.reply.Reply.TheVariants.{OK, EOWNERDEAD}
use Rattle.posixmutex.specs.declared.point.Operation.{Operation}
use Rattle.posixmutex.specs.declared.point.Operation.TheVariants.{Lock, TryLock, Unlock, Death, Reinit}
use Rattle.posixmutex.specs.declared.point.Point.{Point}
use Rattle.posixmutex.specs.declared.object.Object.{Object}
use Rattle.posixmutex.specs.Objects.{fresh, Run}
use Rattle.condvar.specs.Laws.{reply_counts}
use Rattle.facts.specs.Lives.{Act, Beginning}
use Rattle.ruledwords.specs.declared.pass.Card.{Card}
use Rattle.ruledwords.specs.Cards.{at}
use Rattle.ruledwords.specs.Changes.{ChangedNone, KnowsOn}

-- the points that thread t made
abbrev pub by : ℕ → List Point → List Point
by t xs = filter (λ (x : Point). x.thread == t) xs

-- they are points of the mutex whose cell is at p, by threads 1 to n, and none reinitialises the mutex: no running
-- thread does that
abbrev pub AllOf : ℕ → ℕ → List Point → Type 0
AllOf n p [] = Unit {0}
AllOf n p (x ∷ xs) = ((x.at ≡ p) × (1 ≤ x.thread) × (x.thread ≤ n) × (x.operation ≢ Reinit)) × AllOf n p xs

-- a legal list of such points leaves the mutex as o
abbrev pub Leaves : ℕ → ℕ → List Point → Object → Type 0
Leaves n p xs o = Run fresh xs o × AllOf n p xs

-- what the card's thread has seen of each mutex is legal
abbrev pub IsLegal : Card → Type 0
IsLegal c = (p : ℕ) → (o : Object) × Leaves c.threads p (at c.seen p) o

-- whether its thread holds the mutex after a point
abbrev pub holds_after : Bool → Operation → Reply → Bool
holds_after b Lock OK = true
holds_after b Lock EOWNERDEAD = true
holds_after b TryLock OK = true
holds_after b TryLock EOWNERDEAD = true
holds_after b Unlock OK = false
holds_after b Death OK = false
holds_after b op r = b

abbrev pub held_after : Bool → List Point → Bool
held_after b [] = b
held_after b (x ∷ xs) = held_after (holds_after b x.operation x.reply) xs

-- by its own points among these, thread t holds the mutex
abbrev pub holds : ℕ → List Point → Bool
holds t xs = held_after false (by t xs)

abbrev pub count_held : ℕ → List (List Point) → ℕ
count_held t [] = 0
count_held t (xs ∷ xss) = (if holds t xs then 1 else 0) + count_held t xss

-- how many mutexes the card's thread holds by its own points
abbrev pub held : Card → ℕ
held c = count_held c.thread c.seen

-- a step at p: after what its thread had seen stand other threads' points, then the step's own if it is one, and all of
-- that is legal and leaves o. What it saw elsewhere stays
pub record Sees (c : Card) (p : ℕ) (new : List Point) (o : Object) (d : Card) : Type 0 where
  pub thread : d.thread ≡ c.thread
  pub threads : d.threads ≡ c.threads
  pub base : d.base ≡ c.base
  pub elsewhere : (q : ℕ) → q ≢ p → at d.seen q ≡ at c.seen q
  pub between : List Point
  pub grows : at d.seen p ≡ (at c.seen p ++ between) ++ new
  pub own : by c.thread (at d.seen p) ≡ by c.thread (at c.seen p) ++ new
  pub leaves : Leaves c.threads p (at d.seen p) o

-- the points of thread t at p that decided so
abbrev pub points_of : ℕ → ℕ → List Act → List Point
points_of t p acts = map (λ (a : Act). record { thread = t; at = p; operation = a.0; reply = a.1 }) acts

-- how many of these acts count at a condition variable's counter: the signals and the broadcasts that were returned
-- OK
abbrev pub count_acts : List Act → ℕ
count_acts [] = 0
count_acts (a ∷ acts) = reply_counts a.0 a.1 + count_acts acts

-- a thread saw more of the mutex whose cell is at p: after what it had seen stand other threads' points and its own
-- new ones, which decided so, in this order. What it saw elsewhere stays. What it knew of words' changes begins what it
-- knows of them; and it has changed no other word, if none of its acts counts
pub record Saw (c : Card) (p : ℕ) (acts : List Act) (d : Card) : Type 0 where
  pub thread : d.thread ≡ c.thread
  pub threads : d.threads ≡ c.threads
  pub base : d.base ≡ c.base
  pub elsewhere : (q : ℕ) → q ≢ p → at d.seen q ≡ at c.seen q
  pub since : List Point
  pub grows : at d.seen p ≡ at c.seen p ++ since
  pub own : by c.thread (at d.seen p) ≡ by c.thread (at c.seen p) ++ points_of c.thread p acts
  pub knows : KnowsOn c d
  pub still : count_acts acts ≡ 0 → ChangedNone (λ x. x ≢ p) c d

-- the one list ends with the last point of the other, if that has any
abbrev pub EndsWith : List Point → List Point → Type 0
EndsWith xs [] = Unit {0}
EndsWith xs (y ∷ []) = (before : List Point) × (xs ≡ before ++ y ∷ [])
EndsWith xs (y ∷ z ∷ ys) = EndsWith xs (z ∷ ys)

-- a call on the mutex whose cell is at p was decided so: its thread has seen the mutex's history up to the call's last
-- point
pub record Called (c : Card) (p : ℕ) (acts : List Act) (d : Card) : Type 0 where
  pub saw : Saw c p acts d
  pub last : EndsWith (at d.seen p) (points_of c.thread p acts)

-- a thread died in a call of this operation, of which it had made all points or some of the first
pub record Died (c : Card) (p : ℕ) (op : Operation) (d : Card) : Type 0 where
  pub acts : List Act
  pub beginning : Beginning op acts
  pub saw : Saw c p acts d

-- passes of two threads that met see one legal list of each mutex. It begins with what either had seen, so it has all
-- those points, each once and in the same order; and of each of the two threads it has just the points that this thread
-- made. Nothing else of them changes
pub record Joined (c d c' d' : Card) : Type 0 where
  pub seen : List (List Point)
  pub apart : c.thread ≢ d.thread
  pub first : c' ≡ record c { seen = seen }
  pub second : d' ≡ record d { seen = seen }
  pub legal : (p : ℕ) → (o : Object) × Leaves c.threads p (at seen p) o
  pub begins : (p : ℕ) → IsPrefix (at c.seen p) (at seen p) × IsPrefix (at d.seen p) (at seen p)
  pub own : (p : ℕ)
      → (by c.thread (at seen p) ≡ by c.thread (at c.seen p)) × (by d.thread (at seen p) ≡ by d.thread (at d.seen p))

-- no mutex is held by both threads
abbrev pub AreExclusive : Card → Card → Type 0
AreExclusive c d = (p : ℕ) → holds c.thread (at c.seen p) ≡ true → holds d.thread (at d.seen p) ≡ false
