-- What a trace tells of one thread (pthread_mutex_lock, pthread_cond_wait).
--
-- *The points of a call.* One of the call's own operation, with the reply that it returns; of a wait that isn't refused
-- an unlock with OK and then a lock, with the reply that it returns. A wait with a time limit has the points of a wait,
-- that returns the same, or OK where it returns ETIMEDOUT: of that the points tell no other reason than its unlock. A
-- call that hasn't returned has a beginning of its points. Sources: pthread_mutex_lock(3p), pthread_cond_wait(3p),
-- pthread_cond_timedwait(3p).
--
-- *A life.* What is recorded of one thread's calls and death: calls that returned, each with exactly its points, of
-- its own mutex; perhaps one that hasn't returned, with a beginning of its points; perhaps a kill, which ends that
-- call, then deaths, and perhaps a reaping; no other point or death.
use Rattle.std.specs.Prelude.{ℕ, ◌≡◌, ◌≢◌, ◌⊎◌, ◌==◌, ◌&&◌, Bool, true, false, List, [], ◌∷◌, ◌++◌, map, if◌then◌else◌}
use Rattle.lockword.specs.declared.reply.Reply.{Reply}
use Rattle.lockword.specs.declared.reply.Reply.TheVariants.{OK, ETIMEDOUT}
use Rattle.posixmutex.specs.declared.point.Operation.{Operation}
use Rattle.posixmutex.specs.declared.point.Operation.TheVariants.{Lock, TimedLock, Unlock, Wait, TimedWait}
use Rattle.facts.specs.declared.fact.Begun.{Begun}
use Rattle.facts.specs.declared.fact.Fact.{Fact}
use Rattle.facts.specs.declared.fact.Fact.TheVariants.{Begin, Point, Death, Sleep, Wake}
use Rattle.facts.specs.declared.fact.Fact.TheVariants.{Move, Return, Kill, Reap, Renew}
use Rattle.facts.specs.declared.fact.Line.{Line}
use Rattle.facts.specs.Facts.{thread_of}

-- ---- the points of a call

-- what a point decided: an operation and its reply
abbrev pub Act : Type 0
Act = Operation × Reply

-- a wait, with a time limit or without
abbrev pub IsWait : Operation → Type 0
IsWait op = (op ≡ Wait) ⊎ (op ≡ TimedWait)

-- what a call of this operation may return, whose last point replied y: that; and a wait that is out of time
-- ETIMEDOUT instead of OK
abbrev pub MayReturn : Operation → Reply → Reply → Type 0
MayReturn TimedWait y x = (x ≡ y) ⊎ ((y ≡ OK) × (x ≡ ETIMEDOUT))
MayReturn op y x = x ≡ y

-- a call that returns another reply than that is such a wait
abbrev pub OnlyLateWaitsDiffer : Type 0
OnlyLateWaitsDiffer = (op : Operation) (y x : Reply) → MayReturn op y x → x ≢ y
    → (op ≡ TimedWait) × (y ≡ OK) × (x ≡ ETIMEDOUT)

-- these are all the points of a call of this operation that returns that reply: one of its own operation; of a lock
-- with a time limit that isn't refused, and isn't out of time, a lock; of a wait that isn't refused a release and then a
-- lock; and of a wait with a time limit those of a wait, that returns the same, or OK where it returns ETIMEDOUT
abbrev pub Complete : Operation → List Act → Reply → Type 0
Complete op [] x = ⊥
Complete TimedLock (p ∷ []) x = (p ≡ (TimedLock, x)) ⊎ (p ≡ (Lock, x))
Complete TimedWait (p ∷ []) x = (p.0 ≡ Wait) × MayReturn TimedWait p.1 x
Complete op (p ∷ []) x = p ≡ (op, x)
Complete op (p ∷ q ∷ r ∷ ps) x = ⊥
Complete Wait (p ∷ q ∷ []) x = (p ≡ (Unlock, OK)) × (q ≡ (Lock, x))
Complete TimedWait (p ∷ q ∷ []) x = (p ≡ (Unlock, OK)) × (q.0 ≡ Lock) × MayReturn TimedWait q.1 x
Complete op (p ∷ q ∷ []) x = ⊥

-- the first points of such a call, or all of them
abbrev pub Beginning : Operation → List Act → Type 0
Beginning op ps = (rest : List Act) × (x : Reply) × Complete op (ps ++ rest) x

-- the point of thread t's call: it is of the call's mutex
abbrev pub made_by : ℕ → Begun → Act → Fact
made_by t c p = Point (record { thread = t; mutex = c.mutex; operation = p.0; reply = p.1 })

abbrev pub made : ℕ → Begun → List Act → List Fact
made t c ps = map (made_by t c) ps

-- ---- a life

-- it tells what a call returned or was answered, or of a death, and not who sleeps
abbrev pub is_of_call : Fact → Bool
is_of_call (Sleep t q) = false
is_of_call (Wake t) = false
is_of_call (Move t m) = false
is_of_call f = true

-- what lines tell of the calls and the death of thread t, in their order
abbrev pub own : ℕ → List Line → List Fact
own t [] = []
own t (l ∷ ls) = if is_of_call l.fact && (thread_of l.fact == t) then l.fact ∷ own t ls else own t ls

-- what is recorded of thread t after it was killed: its death, of mutexes; and perhaps that it was reaped, after
-- which nothing is recorded
pub data Mourned (t : ℕ) : List Fact → Type 0 where
  Unburied : Mourned t []
  Tells_of : (m : ℕ) (later : List Fact) → Mourned t later → Mourned t (Death t m ∷ later)
  Buried : Mourned t (Reap t ∷ [])

-- all that thread t does in one life: calls that returned, each with exactly its points, the last of which has the
-- reply that it returned; perhaps one that hasn't returned, with a beginning of such points; and perhaps a kill, which
-- ends that call. No point belongs to any other call, and no death comes before the kill
pub data Life (t : ℕ) : List Fact → Type 0 where
  Rests : Life t []
  Returns : (c : Begun) (ps : List Act) (x : Reply) (later : List Fact) → Complete c.operation ps x → Life t later
      → Life t (Begin t c ∷ (made t c ps ++ Return t x ∷ later))
  Stays : (c : Begun) (ps : List Act) → Beginning c.operation ps → Life t (Begin t c ∷ made t c ps)
  Cut : (c : Begun) (ps : List Act) (later : List Fact) → Beginning c.operation ps → Mourned t later
      → Life t (Begin t c ∷ (made t c ps ++ Kill t ∷ later))
  Dies : (later : List Fact) → Mourned t later → Life t (Kill t ∷ later)

-- ---- lives

-- the last of them tells that thread t was reaped
abbrev pub EndsReaped : ℕ → List Fact → Type 0
EndsReaped t fs = (before : List Fact) × (fs ≡ before ++ Reap t ∷ [])

-- all that is recorded of thread t, whose id is used again: one life, or several, each but the last ended by its
-- reaping, after which t lives again. So a call, a point or a death belongs to one of them
pub data Lives (t : ℕ) : List Fact → Type 0 where
  Last : (life : List Fact) → Life t life → Lives t life
  Earlier : (life later : List Fact) → Life t life → EndsReaped t life → Lives t later
      → Lives t (life ++ Renew t ∷ later)
