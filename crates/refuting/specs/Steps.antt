-- What may happen at a state.
--
-- *A change.* A call's next point may change the mutex, as the object's step allows (`Does`): a wait's first such point
-- releases it, where it is consistent, and its second takes it again; any other call has one.
--
-- *A look.* Or the point may change nothing. Then it is no step: the call has seen that it could get its reply. That
-- its time limit came it could get it from when another thread owns the mutex.
--
-- *A death.* A dying thread that owns the mutex may lose it.
use Rattle.std.specs.Prelude.{ℕ, ◌≡◌, ◌≢◌, ◌≤◌, Bool, true, false, Option, Some, None}
use Rattle.std.specs.Prelude.{List, ◌++◌, Contains, slice_set}
use Rattle.lockword.specs.declared.reply.Reply.{Reply}
use Rattle.lockword.specs.declared.reply.Reply.TheVariants.{OK, ETIMEDOUT, EOWNERDEAD}
use Rattle.posixmutex.specs.declared.object.Object.{Object}
use Rattle.posixmutex.specs.declared.point.Operation.{Operation}
use Rattle.posixmutex.specs.declared.point.Operation.TheVariants.{Death, Lock, TimedLock, Unlock, Wait, TimedWait}
use Rattle.posixmutex.specs.Objects.{Does}
use Rattle.facts.specs.declared.fact.Begun.{Begun}
use Rattle.facts.specs.Chances.{is_anothers}
use Rattle.refuting.specs.declared.state.Made.{Made}
use Rattle.refuting.specs.declared.state.Made.TheVariants.{Nothing, Released, Changed}
use Rattle.refuting.specs.declared.state.State.{State}
use Rattle.refuting.specs.declared.turn.Turn.{Turn}
use Rattle.refuting.specs.declared.turn.Turn.TheVariants.{Calling, Dying}
use Rattle.std.specs.Option.{is_some}
use Rattle.refuting.specs.declared.state.Call.{Call}
use Rattle.refuting.specs.States.{Covered, call_at, first_call}
use Rattle.refuting.specs.Turns.{call_on, turn_at}

-- the operation of a call's next point that changes the mutex
abbrev pub next_change : Operation → Made → Option Operation
next_change Wait Nothing = Some Unlock
next_change TimedWait Nothing = Some Unlock
next_change TimedLock Nothing = Some Lock
next_change a Nothing = Some a
next_change a Released = Some Lock
next_change a (Changed x) = None

-- the operation of the first point by which a call is told so: a lock with a time limit is recorded as a lock,
-- unless the limit came; a wait with one as a wait
abbrev pub told_as : Operation → Reply → Operation
told_as TimedLock ETIMEDOUT = TimedLock
told_as TimedLock x = Lock
told_as TimedWait x = Wait
told_as a x = a

-- and of one that changes nothing and tells this reply
abbrev pub next_look : Operation → Made → Reply → Option Operation
next_look a Nothing x = Some (told_as a x)
next_look a Released x = Some Lock
next_look a (Changed y) x = None

-- how far a change brings the call
abbrev pub after_change : Operation → Made → Reply → Made
after_change Wait Nothing x = Released
after_change TimedWait Nothing x = Released
after_change a m x = Changed x

-- a wait releases a consistent mutex
abbrev pub MayRelease : Operation → Made → Object → Type 0
MayRelease Wait Nothing o = o.inconsistent ≡ false
MayRelease TimedWait Nothing o = o.inconsistent ≡ false
MayRelease a m o = Unit {0}

-- thread t's call may change the mutex to o by a point that decides this reply
pub record MayChange (s : State) (t : ℕ) (a : Operation) (x : Reply) (o : Object) : Type 0 where
  pub operation : Operation
  pub next : next_change a (call_at s.calls t).made ≡ Some operation
  pub releases : MayRelease a (call_at s.calls t).made s.object
  pub does : Does 0 s.object t operation x o
  pub other : o ≢ s.object

abbrev pub changed : State → ℕ → Operation → Reply → Object → State
changed s t a x o = record {
  object = o;
  calls = slice_set s.calls t (record { made = after_change a (call_at s.calls t).made x; seen = false });
}

-- the mutex has this reply for thread t's call, by a point that changes nothing
pub record HasFor (s : State) (t : ℕ) (a : Operation) (x : Reply) : Type 0 where
  pub operation : Operation
  pub next : next_look a (call_at s.calls t).made x ≡ Some operation
  pub held : ℕ
  pub does : Does held s.object t operation x s.object

-- a time limit comes only where another thread owns the mutex
abbrev pub IsDue : State → ℕ → Reply → Type 0
IsDue s t x = x ≡ ETIMEDOUT → is_anothers t s.object.owner ≡ true

-- thread t's call may get this reply by a point that changes nothing
abbrev pub MayLook : State → ℕ → Operation → Reply → Type 0
MayLook s t a x = HasFor s t a x × IsDue s t x

-- thread t's death may leave o
abbrev pub MayDie : State → ℕ → Object → Type 0
MayDie s t o = Does 0 s.object t Death OK o

-- its call is over, if it was doomed in one
abbrev pub over : Bool → Call
over true = record { made = Changed OK; seen = false }
over false = first_call

abbrev pub died : State → ℕ → Bool → Object → State
died s t in_call o = record { object = o; calls = slice_set s.calls t (over in_call) }

-- thread t, whose turn this is, is in a call on mutex m that could now get what it returns
abbrev pub Sees : ℕ → Turn → State → ℕ → Type 0
Sees m (Calling c (Some x)) s t = (c.mutex ≡ m) × MayLook s t c.operation x
Sees m turn s t = ⊥

-- thread t's call has seen that
abbrev pub with_sight : State → ℕ → State
with_sight s t =
    record { object = s.object; calls = slice_set s.calls t (record { made = (call_at s.calls t).made; seen = true }) }

-- each call that could now get what it returns has seen that
abbrev pub IsNoted : ℕ → List Turn → State → Type 0
IsNoted m ts s = (t : ℕ) → 1 ≤ t → Sees m (turn_at ts t) s t → (call_at s.calls t).seen ≡ true

-- what thread t's call may make of a state by a point with this reply stands among these states
abbrev pub FollowsReply : List State → State → ℕ → Operation → Reply → Type 0
FollowsReply ss s t a x = (o : Object) → MayChange s t a x o → Covered ss (changed s t a x o)

-- and by any point that changes mutex m; its turn is this
abbrev pub FollowsCall : ℕ → Turn → List State → State → ℕ → Type 0
FollowsCall m turn ss s t = (c : Begun) → call_on m turn ≡ Some c
    → FollowsReply ss s t c.operation OK × FollowsReply ss s t c.operation EOWNERDEAD

-- and by its death
abbrev pub FollowsDeath : Turn → List State → State → ℕ → Type 0
FollowsDeath turn ss s t = (c : Option Begun) (o : Object) → turn ≡ Dying c → MayDie s t o → Covered ss (died s t (is_some c) o)

-- what may follow a state by thread t
pub record FollowsThread (m : ℕ) (ts : List Turn) (ss : List State) (s : State) (t : ℕ) : Type 0 where
  pub changes : FollowsCall m (turn_at ts t) ss s t
  pub dies : FollowsDeath (turn_at ts t) ss s t

-- and by any thread
abbrev pub IsFollowed : ℕ → List Turn → List State → State → Type 0
IsFollowed m ts ss s = (t : ℕ) → 1 ≤ t → FollowsThread m ts ss s t

abbrev pub AreNoted : ℕ → List Turn → List State → Type 0
AreNoted m ts ss = (s : State) → Contains ss s → IsNoted m ts s

-- the first states are among these still
abbrev pub Grows : List State → List State → Type 0
Grows ss rs = (more : List State) × (rs ≡ ss ++ more)

-- whatever may follow a state stands among the states
pub record IsClosed (m : ℕ) (ts : List Turn) (ss : List State) : Type 0 where
  pub noted : AreNoted m ts ss
  pub followed : (s : State) → Contains ss s → IsFollowed m ts ss s
