-- Which replies a call may have.
--
-- *The replies of an operation.* Those of its points; a lock with a time limit has a lock's too, and a wait those of the
-- lock that it ends with, except for what its thread, which has released the mutex, can't get. Law
-- `points_have_these_replies`: no step of an object gives such a call another.
use Rattle.std.specs.Prelude.{ℕ, ◌≢◌, Some, List, [], ◌∷◌, Contains}
use Rattle.lockword.specs.declared.reply.Reply.{Reply}
use Rattle.lockword.specs.declared.reply.Reply.TheVariants.{OK, EPERM, EBUSY, EINVAL, EDEADLK, ETIMEDOUT, EOWNERDEAD}
use Rattle.lockword.specs.declared.reply.Reply.TheVariants.{ENOTRECOVERABLE, XRACED, XHELD, XFULL, XSTATE}
use Rattle.posixmutex.specs.declared.object.Object.{Object}
use Rattle.posixmutex.specs.declared.point.Operation.{Operation}
use Rattle.posixmutex.specs.declared.point.Operation.TheVariants.{Lock, TryLock, TimedLock, Unlock, Consistent}
use Rattle.posixmutex.specs.declared.point.Operation.TheVariants.{Wait, TimedWait, Signal, Broadcast, Death, Reinit}
use Rattle.posixmutex.specs.Objects.{Does, Permits}
use Rattle.facts.specs.Lives.{MayReturn}

-- in the order of their numbers
abbrev pub replies_of : Operation → List Reply
replies_of Lock = OK ∷ EDEADLK ∷ EOWNERDEAD ∷ ENOTRECOVERABLE ∷ XHELD ∷ []
replies_of TryLock = OK ∷ EBUSY ∷ EOWNERDEAD ∷ ENOTRECOVERABLE ∷ XRACED ∷ XHELD ∷ []
replies_of TimedLock = OK ∷ EDEADLK ∷ ETIMEDOUT ∷ EOWNERDEAD ∷ ENOTRECOVERABLE ∷ XHELD ∷ []
replies_of Unlock = OK ∷ EPERM ∷ []
replies_of Consistent = OK ∷ EPERM ∷ EINVAL ∷ []
replies_of Wait = OK ∷ EPERM ∷ EOWNERDEAD ∷ ENOTRECOVERABLE ∷ XSTATE ∷ []
replies_of TimedWait = OK ∷ EPERM ∷ ETIMEDOUT ∷ EOWNERDEAD ∷ ENOTRECOVERABLE ∷ XSTATE ∷ []
replies_of Signal = OK ∷ EPERM ∷ XFULL ∷ []
replies_of Broadcast = OK ∷ EPERM ∷ XFULL ∷ []
replies_of Reinit = OK ∷ []
replies_of Death = []

-- the one list is the other with some left out
pub data IsPartOf : List Reply → List Reply → Type 0 where
  Ends : IsPartOf [] []
  Skips : (x : Reply) (ys xs : List Reply) → IsPartOf ys xs → IsPartOf ys (x ∷ xs)
  Takes : (x : Reply) (ys xs : List Reply) → IsPartOf ys xs → IsPartOf (x ∷ ys) (x ∷ xs)

-- each reply of an operation is among these; a lock's is among those of a lock with a time limit; a lock's is among those
-- of a wait, which doesn't own the mutex as it locks it, and owns fewer than it may; and what a wait with a time limit
-- may return, whose last point's reply is among those of a wait, is among its own
pub record PointsHaveTheseReplies : Type 0 where
  pub own : (held : ℕ) (o : Object) (t : ℕ) (op : Operation) (x : Reply) (n : Object) → op ≢ Death → Does held o t op x n
      → Contains (replies_of op) x
  pub timed : (held : ℕ) (o : Object) (t : ℕ) (x : Reply) (n : Object) → Does held o t Lock x n
      → Contains (replies_of TimedLock) x
  pub waits : (o : Object) (t : ℕ) (x : Reply) (n : Object) → o.owner ≢ Some t → Permits o t Lock x n
      → Contains (replies_of Wait) x
  pub limits : (y x : Reply) → Contains (replies_of Wait) y → MayReturn TimedWait y x → Contains (replies_of TimedWait) x
