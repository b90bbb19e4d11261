-- A robust mutex as POSIX sees it (pthread_mutex_lock, pthread_mutex_trylock, pthread_mutex_unlock,
-- pthread_mutex_consistent, pthread_mutex_destroy), with no bits.
--
-- *Object step.* From an object, a thread's operation may have a reply and leave an object: one clause for each
-- operation and reply, the others being forbidden. A thread that holds 2,048 mutexes (`held_limit`, which is also how
-- many entries the exit walk loads at most) gets X_HELD for any lock or trylock, as the kernel walks that many entries
-- (`ROBUST_LIST_LIMIT`). Its plain program is `Object::step`. What is left is determined by the reply (`stepped`; the
-- law `steps_are_determined`).
--
-- *Why a mutex changes, and why replies come.* Above the table, in the mutex's own fields: who may change it and to
-- what (the law `changes_have_reasons`), in which state alone each reply comes (`replies_have_reasons`) and that there
-- it may (`reasons_suffice`), that X_HELD comes exactly at the limit of 2,048 (`limit_is_exact`), and that every
-- operation has a reply but those that sleep or that can't be (`calls_are_answered`). Source: pthread_mutex_lock(3p),
-- pthread_mutex_unlock(3p), pthread_mutex_consistent(3p), pthread_mutexattr_getrobust(3p).
use Rattle.std.specs.Prelude.{ℕ, zero, suc, ◌≡◌, ◌≢◌, Bool, true, false, ◌&&◌, ◌||◌, ◌⊎◌, ◌↔◌, ◌≤◌}
use Rattle.std.specs.Prelude.{nat_le, if◌then◌else◌, MatchBool, Option, Some, None, List, [], ◌∷◌}
use Rattle.lockword.specs.Cells.{Fields}
use Rattle.lockword.specs.declared.reply.Reply.{Reply}
use Rattle.lockword.specs.declared.reply.Reply.TheVariants.{OK, EPERM, EBUSY, EINVAL, EDEADLK, ETIMEDOUT}
use Rattle.lockword.specs.declared.reply.Reply.TheVariants.{EOWNERDEAD, ENOTRECOVERABLE, XRACED, XHELD, XFULL, XSTATE}
use Rattle.posixmutex.specs.declared.point.Operation.{Operation}
use Rattle.posixmutex.specs.declared.point.Operation.TheVariants.{Lock, TryLock, TimedLock, Unlock, Consistent}
use Rattle.posixmutex.specs.declared.point.Operation.TheVariants.{Wait, TimedWait, Signal, Broadcast, Death, Reinit}
use Rattle.posixmutex.specs.declared.point.Point.{Point}
use Rattle.posixmutex.specs.declared.object.Object.{Object}

abbrev pub fresh : Object
fresh = record { owner = None; inconsistent = false; unusable = false }

abbrev pub owned_by : Object → ℕ → Object
owned_by o t = record { owner = Some t; inconsistent = o.inconsistent; unusable = o.unusable }

-- an owner that releases an inconsistent mutex makes it unusable, until it is reinitialized
abbrev pub freed : Object → Object
freed o = record { owner = None; inconsistent = false; unusable = o.inconsistent || o.unusable }

abbrev pub declared_consistent : Object → Object
declared_consistent o = record { owner = o.owner; inconsistent = false; unusable = o.unusable }

abbrev pub bereaved : Object → Object
bereaved o = record { owner = None; inconsistent = true; unusable = o.unusable }

-- from the old object, thread t's operation may reply so and leave the new one: one clause for each operation and
-- reply. A call with a time limit is a lock, or out of time, which changes nothing: that another thread owned the mutex
-- at some moment of the call is a matter of a trace's lines, since that moment may be past. A wait with a time limit has
-- no point of its own: it is a wait
abbrev pub Permits : Object → ℕ → Operation → Reply → Object → Type 0
Permits o t Lock OK n = (o.unusable ≡ false) × (o.owner ≡ None) × (o.inconsistent ≡ false) × (n ≡ owned_by o t)
Permits o t Lock EOWNERDEAD n = (o.unusable ≡ false) × (o.owner ≡ None) × (o.inconsistent ≡ true) × (n ≡ owned_by o t)
Permits o t Lock ENOTRECOVERABLE n = (o.unusable ≡ true) × (n ≡ o)
Permits o t Lock EDEADLK n = (o.owner ≡ Some t) × (n ≡ o)
Permits o t TryLock OK n = (o.unusable ≡ false) × (o.owner ≡ None) × (o.inconsistent ≡ false) × (n ≡ owned_by o t)
Permits o t TryLock EOWNERDEAD n =
    (o.unusable ≡ false) × (o.owner ≡ None) × (o.inconsistent ≡ true) × (n ≡ owned_by o t)
Permits o t TryLock ENOTRECOVERABLE n = (o.unusable ≡ true) × (n ≡ o)
Permits o t TryLock EBUSY n = (o.owner ≢ None) × (n ≡ o)
Permits o t TryLock XRACED n = (o.unusable ≡ false) × (o.owner ≡ None) × (n ≡ o)
Permits o t TimedLock ETIMEDOUT n = n ≡ o
Permits o t Unlock OK n = (o.owner ≡ Some t) × (n ≡ freed o)
Permits o t Unlock EPERM n = (o.owner ≢ Some t) × (n ≡ o)
Permits o t Consistent OK n = (o.owner ≡ Some t) × (o.inconsistent ≡ true) × (n ≡ declared_consistent o)
Permits o t Consistent EINVAL n = (o.owner ≡ Some t) × (o.inconsistent ≡ false) × (n ≡ o)
Permits o t Consistent EPERM n = (o.owner ≢ Some t) × (n ≡ o)
Permits o t Wait XSTATE n = (o.owner ≡ Some t) × (o.inconsistent ≡ true) × (n ≡ o)
Permits o t Wait EPERM n = (o.owner ≢ Some t) × (n ≡ o)
Permits o t Signal OK n = (o.owner ≡ Some t) × (n ≡ o)
Permits o t Signal XFULL n = (o.owner ≡ Some t) × (n ≡ o)
Permits o t Signal EPERM n = (o.owner ≢ Some t) × (n ≡ o)
Permits o t Broadcast OK n = (o.owner ≡ Some t) × (n ≡ o)
Permits o t Broadcast XFULL n = (o.owner ≡ Some t) × (n ≡ o)
Permits o t Broadcast EPERM n = (o.owner ≢ Some t) × (n ≡ o)
Permits o t Death OK n = (o.owner ≡ Some t) × (n ≡ bereaved o)
Permits o t Reinit OK n = (o.unusable ≡ true) × (o.owner ≡ None) × (n ≡ fresh)
Permits o t op r n = ⊥

-- the operations that take a mutex
abbrev pub takes : Operation → Bool
takes Lock = true
takes TryLock = true
takes op = false

-- those of calls that may take one
abbrev pub acquires : Operation → Bool
acquires Lock = true
acquires TryLock = true
acquires TimedLock = true
acquires op = false

-- how many mutexes a thread may hold, and how many entries of a dead thread's list the kernel walks: so a walk meets
-- all that its thread held (ROBUST_LIST_LIMIT; robust-futexes)
abbrev pub held_limit : ℕ
held_limit = 2048

-- the step of an object: where the thread holds that many mutexes, a lock or trylock of any has the one reply XHELD and
-- changes nothing
abbrev pub Does : ℕ → Object → ℕ → Operation → Reply → Object → Type 0
Does held o t op r n = MatchBool (acquires op && nat_le held_limit held) ((r ≡ XHELD) × (n ≡ o)) (Permits o t op r n)

-- what an object becomes by a step of thread t's operation that replies so
abbrev pub stepped : Object → ℕ → Operation → Reply → Object
stepped o t Lock OK = owned_by o t
stepped o t Lock EOWNERDEAD = owned_by o t
stepped o t TryLock OK = owned_by o t
stepped o t TryLock EOWNERDEAD = owned_by o t
stepped o t Unlock OK = freed o
stepped o t Consistent OK = declared_consistent o
stepped o t Death OK = bereaved o
stepped o t Reinit OK = fresh
stepped o t op r = o

-- a step leaves no choice: who knows the operation and its reply knows the object after it
abbrev pub StepsAreDetermined : Type 0
StepsAreDetermined = (held : ℕ) (o : Object) (t : ℕ) (op : Operation) (r : Reply) (n : Object) → Does held o t op r n
    → n ≡ stepped o t op r

-- ---- what changes a mutex

-- thread t takes it, and learns of its last owner's death exactly where the mutex is inconsistent
abbrev pub IsTaking : Object → ℕ → Operation → Reply → Object → Type 0
IsTaking o t op r n = (acquires op ≡ true) × (r ≡ (if o.inconsistent then EOWNERDEAD else OK)) × (n.owner ≡ Some t)
    × (n.inconsistent ≡ o.inconsistent) × (n.unusable ≡ false)

-- its owner releases it, which makes it unusable where it is inconsistent; declares it consistent; or dies, which
-- leaves it inconsistent
abbrev pub IsByOwner : Object → Operation → Object → Type 0
IsByOwner o Unlock n = (n.owner ≡ None) × (n.inconsistent ≡ false) × (n.unusable ≡ (o.inconsistent || o.unusable))
IsByOwner o Consistent n =
    (o.inconsistent ≡ true) × (n.owner ≡ o.owner) × (n.inconsistent ≡ false) × (n.unusable ≡ o.unusable)
IsByOwner o Death n = (n.owner ≡ None) × (n.inconsistent ≡ true) × (n.unusable ≡ o.unusable)
IsByOwner o op n = ⊥

-- the operations after which nobody owns it
abbrev pub releases : Operation → Bool
releases Unlock = true
releases Death = true
releases op = false

-- a step of thread t changes a mutex for one of these reasons only, by whose the mutex is. And who is told that it took
-- or released the mutex did so
pub record ChangesWithReason (o : Object) (t : ℕ) (op : Operation) (r : Reply) (n : Object) : Type 0 where
  pub usable : o.owner ≡ None → o.unusable ≡ false → (n ≡ o) ⊎ IsTaking o t op r n
  pub unusable : o.owner ≡ None → o.unusable ≡ true
      → (n ≡ o) ⊎ ((op ≡ Reinit) × (r ≡ OK) × (n.owner ≡ None) × (n.inconsistent ≡ false) × (n.unusable ≡ false))
  pub own : o.owner ≡ Some t → (n ≡ o) ⊎ ((r ≡ OK) × IsByOwner o op n)
  pub others : (u : ℕ) → o.owner ≡ Some u → t ≢ u → n ≡ o
  pub takes : acquires op ≡ true → (r ≡ OK) ⊎ (r ≡ EOWNERDEAD) → n.owner ≡ Some t
  pub frees : releases op ≡ true → r ≡ OK → (o.owner ≡ Some t) × (n.owner ≡ None)

abbrev pub ChangesHaveReasons : Type 0
ChangesHaveReasons = (held : ℕ) (o : Object) (t : ℕ) (op : Operation) (r : Reply) (n : Object) → Does held o t op r n
    → ChangesWithReason o t op r n

-- ---- why replies come

-- a reply to thread t, which holds this many mutexes, of an operation on o: the state in which alone it comes. A wait
-- releases its mutex as an unlock and takes it as a lock, so by itself it only refuses, with a time limit as without; EPERM
-- is for calls of an owner
abbrev pub HasReason : ℕ → Object → ℕ → Operation → Reply → Type 0
HasReason held o t Lock OK = (o.owner ≡ None) × (o.inconsistent ≡ false) × (o.unusable ≡ false)
HasReason held o t TryLock OK = (o.owner ≡ None) × (o.inconsistent ≡ false) × (o.unusable ≡ false)
HasReason held o t Consistent OK = (o.owner ≡ Some t) × (o.inconsistent ≡ true)
HasReason held o t Reinit OK = (o.owner ≡ None) × (o.unusable ≡ true)
HasReason held o t TimedLock OK = ⊥
HasReason held o t Wait OK = ⊥
HasReason held o t TimedWait OK = ⊥
HasReason held o t op OK = o.owner ≡ Some t
HasReason held o t op EOWNERDEAD =
    (takes op ≡ true) × (o.owner ≡ None) × (o.inconsistent ≡ true) × (o.unusable ≡ false)
HasReason held o t op ENOTRECOVERABLE = (takes op ≡ true) × (o.unusable ≡ true)
HasReason held o t op EDEADLK = (op ≡ Lock) × (o.owner ≡ Some t)
HasReason held o t op ETIMEDOUT = op ≡ TimedLock
HasReason held o t op EBUSY = (op ≡ TryLock) × (o.owner ≢ None)
HasReason held o t Lock EPERM = ⊥
HasReason held o t TryLock EPERM = ⊥
HasReason held o t TimedLock EPERM = ⊥
HasReason held o t TimedWait EPERM = ⊥
HasReason held o t Death EPERM = ⊥
HasReason held o t Reinit EPERM = ⊥
HasReason held o t op EPERM = o.owner ≢ Some t
HasReason held o t op EINVAL = (op ≡ Consistent) × (o.owner ≡ Some t) × (o.inconsistent ≡ false)
HasReason held o t op XSTATE = (op ≡ Wait) × (o.owner ≡ Some t) × (o.inconsistent ≡ true)
HasReason held o t op XFULL = ((op ≡ Signal) ⊎ (op ≡ Broadcast)) × (o.owner ≡ Some t)
HasReason held o t op XRACED = (op ≡ TryLock) × (o.owner ≡ None) × (o.unusable ≡ false)
HasReason held o t op XHELD = (acquires op ≡ true) × (nat_le held_limit held ≡ true)
HasReason held o t op r = ⊥

abbrev pub RepliesHaveReasons : Type 0
RepliesHaveReasons = (held : ℕ) (o : Object) (t : ℕ) (op : Operation) (r : Reply) (n : Object) → Does held o t op r n
    → HasReason held o t op r

-- X_HELD is the reply of a lock or trylock whose thread holds 2,048 mutexes or more, and of no other call: as many as
-- there are entries that the kernel walks (ROBUST_LIST_LIMIT; robust-futexes)
abbrev pub LimitIsExact : Type 0
LimitIsExact = (held : ℕ) (o : Object) (t : ℕ) (op : Operation) (r : Reply) (n : Object) → Does held o t op r n
    → (r ≡ XHELD) ↔ ((acquires op ≡ true) × (2048 ≤ held))

-- and each reply that has its reason may come, but that a lock or trylock at the limit has X_HELD alone
abbrev pub ReasonsSuffice : Type 0
ReasonsSuffice = (held : ℕ) (o : Object) (t : ℕ) (op : Operation) (r : Reply) → HasReason held o t op r
    → ((acquires op && nat_le held_limit held) ≡ true → r ≡ XHELD) → (n : Object) × Does held o t op r n

-- what isn't answered: a lock of a mutex that another thread owns, a wait that releases its mutex (as an unlock), one
-- that has a time limit (what it does, and what it is refused, is recorded as a wait's), a death of who isn't the
-- owner, and a reinit of a mutex that isn't unusable
abbrev pub IsUnanswered : Object → ℕ → Operation → Type 0
IsUnanswered o t Lock = (u : ℕ) × (o.owner ≡ Some u) × (t ≢ u)
IsUnanswered o t Wait = (o.owner ≡ Some t) × (o.inconsistent ≡ false)
IsUnanswered o t TimedWait = Unit {0}
IsUnanswered o t Death = o.owner ≢ Some t
IsUnanswered o t Reinit = o.unusable ≡ false
IsUnanswered o t op = ⊥

-- every other call has a reply
abbrev pub CallsAreAnswered : Type 0
CallsAreAnswered = (held : ℕ) (o : Object) (t : ℕ) (op : Operation) → (o.unusable ≡ true → o.owner ≡ None)
    → ((r : Reply) × (n : Object) × Does held o t op r n) ⊎ IsUnanswered o t op

-- points on one mutex, one after the other, from object to object
abbrev pub Run : Object → List Point → Object → Type 0
Run o [] n = n ≡ o
Run o (p ∷ ps) n = (m : Object) × Permits o p.thread p.operation p.reply m × Run m ps n

-- the owner that an id names, 0 being none
abbrev pub owner_of : ℕ → Option ℕ
owner_of zero = None
owner_of (suc t) = Some (suc t)

-- what a cell says of its mutex
abbrev pub object_of : Fields → Object
object_of c = record { owner = owner_of c.owner; inconsistent = c.died; unusable = c.unusable }
