-- What the lines of a trace tell.
--
-- *Fact and line.* One thing that an event did: a thread began a call, which names its mutex, and a condition variable
-- where it is on one; had a point; returned; was killed; had its death told of a mutex; was reaped; fell asleep, on a
-- mutex or on a condition variable; was woken; or was moved, asleep, to a mutex; or a reaped one lives again. A line
-- is a fact and its event's number. Points and deaths are the steps of the mutexes; a move is done to a thread by
-- another's event, and so is a wake, but of a thread that leaves its queue by itself.
use Rattle.std.specs.Prelude.{ℕ, Bool, true, false, Option, Some, None}
use Rattle.std.specs.Option.{is_some}
use Rattle.lockword.specs.declared.reply.Reply.TheVariants.{OK}
use Rattle.posixmutex.specs.declared.point.Operation.TheVariants as operation
use Rattle.posixmutex.specs.declared.point.Decision.{Decision}
use Rattle.facts.specs.declared.fact.Fact.{Fact}
use Rattle.facts.specs.declared.fact.Fact.TheVariants.{Begin, Point, Death, Sleep, Wake}
use Rattle.facts.specs.declared.fact.Fact.TheVariants.{Move, Return, Kill, Reap, Renew}

-- whose fact it is
abbrev pub thread_of : Fact → ℕ
thread_of (Begin t c) = t
thread_of (Point d) = d.thread
thread_of (Death t m) = t
thread_of (Sleep t q) = t
thread_of (Wake t) = t
thread_of (Move t m) = t
thread_of (Return t x) = t
thread_of (Kill t) = t
thread_of (Reap t) = t
thread_of (Renew t) = t

-- the step of a mutex's object: a point or an owner's death
abbrev pub decision_of : Fact → Option Decision
decision_of (Point d) = Some d
decision_of (Death t m) = Some (record { thread = t; mutex = m; operation = operation.Death; reply = OK })
decision_of f = None

-- it is a point or a death
abbrev pub decides : Fact → Bool
decides f = is_some (decision_of f)

-- another thread's event did it
abbrev pub is_passive : Fact → Bool
is_passive (Wake t) = true
is_passive (Move t m) = true
is_passive f = false

abbrev pub is_kill : Fact → Bool
is_kill (Kill t) = true
is_kill f = false

abbrev pub is_point : Fact → Bool
is_point (Point d) = true
is_point f = false

-- a reaped thread lives again
abbrev pub is_renewal : Fact → Bool
is_renewal (Renew t) = true
is_renewal f = false
