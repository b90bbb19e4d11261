-- What the lines before a line tell. They stand newest first.
use Rattle.std.specs.Prelude.{ℕ, Bool, true, false, ◌==◌, ◌&&◌, Option, Some, None}
use Rattle.std.specs.Prelude.{List, [], ◌∷◌, ◌++◌, if◌then◌else◌}
use Rattle.lockword.specs.declared.reply.Reply.{Reply}
use Rattle.lockword.specs.declared.reply.Reply.TheVariants.{OK}
use Rattle.posixmutex.specs.declared.object.Object.{Object}
use Rattle.posixmutex.specs.declared.point.Decision.{Decision}
use Rattle.posixmutex.specs.declared.point.Operation.{Operation}
use Rattle.posixmutex.specs.Objects.{releases, stepped}
use Rattle.posixmutex.specs.Histories.{opening}
use Rattle.facts.specs.declared.fact.Begun.{Begun}
use Rattle.facts.specs.declared.fact.Fact.{Fact}
use Rattle.facts.specs.declared.fact.Fact.TheVariants.{Begin, Kill, Point, Death, Sleep, Wake, Return, Reap, Renew}
use Rattle.facts.specs.declared.fact.Line.{Line}
use Rattle.facts.specs.Facts.{thread_of, decision_of}
use Rattle.facts.specs.Lives.{Act}
use Rattle.facts.specs.Chances.{Chances, begins_call, chances_next, no_chances}

-- ---- one thread

-- what is recorded of thread t
abbrev pub told_of : ℕ → List Line → List Fact
told_of t [] = []
told_of t (e ∷ es) = if thread_of e.fact == t then e.fact ∷ told_of t es else told_of t es

-- the call in which a thread is, of which these facts are recorded: it began, and has neither returned nor been cut
-- by a kill
abbrev pub call_in : List Fact → Option Begun
call_in [] = None
call_in (Begin t c ∷ fs) = Some c
call_in (Return t x ∷ fs) = None
call_in (Kill t ∷ fs) = None
call_in (f ∷ fs) = call_in fs

-- the points since its call began, the oldest first
abbrev pub points_in : List Fact → List Act
points_in [] = []
points_in (Begin t c ∷ fs) = []
points_in (Point d ∷ fs) = points_in fs ++ (d.operation, d.reply) ∷ []
points_in (f ∷ fs) = points_in fs

-- it fell asleep, and nobody has woken it; a kill ends sleep
abbrev pub is_asleep : List Fact → Bool
is_asleep [] = false
is_asleep (Sleep t q ∷ fs) = true
is_asleep (Wake t ∷ fs) = false
is_asleep (Kill t ∷ fs) = false
is_asleep (f ∷ fs) = is_asleep fs

-- it was killed, and hasn't lived again since
abbrev pub is_killed : List Fact → Bool
is_killed [] = false
is_killed (Kill t ∷ fs) = true
is_killed (Renew t ∷ fs) = false
is_killed (f ∷ fs) = is_killed fs

-- it was reaped, and hasn't lived again since
abbrev pub is_reaped : List Fact → Bool
is_reaped [] = false
is_reaped (Reap t ∷ fs) = true
is_reaped (Renew t ∷ fs) = false
is_reaped (f ∷ fs) = is_reaped fs

-- ---- the mutexes

-- a step changes its own mutex
abbrev pub moved : (ℕ → Object) → Option Decision → ℕ → Object
moved os None m = os m
moved os (Some d) m = if m == d.mutex then stepped (os m) d.thread d.operation d.reply else os m

-- the objects as points and deaths left them
abbrev pub objects_after : List Line → ℕ → Object
objects_after [] = opening
objects_after (e ∷ es) = moved (objects_after es) (decision_of e.fact)

-- the number of the newest event
abbrev pub latest : List Line → ℕ
latest [] = 0
latest (e ∷ es) = e.event

-- ---- a thread and a mutex

-- whether another thread owned mutex m at some moment since thread t began its call
abbrev pub chances_behind : ℕ → ℕ → List Line → Chances
chances_behind t m [] = no_chances
chances_behind t m (e ∷ es) = chances_next t m (chances_behind t m es) e.fact

-- the event of thread t's newest begin; 0 where it has begun no call
abbrev pub begun_at : ℕ → List Line → ℕ
begun_at t [] = 0
begun_at t (e ∷ es) = if begins_call t e.fact then e.event else begun_at t es

-- an operation that replies so takes the mutex from its owner
abbrev pub gives_up : Operation → Reply → Bool
gives_up op OK = releases op
gives_up op x = false

-- mutex m lost its owner, which released it or died
abbrev pub frees : ℕ → Fact → Bool
frees m (Point d) = (d.mutex == m) && gives_up d.operation d.reply
frees m (Death t k) = k == m
frees m f = false

-- the newest event by which it lost one; 0 where it has lost none
abbrev pub freed_at : ℕ → List Line → ℕ
freed_at m [] = 0
freed_at m (e ∷ es) = if frees m e.fact then e.event else freed_at m es
