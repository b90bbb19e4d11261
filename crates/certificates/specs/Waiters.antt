-- Which calls still wait and shouldn't, after the steps of a certificate. Steps stand newest first.
--
-- *A call that still waits and shouldn't.* Its thread is neither killed nor doomed, and the call is a lock, with a time
-- limit or without, that has had no point, of a mutex that nobody owns: it is free or unusable. The trace that the steps
-- are says so, in the words of the judge of traces. Lines of the history are counted by what is seen of the steps
-- (`seen_of`).
use Rattle.std.specs.Prelude.{ℕ, zero, suc, ◌==◌, ◌+◌, Bool, not, ◌&&◌, Option, Some, None, List, [], ◌∷◌, ◌++◌}
use Rattle.std.specs.Prelude.{length, if◌then◌else◌}
use Rattle.std.specs.Option.{is_some}
use Rattle.posixmutex.specs.declared.point.Operation.{Operation}
use Rattle.posixmutex.specs.declared.point.Operation.TheVariants.{Lock, TimedLock}
use Rattle.facts.specs.declared.fact.Begun.{Begun}
use Rattle.facts.specs.declared.fact.Fact.TheVariants.{Begin}
use Rattle.facts.specs.declared.fact.Line.{Line}
use Rattle.facts.specs.Lives.{Act}
use Rattle.verdict.specs.Earlier.{call_in, objects_after, points_in, told_of}
use Rattle.histories.specs.declared.entry.Entry.{Entry}
use Rattle.histories.specs.declared.entry.Entry.TheVariants.{Told}
use Rattle.histories.specs.Limits.{max_threads}
use Rattle.certificates.specs.declared.waiting.Waiter.{Waiter}
use Rattle.certificates.specs.Certificates.{is_doomed, seen_of, trace_of}

-- ---- of a trace

-- the mutex that a call locks, if it is a lock, with a time limit or without
abbrev pub locked_by : Operation → ℕ → Option ℕ
locked_by Lock m = Some m
locked_by TimedLock m = Some m
locked_by op m = None

-- and it has had no point
abbrev pub unmade_lock : Option Begun → List Act → Option ℕ
unmade_lock (Some c) [] = locked_by c.operation c.mutex
unmade_lock call points = None

-- the mutex that thread t, which is alive, locks by a call that has had no point
abbrev pub locks : ℕ → List Line → Option ℕ
locks t told = unmade_lock (call_in (told_of t told)) (points_in (told_of t told))

abbrev pub is_owned : ℕ → List Line → Bool
is_owned m told = is_some (objects_after told m).owner

-- ---- of steps

-- the place of the line of the history where the thread's newest call began, counted from 1
abbrev pub begun_at : ℕ → List Entry → ℕ
begun_at t [] = 0
begun_at t (Told (Begin u c) ∷ es) = if u == t then length (seen_of es) + 1 else begun_at t es
begun_at t (e ∷ es) = begun_at t es

-- how many lines of the history stand before the newest step that left the mutex without an owner; None where none did
abbrev pub left_at : ℕ → List Entry → Option ℕ
left_at m [] = None
left_at m (e ∷ es) = if is_owned m (trace_of es) && not (is_owned m (trace_of (e ∷ es)))
    then Some (length (seen_of es)) else left_at m es

-- ---- what still waits

-- thread t locks this mutex, by a call that began there, and nobody owns that
abbrev pub waiter_for : ℕ → ℕ → List Entry → Option ℕ → Option Waiter
waiter_for t begin es None = None
waiter_for t begin es (Some m) = if is_owned m (trace_of es) then None else Some (record {
  thread = t;
  mutex = m;
  unusable = (objects_after (trace_of es) m).unusable;
  begin = begin;
  since = left_at m es;
})

-- the thread's call that still waits and shouldn't, if it is in one
abbrev pub waiter_of : ℕ → List Entry → Option Waiter
waiter_of t es = if is_doomed t es then None else waiter_for t (begun_at t es) es (locks t (trace_of es))

abbrev pub added : List Waiter → Option Waiter → List Waiter
added ws None = ws
added ws (Some w) = ws ++ w ∷ []

-- those of the first n threads
unfoldable pub waiters_to : ℕ → List Entry → List Waiter
waiters_to zero es = []
waiters_to (suc n) es = added (waiters_to n es) (waiter_of (suc n) es)

-- of every thread, in the order of ids
abbrev pub waiters : List Entry → List Waiter
waiters es = waiters_to max_threads es
