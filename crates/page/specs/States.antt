-- What all threads and mutexes are after some lines, which stand newest first, and what one line changes.
--
-- *The state after some lines.* What each thread does, and what each mutex is as points and deaths left it
-- (`objects_after`): where each line fits those before it, the state that the judge of traces has come to.
--
-- *What a line changes.* What its own thread does, and the mutex of its point or its death; nothing else (the law
-- `page_shows`).
use Rattle.std.specs.Prelude.{ℕ, ◌+◌, Option, Some, None, option_map, List, ◌∷◌, map, slice_index_or, slice_set}
use Rattle.std.specs.List.{range_with_len}
use Rattle.posixmutex.specs.declared.object.Object.{Object}
use Rattle.posixmutex.specs.declared.point.Decision.{Decision}
use Rattle.posixmutex.specs.Objects.{fresh, stepped}
use Rattle.facts.specs.declared.fact.Line.{Line}
use Rattle.facts.specs.Facts.{decision_of, thread_of}
use Rattle.verdict.specs.Earlier.{objects_after}
use Rattle.page.specs.declared.state.State.{State}
use Rattle.page.specs.declared.status.Status.{Status}
use Rattle.page.specs.Statuses.{status_of}

-- threads by their ids, from 0, which is no thread's; mutexes by their numbers
pub record Shown : Type 0 where
  pub threads : List Status
  pub mutexes : List Object

abbrev pub seen : State → Shown
seen s = record { threads = s.threads.items; mutexes = s.mutexes.items }

-- of each of n things, from thing 0 on
abbrev pub listed : {A : Type 0} → (ℕ → A) → ℕ → List A
listed f n = map f (range_with_len 0 n)

abbrev pub statuses : List Line → ℕ → Status
statuses es t = status_of t es

abbrev pub state_behind : ℕ → ℕ → List Line → Shown
state_behind threads mutexes es =
    record { threads = listed (statuses es) (threads + 1); mutexes = listed (objects_after es) mutexes }

-- ---- what a line changes

-- a mutex, and what it is now
pub record Mutex : Type 0 where
  pub number : ℕ
  pub object : Object

-- a thread and what it does now, and perhaps a mutex
pub record Change : Type 0 where
  pub thread : ℕ
  pub status : Status
  pub mutex : Option Mutex

abbrev pub mutex_behind : List Line → Decision → Mutex
mutex_behind es d = record { number = d.mutex; object = objects_after es d.mutex }

-- what a line changes, after earlier ones
abbrev pub change_of : Line → List Line → Change
change_of e es = record {
  thread = thread_of e.fact;
  status = status_of (thread_of e.fact) (e ∷ es);
  mutex = option_map (mutex_behind (e ∷ es)) (decision_of e.fact);
}

abbrev pub replaced : List Object → Option Mutex → List Object
replaced os None = os
replaced os (Some m) = slice_set os m.number m.object

abbrev pub changed : Shown → Change → Shown
changed s c =
    record { threads = slice_set s.threads c.thread c.status; mutexes = replaced s.mutexes c.mutex }

-- the mutexes after a step of one of them
abbrev pub remade : List Object → Option Decision → List Object
remade os None = os
remade os (Some d) =
    slice_set os d.mutex (stepped (slice_index_or os d.mutex fresh) d.thread d.operation d.reply)
