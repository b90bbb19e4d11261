-- What is kept of each thread and each mutex on a walk over steps.
use Rattle.std.specs.Prelude.{ℕ, ◌≡◌, ◌+◌, ◌<◌, true, false, not, ◌&&◌, Option, Some, None, IfSome, List}
use Rattle.std.specs.Prelude.{length, slice_index_or, slice_set, if◌then◌else◌}
use Rattle.std.specs.Option.{is_some}
use Rattle.lockword.specs.Threads.{most_threads}
use Rattle.posixmutex.specs.declared.object.Object.{Object}
use Rattle.posixmutex.specs.declared.point.Decision.{Decision}
use Rattle.posixmutex.specs.Objects.{fresh, stepped}
use Rattle.facts.specs.declared.fact.Fact.{Fact}
use Rattle.facts.specs.declared.fact.Fact.TheVariants.{Begin, Kill, Point, Return}
use Rattle.facts.specs.Facts.{decision_of}
use Rattle.verdict.specs.Earlier.{objects_after}
use Rattle.histories.specs.Limits.{max_mutexes}
use Rattle.histories.specs.declared.entry.Entry.{Entry}
use Rattle.histories.specs.declared.entry.Entry.TheVariants.{Told, Doom}
use Rattle.certificates.specs.declared.walk.Thread.{Thread}
use Rattle.certificates.specs.declared.walk.Mutex.{Mutex}
use Rattle.certificates.specs.declared.walk.Walk.{Walk}
use Rattle.certificates.specs.declared.waiting.Waiter.{Waiter}
use Rattle.certificates.specs.Certificates.{is_doomed, is_seen, seen_of, trace_of, whose}
use Rattle.certificates.specs.Waiters.{begun_at, left_at, locked_by, locks, waiter_for, waiter_of}

-- ---- a thread

abbrev pub idle : Thread
idle = record { locks = None; begin = 0; doomed = false }

abbrev pub thread_at : List Thread → ℕ → Thread
thread_at ts t = slice_index_or ts t idle

-- what a fact of its own makes of it, after n lines of the history
abbrev pub told_thread : Thread → Fact → ℕ → Thread
told_thread p (Begin t c) n = record { locks = locked_by c.operation c.mutex; begin = n + 1; doomed = p.doomed }
told_thread p (Point d) n = record p { locks = None }
told_thread p (Return t x) n = record p { locks = None }
told_thread p (Kill t) n = record { locks = None; begin = p.begin; doomed = false }
told_thread p f n = p

abbrev pub thread_after : Thread → Entry → ℕ → Thread
thread_after p (Told f) n = told_thread p f n
thread_after p (Doom t) n = record p { doomed = true }

-- what it is after steps
abbrev pub thread_behind : ℕ → List Entry → Thread
thread_behind t es = record { locks = locks t (trace_of es); begin = begun_at t es; doomed = is_doomed t es }

-- ---- a mutex

abbrev pub untouched : Mutex
untouched = record { object = fresh; since = None }

abbrev pub mutex_at : List Mutex → ℕ → Mutex
mutex_at ms m = slice_index_or ms m untouched

abbrev pub became : Mutex → Object → ℕ → Mutex
became k o n = record { object = o; since = if is_some k.object.owner && not (is_some o.owner) then Some n else k.since }

-- what a point or a death makes of its mutex
abbrev pub mutex_after : Mutex → Decision → ℕ → Mutex
mutex_after k d n = became k (stepped k.object d.thread d.operation d.reply) n

abbrev pub decision_in : Entry → Option Decision
decision_in (Told f) = decision_of f
decision_in (Doom t) = None

abbrev pub mutexes_after : List Mutex → Option Decision → ℕ → List Mutex
mutexes_after ms None n = ms
mutexes_after ms (Some d) n = slice_set ms d.mutex (mutex_after (mutex_at ms d.mutex) d n)

abbrev pub mutex_behind : ℕ → List Entry → Mutex
mutex_behind m es = record { object = objects_after (trace_of es) m; since = left_at m es }

-- ---- the walk

-- there is room for every thread and every mutex
pub record HasRoom (w : Walk) : Type 0 where
  pub threads : length w.threads.items ≡ most_threads + 1
  pub mutexes : length w.mutexes.items ≡ max_mutexes

-- before the first step
pub record IsNew (w : Walk) : Type 0 where
  pub room : HasRoom w
  pub threads : (t : ℕ) → thread_at w.threads.items t ≡ idle
  pub mutexes : (m : ℕ) → mutex_at w.mutexes.items m ≡ untouched
  pub lines : w.lines ≡ 0

-- a step leads from one to the other
pub record Walks (w : Walk) (e : Entry) (k : Walk) : Type 0 where
  pub thread : whose e < length w.threads.items
  pub mutex : IfSome (decision_in e) (λ d. d.mutex < length w.mutexes.items)
  pub threads : k.threads.items
      ≡ slice_set w.threads.items (whose e) (thread_after (thread_at w.threads.items (whose e)) e w.lines)
  pub mutexes : k.mutexes.items ≡ mutexes_after w.mutexes.items (decision_in e) w.lines
  pub lines : k.lines
      ≡ (if is_seen e (thread_at w.threads.items (whose e)).doomed then w.lines + 1 else w.lines)

-- it is after these steps
pub record IsBehind (es : List Entry) (w : Walk) : Type 0 where
  pub threads : (t : ℕ) → t < length w.threads.items → thread_at w.threads.items t ≡ thread_behind t es
  pub mutexes : (m : ℕ) → m < length w.mutexes.items → mutex_at w.mutexes.items m ≡ mutex_behind m es
  pub lines : w.lines ≡ length (seen_of es)

-- ---- what still waits, after steps that led there

abbrev pub IsWaiterFor : Walk → ℕ → ℕ → ℕ → Option Waiter → Type 0
IsWaiterFor w t begin m r = (es : List Entry) → IsBehind es w → r ≡ waiter_for t begin es (Some m)

abbrev pub IsWaiterOf : Walk → ℕ → Option Waiter → Type 0
IsWaiterOf w t r = (es : List Entry) → IsBehind es w → r ≡ waiter_of t es
