-- Whether a thread could have had a mutex while its call was under way, by what was recorded.
--
-- *Out of time.* A lock with a time limit may be told to be out of time (ETIMEDOUT) only where another thread owned its
-- mutex at some moment since the call began: after the line of its begin, or after a later one. So it never is where
-- the mutex could be locked at once. Source: pthread_mutex_timedlock(3p).
use Rattle.std.specs.Prelude.{ℕ, ◌≡◌, ◌==◌, ◌&&◌, ◌||◌, not, Bool, true, false, Option, Some, None, List, [], ◌∷◌}
use Rattle.std.specs.Prelude.{if◌then◌else◌}
use Rattle.lockword.specs.declared.reply.Reply.TheVariants.{OK, ETIMEDOUT}
use Rattle.posixmutex.specs.declared.object.Object.{Object}
use Rattle.posixmutex.specs.declared.point.Operation.TheVariants as operation
use Rattle.posixmutex.specs.Objects.{fresh, stepped}
use Rattle.facts.specs.declared.fact.Fact.{Fact}
use Rattle.facts.specs.declared.fact.Fact.TheVariants.{Begin, Point, Death}

-- mutex m, with one fact more
abbrev pub mutex_next : ℕ → Object → Fact → Object
mutex_next m o (Point d) = if d.mutex == m then stepped o d.thread d.operation d.reply else o
mutex_next m o (Death t k) = if k == m then stepped o t operation.Death OK else o
mutex_next m o f = o

-- another thread than t is its owner
abbrev pub is_anothers : ℕ → Option ℕ → Bool
is_anothers t None = false
is_anothers t (Some u) = not (u == t)

-- thread t begins a call
abbrev pub begins_call : ℕ → Fact → Bool
begins_call t (Begin u b) = u == t
begins_call t f = false

-- a mutex, and whether at some moment since a thread began its call another one owned it
pub record Chances : Type 0 where
  pub mutex : Object
  pub waited : Bool

-- at first the mutex is free
abbrev pub no_chances : Chances
no_chances = record { mutex = fresh; waited = false }

-- those of thread t at mutex m, with one fact more
abbrev pub chances_next : ℕ → ℕ → Chances → Fact → Chances
chances_next t m c f = record {
  mutex = mutex_next m c.mutex f;
  waited = (not (begins_call t f) && c.waited) || is_anothers t (mutex_next m c.mutex f).owner;
}

abbrev pub chances_after : ℕ → ℕ → Chances → List Fact → Chances
chances_after t m c [] = c
chances_after t m c (f ∷ fs) = chances_after t m (chances_next t m c f) fs

-- a point of thread t on mutex m that tells of a time limit comes only where another thread owned that
abbrev pub MayTimeOut : ℕ → ℕ → Chances → Fact → Type 0
MayTimeOut t m c (Point d) = d.thread ≡ t → d.mutex ≡ m → d.reply ≡ ETIMEDOUT → c.waited ≡ true
MayTimeOut t m c f = Unit {0}

-- so does each of these facts
abbrev pub TimeLimitsHaveReasons : ℕ → ℕ → Chances → List Fact → Type 0
TimeLimitsHaveReasons t m c [] = Unit {0}
TimeLimitsHaveReasons t m c (f ∷ fs) = MayTimeOut t m c f × TimeLimitsHaveReasons t m (chances_next t m c f) fs
