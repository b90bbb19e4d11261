-- Which calls return ETIMEDOUT, and when: calls with a deadline alone, and not before it has passed. A lock returns
-- ETIMEDOUT only if another thread has owned the mutex since the call began. Sources: pthread_mutex_timedlock(3p),
-- pthread_cond_timedwait(3p).
--
-- A deadline passes at any moment of a sleep. An heir, which doesn't sleep, asks a clock after its last look.
use Rattle.std.specs.Prelude.{ℕ, ◌≡◌, ◌≤◌, ◌==◌, ◌&&◌, ◌||◌, not, Bool, true, false, Some, List, [], ◌∷◌, if◌then◌else◌}
use Rattle.lockword.specs.declared.reply.Reply.TheVariants.{ETIMEDOUT}
use Rattle.memorymap.specs.Layouts.{Layout', IsLayout}
use Rattle.protocol.specs.Machine.{State, is_asleep}
use Rattle.slots.specs.Places.{cell_of}
use Rattle.slots.specs.Rows.{Choice, Row, about}
use Rattle.slots.specs.Shown.{Slots, begin}
use Rattle.slots.specs.Runs.{Happening, is_resting, next, reached}
use Rattle.slots.specs.Runs.Happening.{Goes, Lapses}
use Rattle.slots.specs.Invariant.{fields_at}
use Rattle.slots.specs.Premises.{AllTrusted}
use Rattle.slots.specs.Replies.{reply}

-- a call that begins at this row has a deadline
abbrev pub has_deadline : Row → Bool
has_deadline (Row.Looks k) = k.timed
has_deadline (Row.WaitLooks m k timed) = timed
has_deadline r = false

-- it is a lock
abbrev pub is_lock : Row → Bool
is_lock (Row.Looks k) = true
is_lock r = false

-- at these rows a call asks a clock whether its deadline has passed
abbrev pub asks_clock : Row → Bool
asks_clock (Row.LastLooks k) = true
asks_clock (Row.LastMarks k v) = true
asks_clock r = false

-- thread t's deadline passes: in its sleep, or a clock says that it has
abbrev pub passes : Slots → ℕ → Happening → Bool
passes x t (Lapses u) = (u == t) && is_asleep x.machine t
passes x t (Goes u c) = (u == t) && asks_clock (x.rows t) && c.yes
passes x t h = false

-- another thread than t owns mutex m of ours
abbrev pub is_anothers : State → ℕ → ℕ → Bool
is_anothers s t m = not ((fields_at s (cell_of m)).owner == 0) && not ((fields_at s (cell_of m)).owner == t)

-- ---- a call so far

-- the row at which it began, and whether these have happened since: its deadline has passed, and another thread has owned
-- its mutex
pub record SoFar : Type 0 where
  pub began : Row
  pub passed : Bool
  pub met : Bool

abbrev pub in_no_call : SoFar
in_no_call = record { began = Row.Rests; passed = false; met = false }

-- of thread t's call, after this happening
abbrev pub so_far_next : Slots → ℕ → SoFar → Happening → SoFar
so_far_next x t s h =
    if is_resting (x.rows t)
    then record { began = (next x h).rows t; passed = false; met = false }
    else record {
      began = s.began;
      passed = s.passed || passes x t h;
      met = s.met || is_anothers x.machine t (about (x.rows t));
    }

abbrev pub so_far_from : Slots → ℕ → SoFar → List Happening → SoFar
so_far_from x t s [] = s
so_far_from x t s (h ∷ hs) = so_far_from (next x h) t (so_far_next x t s h) hs

abbrev pub so_far : Layout' → List Happening → ℕ → SoFar
so_far l hs t = so_far_from (begin l) t in_no_call hs

-- ---- the law

-- The call has a deadline, which has passed by the end of its next access. If the call is a lock, another thread has owned
-- the mutex
pub record MayTimeOut (x : Slots) (t : ℕ) (c : Choice) (s : SoFar) : Type 0 where
  pub deadline : has_deadline s.began ≡ true
  pub passed : (s.passed || passes x t (Goes t c)) ≡ true
  pub met : is_lock s.began ≡ true → s.met ≡ true

-- in any run, if thread t's call returns ETIMEDOUT after its next access or later, this is so
abbrev pub NoCallTimesOutEarly : Type 0
NoCallTimesOutEarly = (l : Layout') (hs : List Happening) (t : ℕ) (c : Choice) → IsLayout l → 1 ≤ t → t ≤ l.threads
    → AllTrusted (begin l) hs → reply (reached l hs) t c ((reached l hs).rows t) ≡ Some ETIMEDOUT
    → MayTimeOut (reached l hs) t c (so_far l hs t)
