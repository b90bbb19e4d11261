-- What a deadline does that passes: it ends a sleep, and lets an heir give up. Sources: pthread_mutex_timedlock(3p),
-- pthread_cond_timedwait(3p).
use Rattle.std.specs.Prelude.{ℕ, ◌≡◌, ◌≤◌, ◌==◌, ◌&&◌, Bool, true, false, List}
use Rattle.lockword.specs.declared.reply.Reply.TheVariants.{ETIMEDOUT}
use Rattle.memorymap.specs.Layouts.{Layout', IsLayout, cell_place}
use Rattle.posixmutex.specs.declared.point.Operation.TheVariants as op
use Rattle.protocol.specs.Machine.{is_asleep}
use Rattle.slots.specs.Places.{cell_of}
use Rattle.slots.specs.Rows.{Choice, Row, about}
use Rattle.slots.specs.Shown.{Slots, begin, shown}
use Rattle.slots.specs.Table.{made}
use Rattle.slots.specs.Runs.{Happening, next, reached}
use Rattle.slots.specs.Runs.Happening.{Lapses}
use Rattle.slots.specs.Invariant.{fields_at}
use Rattle.slots.specs.Premises.{AllTrusted}
use Rattle.slots.specs.Deadlines.{has_deadline, is_anothers}
use Rattle.slots.specs.Replies.{decided, deed}
use Rattle.slots.specs.Replies.Deed.{Decides}
use Rattle.slots.specs.Outcomes.{call_so_far, sleeps_until}

-- in any run, a thread that sleeps in a call with a deadline doesn't sleep any more when that passes
abbrev pub DeadlinesEndSleeps : Type 0
DeadlinesEndSleeps = (l : Layout') (hs : List Happening) (t : ℕ) → IsLayout l → 1 ≤ t → t ≤ l.threads
    → AllTrusted (begin l) hs → sleeps_until (reached l hs) t (call_so_far l hs t).began ≡ true
    → (call_so_far l hs t).passed ≡ false → is_asleep (next (reached l hs) (Lapses t)).machine t ≡ false

-- ---- heirs

-- at these rows an heir's watch is over, or another thread was faster; and it asks a clock whether to watch on
abbrev pub has_watched : Row → Bool
has_watched (Row.HeirPendsOn k v over) = true
has_watched (Row.HeirTakes k v) = true
has_watched r = false

-- it watches on
abbrev pub watches_on : Row → Bool
watches_on (Row.HeirPends k b) = true
watches_on r = false

-- At its last look, an heir sees that another thread owns the mutex, with WAITERS; or it has seen that without WAITERS, and
-- sets them
abbrev pub sees_it_owned : Slots → ℕ → Row → Bool
sees_it_owned x t (Row.LastLooks k) =
    is_anothers x.machine t k.mutex && (fields_at x.machine (cell_of k.mutex)).waiters
sees_it_owned x t (Row.LastMarks k v) = shown x (cell_place x.machine.layout (cell_of k.mutex)) == v
sees_it_owned x t r = false

-- thread t's clock says that the deadline has passed: if t is an heir, it doesn't watch on, and after its last look it times
-- out
pub record GivesUpLate (x : Slots) (t : ℕ) (c : Choice) : Type 0 where
  pub watch : has_watched (x.rows t) ≡ true → watches_on (made x t c (x.rows t)).next ≡ false
  pub look : sees_it_owned x t (x.rows t) ≡ true
      → deed x t c (x.rows t) ≡ Decides (decided t (about (x.rows t)) op.TimedLock ETIMEDOUT)

-- in any run, in a call with a deadline
abbrev pub LateHeirsGiveUp : Type 0
LateHeirsGiveUp = (l : Layout') (hs : List Happening) (t : ℕ) (c : Choice) → IsLayout l → 1 ≤ t → t ≤ l.threads
    → AllTrusted (begin l) hs → has_deadline (call_so_far l hs t).began ≡ true → c.yes ≡ true
    → GivesUpLate (reached l hs) t c
