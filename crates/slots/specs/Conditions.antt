-- Calls on condition variables. A broadcast wakes all, or moves them to the mutex; and a call of the machine is of the same
-- kind as ours. Source: pthread_cond_broadcast(3p).
use Rattle.std.specs.Prelude.{ℕ, ◌≡◌, ◌≤◌, true, false, Some, List, [], ◌∷◌}
use Rattle.lockword.specs.declared.reply.Reply.TheVariants.{OK}
use Rattle.memorymap.specs.Layouts.{Layout', IsLayout, counter_place}
use Rattle.posixmutex.specs.declared.point.Operation.TheVariants as op
use Rattle.condvar.specs.Calls.{acts_as, condition_of}
use Rattle.condvar.specs.Standings.{CondWhole}
use Rattle.condvar.specs.declared.call.CondCall.{CondCall}
use Rattle.condvar.specs.declared.op.Op.TheVariants.{OnCondition}
use Rattle.protocol.specs.declared.thread.Stage.TheVariants.{AtCondition}
use Rattle.protocol.specs.Machine.{is_alive, is_asleep, is_timed}
use Rattle.slots.specs.Rows.{Choice, Row}
use Rattle.slots.specs.Shown.{begin}
use Rattle.slots.specs.Table.{made}
use Rattle.slots.specs.Runs.{Happening, is_resting, next, reached}
use Rattle.slots.specs.Runs.Happening.{Goes}
use Rattle.slots.specs.Premises.{AllTrusted}
use Rattle.slots.specs.Replies.{counts_as, reply}
use Rattle.slots.specs.Outcomes.{call_so_far}

-- In any run, when a broadcast of condition variable k returns OK, nobody sleeps there any more: neither who slept there when
-- it took effect, nor anybody else
abbrev pub BroadcastsReachAll : Type 0
BroadcastsReachAll = (l : Layout') (hs : List Happening) (t : ℕ) (c : Choice) (m k : ℕ) → IsLayout l → 1 ≤ t → t ≤ l.threads
    → AllTrusted (begin l) hs → AllTrusted (reached l hs) (Goes t c ∷ [])
    → is_alive ((reached l hs).machine.threads t).stage ≡ true → is_asleep (reached l hs).machine t ≡ false
    → (call_so_far l hs t).began ≡ Row.CountLooks m k true → is_resting ((reached l hs).rows t) ≡ false
    → is_resting (made (reached l hs) t c ((reached l hs).rows t)).next ≡ true
    → reply (reached l hs) t c ((reached l hs).rows t) ≡ Some OK
    → (next (reached l hs) (Goes t c)).machine.queues (counter_place l k) ≡ []

-- ---- the machine's calls

-- A call of the machine on a condition variable is that of our call which began at row b: it is of the same condition variable
-- and operation, and a wait has a deadline just if ours has one. (A broadcast that finds nobody asleep is a signal of the
-- machine, which returns at that moment)
abbrev pub IsOfCall : Row → CondCall → Type 0
IsOfCall (Row.WaitLooks m k timed) o =
    (condition_of o ≡ k) × (acts_as o ≡ op.Wait) × (is_timed (OnCondition o) ≡ timed)
IsOfCall (Row.CountLooks m k all) o = (condition_of o ≡ k) × (acts_as o ≡ counts_as all)
IsOfCall b o = ⊥

-- in any run, of a thread that the machine has in such a call
abbrev pub ConditionCallsAreOurs : Type 0
ConditionCallsAreOurs = (l : Layout') (hs : List Happening) (t : ℕ) (o : CondCall) (p : CondWhole) → IsLayout l → 1 ≤ t
    → t ≤ l.threads → AllTrusted (begin l) hs → ((reached l hs).machine.threads t).stage ≡ AtCondition o p
    → IsOfCall (call_so_far l hs t).began o
