-- What a thread's next step needs.
use Rattle.std.specs.Prelude.{ℕ, ◌≡◌, ◌<◌, true}
use Rattle.exitwalk.specs.Walks as exit
use Rattle.mutex.specs.Whole.{IsUnderWay, PhaseKnows}
use Rattle.condvar.specs.Whole as condition
use Rattle.protocol.specs.declared.thread.Thread.{Thread}
use Rattle.protocol.specs.declared.thread.Stage.{Stage}
use Rattle.protocol.specs.declared.thread.Stage.TheVariants.{Idle, Calling, AtCondition, Dying, Reaped}
use Rattle.memorymap.specs.Layouts.{Layout'}
use Rattle.condvar.specs.declared.op.Op.TheVariants.{OnCondition}
use Rattle.condvar.specs.Ops.{is_in}
use Rattle.protocol.specs.Machine.{State, stands_in, is_asleep}

abbrev pub IsOnItsWay : Layout' → Stage → Type 0
IsOnItsWay l Idle = Unit {0}
IsOnItsWay l (Calling o p) = (is_in l o ≡ true) × IsUnderWay p.phase × PhaseKnows p.phase
IsOnItsWay l (AtCondition c p) =
    (is_in l (OnCondition c) ≡ true) × condition.IsUnderWay p.phase × condition.PhaseKnows p.phase
IsOnItsWay l (Dying w) = exit.IsGoing w.row
IsOnItsWay l Reaped = Unit {0}

-- its call, if it is in one, is one of the layout's, hasn't returned and knows what its phase needs; its walk, if it
-- died, hasn't ended; and one mutex more can be counted
abbrev pub MayStep : Layout' → Thread → Type 0
MayStep l th = IsOnItsWay l th.stage × (th.held < 65535)

-- whichever queue it is in, it sleeps in its call: the queue is that of a place that its stage has
abbrev pub SleepsInItsCall : State → ℕ → Type 0
SleepsInItsCall s t = (key : ℕ) → stands_in t (s.queues key) ≡ true → is_asleep s t ≡ true
