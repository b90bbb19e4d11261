-- A call that is refused at its first look is a whole call of the machine, which begins and returns at that moment.
use Rattle.std.specs.Prelude.{ℕ, ◌≡◌, ◌≤◌, Bool, true, false, Option, Some, None, List, [], ◌∷◌}
use Rattle.lockword.specs.declared.reply.Reply.{Reply}
use Rattle.memorymap.specs.Layouts.{Layout', IsLayout}
use Rattle.posixmutex.specs.declared.point.Decision.{Decision}
use Rattle.condvar.specs.declared.op.Op.{Op}
use Rattle.condvar.specs.Ops.{acts_as, condition_of, mutex_of}
use Rattle.protocol.specs.declared.event.Event.{Event}
use Rattle.protocol.specs.declared.event.Event.TheVariants.{Begin, Step}
use Rattle.protocol.specs.declared.note.Note.{Note}
use Rattle.protocol.specs.declared.note.Note.TheVariants.{Stepped}
use Rattle.protocol.specs.Machine.{State, happens, is_alive, is_asleep}
use Rattle.slots.specs.Places.{cell_of}
use Rattle.slots.specs.Rows.{Choice, Row}
use Rattle.slots.specs.Shown.{begin}
use Rattle.slots.specs.Table.{made}
use Rattle.slots.specs.Runs.{Happening, is_first_row, reached}
use Rattle.slots.specs.Premises.{AllTrusted}
use Rattle.slots.specs.Replies.{deed}
use Rattle.slots.specs.Replies.Deed.{Decides}

-- what a call of the machine returns at an event that is noted so
abbrev pub noted_reply : Note → Option Reply
noted_reply (Stepped t m point slept woken moved y) = y
noted_reply n = None

-- and at the last of these events
abbrev pub last_reply : State → List Event → Option Reply
last_reply s [] = None
last_reply s (e ∷ []) = noted_reply (happens s e).note
last_reply s (e ∷ f ∷ es) = last_reply (happens s e).state (f ∷ es)

-- at these rows a call may be refused: it looks at the mutex for the first time, or it is a wait that has seen its own mutex
abbrev pub may_refuse : Row → Bool
may_refuse (Row.WaitCounts m k timed died) = true
may_refuse r = is_first_row r

-- the condition variable of a call that is there
abbrev pub condition_at : Row → Option ℕ
condition_at (Row.WaitLooks m k timed) = Some k
condition_at (Row.WaitCounts m k timed died) = Some k
condition_at (Row.CountLooks m k all) = Some k
condition_at r = None

-- each of these events is a step of thread t
abbrev pub AreSteps : ℕ → List Event → Type 0
AreSteps t [] = Unit {0}
AreSteps t (e ∷ es) = (e ≡ Step t) × AreSteps t es

-- These events are a whole call of the machine, whose point is d, a point of ours: the call begins, and makes steps. It is of
-- the same thread, acts as the same operation on our mutex's cell, and returns the same reply; k is its condition variable
pub record IsWholeCall (s : State) (d : Decision) (k : Option ℕ) (es : List Event) : Type 0 where
  pub call : Op
  pub steps : List Event
  pub begins : es ≡ Begin d.thread call ∷ steps
  pub goes : AreSteps d.thread steps
  pub acts : acts_as call ≡ d.operation
  pub mutex : mutex_of s.layout call ≡ cell_of d.mutex
  pub condition : condition_of call ≡ k
  pub returns : last_reply s es ≡ Some d.reply

-- In any run, if a call is decided there, the events of that look are a call of the machine, with the same point. So that call
-- has begun, as the thread was in no call before
abbrev pub RefusalsAreTheMachines : Type 0
RefusalsAreTheMachines = (l : Layout') (hs : List Happening) (t : ℕ) (c : Choice) (d : Decision) → IsLayout l → 1 ≤ t → t ≤ l.threads
    → AllTrusted (begin l) hs → is_alive ((reached l hs).machine.threads t).stage ≡ true
    → is_asleep (reached l hs).machine t ≡ false → may_refuse ((reached l hs).rows t) ≡ true
    → deed (reached l hs) t c ((reached l hs).rows t) ≡ Decides d
    → IsWholeCall (reached l hs).machine d (condition_at ((reached l hs).rows t))
    (made (reached l hs) t c ((reached l hs).rows t)).events
