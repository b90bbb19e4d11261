-- At the cell and the counter: the access of each row, where each answer leads, and the points.
use Rattle.std.specs.Prelude.{ℕ, Option, Some, None, slice_index}
use Rattle.stepprograms.specs.declared.access.Access.{Access}
use Rattle.stepprograms.specs.declared.access.Access.TheVariants as access
use Rattle.stepprograms.specs.declared.access.Answer.{Answer}
use Rattle.posixmutex.specs.declared.point.Point.{Point}
use Rattle.memorymap.specs.Layouts.{Layout'}
use Rattle.condvar.specs.declared.call.CondCall.{CondCall}
use Rattle.condvar.specs.declared.call.CondCall.TheVariants as call
use Rattle.condvar.specs.declared.wait.WaitRow.TheVariants as wait
use Rattle.condvar.specs.declared.signal.SignalRow.TheVariants as signal
use Rattle.condvar.specs.declared.broadcast.BroadcastRow.TheVariants as broadcast
use Rattle.condvar.specs.declared.row.CondRow.{CondRow}
use Rattle.condvar.specs.declared.row.CondRow.TheVariants.{Wait, Signal, Broadcast, Awake, Ended}
use Rattle.condvar.specs.declared.row.CondLed.{CondLed}
use Rattle.condvar.specs.declared.row.Decided.{Decided}
use Rattle.condvar.specs.Calls.{condition_of}
use Rattle.condvar.specs.Rows.{goes}
use Rattle.condvar.specs.Wait.{wait_access, wait_resume}
use Rattle.condvar.specs.Signal.{signal_access, signal_resume}
use Rattle.condvar.specs.Broadcast.{broadcast_access, broadcast_resume}

abbrev pub first_row : CondCall → CondRow
first_row (call.Wait c) = Wait wait.LoadCell
first_row (call.TimedWait c x) = Wait wait.LoadCell
first_row (call.Signal c) = Signal signal.LoadCell
first_row (call.Broadcast c) = Broadcast broadcast.LoadCell

abbrev pub row_access : ℕ → ℕ → ℕ → CondRow → Access
row_access t cell counter (Wait r) = wait_access t cell counter r
row_access t cell counter (Signal r) = signal_access cell counter r
row_access t cell counter (Broadcast r) = broadcast_access cell counter r
row_access t cell counter Awake = access.Load cell
row_access t cell counter (Ended x) = access.Load cell

abbrev pub resume_of : ℕ → CondRow → Answer → CondLed
resume_of t (Wait r) a = wait_resume t r a
resume_of t (Signal r) a = signal_resume t r a
resume_of t (Broadcast r) a = broadcast_resume t r a
resume_of t Awake a = goes Awake
resume_of t (Ended x) a = goes (Ended x)

-- a point of thread t's call is one of its mutex, whose cell is at this address
abbrev pub point_of : ℕ → ℕ → Option Decided → Option Point
point_of t cell None = None
point_of t cell (Some d) = Some (record { thread = t; at = cell; operation = d.operation; reply = d.reply })

-- the number of a call's mutex
abbrev pub mutex_of : Layout' → CondCall → ℕ
mutex_of l c = slice_index l.conditions (condition_of c)
