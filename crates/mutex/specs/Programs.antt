-- At the cell: the access of each row, where each answer leads, and the point.
use Rattle.std.specs.Prelude.{ℕ, Option, Some, None}
use Rattle.lockword.specs.declared.reply.Reply.{Reply}
use Rattle.stepprograms.specs.declared.access.Access.{Access}
use Rattle.stepprograms.specs.declared.access.Access.TheVariants as access
use Rattle.stepprograms.specs.declared.access.Answer.{Answer}
use Rattle.posixmutex.specs.declared.point.Operation.{Operation}
use Rattle.posixmutex.specs.declared.point.Operation.TheVariants as operation
use Rattle.posixmutex.specs.declared.point.Point.{Point}
use Rattle.stepprograms.specs.declared.program.Progress.{Progress}
use Rattle.mutex.specs.declared.call.Call.{Call}
use Rattle.mutex.specs.declared.call.Call.TheVariants as call
use Rattle.mutex.specs.declared.lock.LockRow.TheVariants as lock
use Rattle.mutex.specs.declared.try_lock.TryLockRow.TheVariants as try
use Rattle.mutex.specs.declared.unlock.UnlockRow.TheVariants as unlock
use Rattle.mutex.specs.declared.consistent.ConsistentRow.TheVariants as consistent
use Rattle.mutex.specs.declared.row.Row.{Row}
use Rattle.mutex.specs.declared.row.Row.TheVariants.{Lock, TryLock, Unlock, Consistent, Ended}
use Rattle.mutex.specs.declared.row.Led.{Led}
use Rattle.mutex.specs.Progresses.{progress_at}
use Rattle.mutex.specs.Rows.{goes}
use Rattle.mutex.specs.Standings.{Standing}
use Rattle.mutex.specs.Lock.{lock_access, lock_resume}
use Rattle.mutex.specs.TryLock.{try_access, try_resume}
use Rattle.mutex.specs.Unlock.{unlock_access, unlock_resume}
use Rattle.mutex.specs.Consistent.{consistent_access, consistent_resume}

abbrev pub first_row : Call → Row
first_row (call.Lock m) = Lock lock.Load
first_row (call.TimedLock m) = Lock lock.Load
first_row (call.TryLock m) = TryLock try.Load
first_row (call.Unlock m) = Unlock unlock.Load
first_row (call.Consistent m) = Consistent consistent.Load

abbrev pub row_access : ℕ → ℕ → Row → Access
row_access t cell (Lock r) = lock_access t cell r
row_access t cell (TryLock r) = try_access t cell r
row_access t cell (Unlock r) = unlock_access t cell r
row_access t cell (Consistent r) = consistent_access cell r
row_access t cell (Ended x) = access.Load cell

abbrev pub resume_of : ℕ → Row → Answer → Led
resume_of t (Lock r) a = lock_resume t r a
resume_of t (TryLock r) a = try_resume r a
resume_of t (Unlock r) a = unlock_resume t r a
resume_of t (Consistent r) a = consistent_resume t r a
resume_of t (Ended x) a = goes (Ended x)

-- what a call that is there does to the mutex
abbrev pub row_operation : Row → Operation
row_operation (Lock r) = operation.Lock
row_operation (Unlock r) = operation.Unlock
row_operation (Consistent r) = operation.Consistent
row_operation r = operation.TryLock

abbrev pub access_of : Standing → Access
access_of p = row_access p.thread p.cell p.row

abbrev pub led : Standing → Answer → Led
led p a = resume_of p.thread p.row a

abbrev pub moved : Standing → Led → Standing
moved p l = record p { row = l.row }

abbrev pub point_of : ℕ → ℕ → Operation → Option Reply → Option Point
point_of t cell op None = None
point_of t cell op (Some x) = Some (record { thread = t; at = cell; operation = op; reply = x })

abbrev pub progress_of : Standing → Led → Progress
progress_of p l = progress_at (point_of p.thread p.cell (row_operation p.row) l.point) l.row
