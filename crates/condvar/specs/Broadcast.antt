-- Broadcast, access by access (pthread_cond_broadcast; FUTEX_CMP_REQUEUE in futex(2)).
--
-- | is at       | access                                                    | then
-- | LoadCell    | load the cell                                             | another's, or nobody's: EPERM. Own: LoadCounter
-- | LoadCounter | load the counter                                          | at its largest value: X_FULL. Else Count, with its low half
-- | Count       | add 1 to the counter                                      | OK; SetWaiters
-- | SetWaiters  | set WAITERS in the cell                                   | Move
-- | Move        | move all sleepers of the counter to the cell, waking none | returns OK, also where the counter has changed
-- |             | of them, where the counter's low half is one more than it |
-- |             | was                                                       |
--
-- Why SetWaiters comes before Move, drawn in the wrong order:
--
--     t1 owns m, and broadcasts                   the walk for t1
--     Move        t2, which waited, sleeps on m
--     is killed
--                                                 Mark     m is nobody's; WAITERS isn't set, so nobody is woken
--                                                 t2 sleeps on a mutex that nobody owns
use Rattle.std.specs.Prelude.{ℕ, ◌==◌, ◌+◌, ◌%◌, ◌^◌, not, if◌then◌else◌}
use Rattle.lockword.specs.Cells.{Fields, fields_of}
use Rattle.lockword.specs.declared.reply.Reply.TheVariants.{OK, EPERM, XFULL}
use Rattle.lockword.specs.Threads.{most_threads}
use Rattle.stepprograms.specs.declared.access.Access.{Access}
use Rattle.stepprograms.specs.declared.access.Access.TheVariants as access
use Rattle.stepprograms.specs.declared.access.Answer.{Answer}
use Rattle.stepprograms.specs.declared.access.Answer.TheVariants.{Value, Again, Counts}
use Rattle.posixmutex.specs.declared.point.Operation.TheVariants as operation
use Rattle.condvar.specs.declared.broadcast.BroadcastRow.{BroadcastRow}
use Rattle.condvar.specs.declared.broadcast.BroadcastRow.TheVariants.{LoadCell, LoadCounter, Count, SetWaiters, Move}
use Rattle.condvar.specs.declared.row.CondRow.TheVariants.{Broadcast, Ended}
use Rattle.condvar.specs.declared.row.CondLed.{CondLed}
use Rattle.condvar.specs.Rows.{goes, decides, ends, faults, full}

-- the bit of a cell that says that somebody may sleep on it
abbrev pub waiters_bit : ℕ
waiters_bit = 0x8000_0000

abbrev pub broadcast_access : ℕ → ℕ → BroadcastRow → Access
broadcast_access cell counter LoadCell = access.Load cell
broadcast_access cell counter LoadCounter = access.Load counter
broadcast_access cell counter (Count seen) = access.FetchAdd counter 1
broadcast_access cell counter (SetWaiters seen) = access.FetchOr cell waiters_bit
broadcast_access cell counter (Move seen) = access.CmpRequeue counter ((seen + 1) % 2 ^ 32) 0 cell most_threads

-- only the owner may broadcast
abbrev pub broadcast_sees : ℕ → Fields → CondLed
broadcast_sees t c = if not (c.owner == t) then ends operation.Broadcast EPERM else goes (Broadcast LoadCounter)

-- it counts only where the counter isn't full
abbrev pub broadcast_counts : ℕ → CondLed
broadcast_counts s = if s == full then ends operation.Broadcast XFULL else goes (Broadcast (Count (s % 2 ^ 32)))

abbrev pub broadcast_resume : ℕ → BroadcastRow → Answer → CondLed
broadcast_resume t LoadCell (Value w) = broadcast_sees t (fields_of w)
broadcast_resume t LoadCounter (Value s) = broadcast_counts s
broadcast_resume t (Count seen) (Value s) = decides (Broadcast (SetWaiters seen)) operation.Broadcast OK
broadcast_resume t (SetWaiters seen) (Value w) = goes (Broadcast (Move seen))
broadcast_resume t (Move seen) Again = goes (Ended OK)
broadcast_resume t (Move seen) (Counts woken moved) = goes (Ended OK)
broadcast_resume t r a = faults
