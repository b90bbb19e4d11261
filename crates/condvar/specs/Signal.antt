-- Signal, access by access (pthread_cond_signal).
--
-- | is at       | access                          | then
-- | LoadCell    | load the cell                   | another's, or nobody's: EPERM. Own: LoadCounter
-- | LoadCounter | load the counter                | at its largest value: X_FULL. Else Count
-- | Count       | add 1 to the counter            | OK; Wake
-- | Wake        | wake one sleeper of the counter | returns OK
use Rattle.std.specs.Prelude.{ℕ, ◌==◌, not, if◌then◌else◌}
use Rattle.lockword.specs.Cells.{Fields, fields_of}
use Rattle.lockword.specs.declared.reply.Reply.TheVariants.{OK, EPERM, XFULL}
use Rattle.stepprograms.specs.declared.access.Access.{Access}
use Rattle.stepprograms.specs.declared.access.Access.TheVariants as access
use Rattle.stepprograms.specs.declared.access.Answer.{Answer}
use Rattle.stepprograms.specs.declared.access.Answer.TheVariants as answer
use Rattle.posixmutex.specs.declared.point.Operation.TheVariants as operation
use Rattle.condvar.specs.declared.signal.SignalRow.{SignalRow}
use Rattle.condvar.specs.declared.signal.SignalRow.TheVariants.{LoadCell, LoadCounter, Count, Wake}
use Rattle.condvar.specs.declared.row.CondRow.TheVariants.{Signal, Ended}
use Rattle.condvar.specs.declared.row.CondLed.{CondLed}
use Rattle.condvar.specs.Rows.{goes, decides, ends, faults, full}

abbrev pub signal_access : ℕ → ℕ → SignalRow → Access
signal_access cell counter LoadCell = access.Load cell
signal_access cell counter LoadCounter = access.Load counter
signal_access cell counter Count = access.FetchAdd counter 1
signal_access cell counter Wake = access.Wake counter 1

-- only the owner may signal
abbrev pub signal_sees : ℕ → Fields → CondLed
signal_sees t c = if not (c.owner == t) then ends operation.Signal EPERM else goes (Signal LoadCounter)

-- it counts only where the counter isn't full
abbrev pub signal_counts : ℕ → CondLed
signal_counts s = if s == full then ends operation.Signal XFULL else goes (Signal Count)

abbrev pub signal_resume : ℕ → SignalRow → Answer → CondLed
signal_resume t LoadCell (answer.Value w) = signal_sees t (fields_of w)
signal_resume t LoadCounter (answer.Value s) = signal_counts s
signal_resume t Count (answer.Value s) = decides (Signal Wake) operation.Signal OK
signal_resume t Wake (answer.Count k) = goes (Ended OK)
signal_resume t r a = faults
