-- Wait, access by access, until it is awake again (pthread_cond_wait; futex(2)).
--
-- | is at       | access                                        | then
-- | LoadCell    | load the cell                                 | another's, or nobody's: EPERM. Own, OWNER_DIED set: X_STATE. Else LoadCounter
-- | LoadCounter | load the counter                              | Release, with its low half
-- | Release     | flip the owner's id away                      | an unlock, OK; where WAITERS was set Wake, else Sleep
-- | Wake        | wake one sleeper of the cell                  | Sleep
-- | Sleep       | sleep on the counter where its low half is as | at once where it differs, and else when woken: awake, a lock from its load of the cell on
-- |             | it was                                        |
use Rattle.std.specs.Prelude.{ℕ, ◌==◌, ◌%◌, ◌^◌, not, if◌then◌else◌}
use Rattle.lockword.specs.Cells.{Fields, fields_of}
use Rattle.lockword.specs.declared.reply.Reply.TheVariants.{OK, EPERM, XSTATE}
use Rattle.stepprograms.specs.declared.access.Access.{Access}
use Rattle.stepprograms.specs.declared.access.Access.TheVariants as access
use Rattle.stepprograms.specs.declared.access.Answer.{Answer}
use Rattle.stepprograms.specs.declared.access.Answer.TheVariants.{Value, Count, Again, Woken}
use Rattle.posixmutex.specs.declared.point.Operation.TheVariants as operation
use Rattle.condvar.specs.declared.wait.WaitRow.{WaitRow}
use Rattle.condvar.specs.declared.wait.WaitRow.TheVariants.{LoadCell, LoadCounter, Release, Wake, Sleep}
use Rattle.condvar.specs.declared.row.CondRow.{CondRow}
use Rattle.condvar.specs.declared.row.CondRow.TheVariants.{Wait, Awake}
use Rattle.condvar.specs.declared.row.CondLed.{CondLed}
use Rattle.condvar.specs.Rows.{goes, decides, ends, faults}

abbrev pub wait_access : ℕ → ℕ → ℕ → WaitRow → Access
wait_access t cell counter LoadCell = access.Load cell
wait_access t cell counter LoadCounter = access.Load counter
wait_access t cell counter (Release seen) = access.FetchXor cell t
wait_access t cell counter (Wake seen) = access.Wake cell 1
wait_access t cell counter (Sleep seen) = access.Wait counter seen

-- only the owner of a consistent mutex may wait
abbrev pub wait_sees : ℕ → Fields → CondLed
wait_sees t c =
    if not (c.owner == t)
    then ends operation.Wait EPERM
    else if c.died
    then ends operation.Wait XSTATE
    else goes (Wait LoadCounter)

-- where a release leads that found this cell
abbrev pub after_release : ℕ → Fields → CondRow
after_release seen c = if c.waiters then Wait (Wake seen) else Wait (Sleep seen)

abbrev pub wait_resume : ℕ → WaitRow → Answer → CondLed
wait_resume t LoadCell (Value w) = wait_sees t (fields_of w)
wait_resume t LoadCounter (Value s) = goes (Wait (Release (s % 2 ^ 32)))
wait_resume t (Release seen) (Value w) = decides (after_release seen (fields_of w)) operation.Unlock OK
wait_resume t (Wake seen) (Count k) = goes (Wait (Sleep seen))
wait_resume t (Sleep seen) Again = goes Awake
wait_resume t (Sleep seen) Woken = goes Awake
wait_resume t r a = faults
