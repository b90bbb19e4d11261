-- Trylock, access by access (pthread_mutex_trylock; Futexes Are Tricky).
--
-- | is at     | access                                  | then
-- | Load      | load the cell                           | decide on it
-- | Take      | exchange the cell seen for it, taken    | taken: OK, or EOWNERDEAD where OWNER_DIED is set. Changed: decide on the cell found
--
-- Decide: unusable is ENOTRECOVERABLE, owned is EBUSY, and else Take; but after four failed exchanges X_RACED.
use Rattle.std.specs.Prelude.{ℕ, ◌+◌, ◌==◌, not, if◌then◌else◌}
use Rattle.lockword.specs.Cells.{Fields, word_of, fields_of, taken}
use Rattle.lockword.specs.declared.reply.Reply.TheVariants.{EBUSY, ENOTRECOVERABLE, XRACED}
use Rattle.stepprograms.specs.declared.access.Access.{Access}
use Rattle.stepprograms.specs.declared.access.Access.TheVariants as access
use Rattle.stepprograms.specs.declared.access.Answer.{Answer}
use Rattle.stepprograms.specs.declared.access.Answer.TheVariants.{Value, Exchanged, Changed}
use Rattle.mutex.specs.declared.try_lock.TryLockRow.{TryLockRow}
use Rattle.mutex.specs.declared.try_lock.TryLockRow.TheVariants.{Load, Take}
use Rattle.mutex.specs.declared.row.Row.TheVariants.{TryLock}
use Rattle.mutex.specs.declared.row.Led.{Led}
use Rattle.mutex.specs.Rows.{goes, ends, faults, acquired}

abbrev pub try_access : ℕ → ℕ → TryLockRow → Access
try_access t cell Load = access.Load cell
try_access t cell (Take seen failed) = access.Exchange cell (word_of seen) (word_of (taken seen t))

-- decides on a cell, after this many failed exchanges
abbrev pub try_sees : ℕ → Fields → Led
try_sees failed c =
    if c.unusable then ends ENOTRECOVERABLE
    else if not (c.owner == 0) then ends EBUSY
    else if failed == 4 then ends XRACED
    else goes (TryLock (Take c failed))

abbrev pub try_resume : TryLockRow → Answer → Led
try_resume Load (Value w) = try_sees 0 (fields_of w)
try_resume (Take seen failed) Exchanged = ends (acquired seen)
try_resume (Take seen failed) (Changed w) = try_sees (failed + 1) (fields_of w)
try_resume r a = faults
