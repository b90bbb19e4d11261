-- Unlock, access by access (pthread_mutex_unlock; Futexes Are Tricky).
--
-- | is at     | access                                      | then
-- | Load      | load the cell                               | another's: EPERM. Own: Release, noting OWNER_DIED
-- | Release   | flip the owner's id away; where OWNER_DIED  | OK; where WAITERS was set, Wake
-- |           | was noted, flip it and UNUSABLE too         |
-- | Wake      | wake one sleeper, or all of an unusable one | returns OK; but where it was to wake one, and nobody slept, Trim
-- | Trim      | clear WAITERS, where that is all that the   | returns OK, whatever the answer
-- |           | cell says and nobody sleeps on it           |
--
-- Why the entry is out of the list before Release (`Whole.antt`: Announcing, Unlinking, AtCell), drawn in the wrong order:
--
--     t1 unlocks m                                t2 locks m
--     Release    m is nobody's
--                                                 Take     m is t2's
--                                                 Linking  m's links lead along t2's list
--     Unlinking  stores what t1 knew of m's
--                neighbours: t2's list is broken, and a walk for t2 misses mutexes that it owns
--
-- Between Unlinking and Release m is in no list, so it is pending: a walk for t1 finds it there.
use Rattle.std.specs.Prelude.{ℕ, ◌+◌, ◌==◌, ◌&&◌, Bool, not, if◌then◌else◌}
use Rattle.lockword.specs.Cells.{Fields, fields_of}
use Rattle.lockword.specs.declared.reply.Reply.TheVariants.{OK, EPERM}
use Rattle.lockword.specs.Threads.{most_threads}
use Rattle.stepprograms.specs.declared.access.Access.{Access}
use Rattle.stepprograms.specs.declared.access.Access.TheVariants as access
use Rattle.stepprograms.specs.declared.access.Answer.{Answer}
use Rattle.stepprograms.specs.declared.access.Answer.TheVariants.{Value, Count, Trimmed}
use Rattle.mutex.specs.declared.unlock.UnlockRow.{UnlockRow}
use Rattle.mutex.specs.declared.unlock.UnlockRow.TheVariants.{Load, Release, Wake, Trim}
use Rattle.mutex.specs.declared.row.Row.{Row}
use Rattle.mutex.specs.declared.row.Row.TheVariants.{Unlock, Ended}
use Rattle.mutex.specs.declared.row.Led.{Led}
use Rattle.mutex.specs.Rows.{goes, decides, ends, faults}

-- what a release flips: the owner's id, and of an inconsistent mutex OWNER_DIED and UNUSABLE too
abbrev pub released_bits : ℕ → Bool → ℕ
released_bits t died = if died then t + 0x1_4000_0000 else t

abbrev pub unlock_access : ℕ → ℕ → UnlockRow → Access
unlock_access t cell Load = access.Load cell
unlock_access t cell (Release died) = access.FetchXor cell (released_bits t died)
unlock_access t cell (Wake all) = access.Wake cell (if all then most_threads else 1)
unlock_access t cell Trim = access.Trim cell

abbrev pub unlock_sees : ℕ → Fields → Led
unlock_sees t c = if c.owner == t then goes (Unlock (Release c.died)) else ends EPERM

-- where a release leads that found this cell
abbrev pub after_release : Bool → Fields → Row
after_release died c = if c.waiters then Unlock (Wake died) else Ended OK

-- where a wake leads that woke this many
abbrev pub after_wake : Bool → ℕ → Row
after_wake all woken = if not all && (woken == 0) then Unlock Trim else Ended OK

abbrev pub unlock_resume : ℕ → UnlockRow → Answer → Led
unlock_resume t Load (Value w) = unlock_sees t (fields_of w)
unlock_resume t (Release died) (Value w) = decides (after_release died (fields_of w)) OK
unlock_resume t (Wake all) (Count k) = goes (after_wake all k)
unlock_resume t Trim (Trimmed trimmed) = goes (Ended OK)
unlock_resume t r a = faults
