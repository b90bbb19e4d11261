-- Lock, access by access (pthread_mutex_lock; Futexes Are Tricky).
--
-- | is at      | access                                       | then
-- | Load       | load the cell                                | decide on it
-- | Take       | exchange the cell seen for it, taken         | taken: OK, or EOWNERDEAD where OWNER_DIED is set. Changed: decide on the cell found
-- | SetWaiters | exchange the cell seen for it, with WAITERS  | set: Sleep. Changed: decide on the cell found
-- | Sleep      | sleep where the futex word is as seen        | Load, at once where it differs, and else when woken
-- | WakeAll    | wake all sleepers of an unusable mutex       | returns ENOTRECOVERABLE
--
-- Decide: unusable is ENOTRECOVERABLE, then WakeAll where WAITERS is set; the thread's own is EDEADLK; unowned is Take;
-- another's is Sleep where WAITERS is set, and else SetWaiters.
--
-- Why no wake is lost (as kernel/futex/futex.h of Linux draws it of its own waiters): time runs down, t2 owns the mutex.
--
--     t1 locks                                    t2 unlocks
--     Load        sees t2
--     SetWaiters  t2 becomes t2 with WAITERS
--                                                 Release  leaves WAITERS alone, and saw that it was set
--                                                 Wake     wakes nobody, as nobody sleeps
--     Sleep       the word isn't t2 with WAITERS
--                 any more: back to Load
--
-- If Sleep comes before Release, t1 stands in the queue when t2 comes to Wake, which finds it there: that a word is compared
-- and its thread enqueued is one section, under the lock under which a wake looks.
use Rattle.std.specs.Prelude.{ℕ, ◌==◌, if◌then◌else◌}
use Rattle.lockword.specs.Cells.{Fields, word_of, low_of, fields_of, taken, waiting}
use Rattle.lockword.specs.declared.reply.Reply.TheVariants.{EDEADLK, ENOTRECOVERABLE}
use Rattle.lockword.specs.Threads.{most_threads}
use Rattle.stepprograms.specs.declared.access.Access.{Access}
use Rattle.stepprograms.specs.declared.access.Access.TheVariants as access
use Rattle.stepprograms.specs.declared.access.Answer.{Answer}
use Rattle.stepprograms.specs.declared.access.Answer.TheVariants.{Value, Exchanged, Changed, Again, Woken, Count}
use Rattle.mutex.specs.declared.lock.LockRow.{LockRow}
use Rattle.mutex.specs.declared.lock.LockRow.TheVariants.{Load, Take, SetWaiters, Sleep, WakeAll}
use Rattle.mutex.specs.declared.row.Row.{Row}
use Rattle.mutex.specs.declared.row.Row.TheVariants.{Lock, Ended}
use Rattle.mutex.specs.declared.row.Led.{Led}
use Rattle.mutex.specs.Rows.{goes, decides, ends, faults, acquired}

abbrev pub lock_access : ℕ → ℕ → LockRow → Access
lock_access t cell Load = access.Load cell
lock_access t cell (Take seen) = access.Exchange cell (word_of seen) (word_of (taken seen t))
lock_access t cell (SetWaiters seen) = access.Exchange cell (word_of seen) (word_of (waiting seen))
lock_access t cell (Sleep seen) = access.Wait cell (low_of seen)
lock_access t cell WakeAll = access.Wake cell most_threads

-- where a lock goes on that found the mutex unusable: whoever sleeps there has to learn of it, too
abbrev pub after_loss : Fields → Row
after_loss c = if c.waiters then Lock WakeAll else Ended ENOTRECOVERABLE

-- thread t decides on a cell
abbrev pub lock_sees : ℕ → Fields → Led
lock_sees t c =
    if c.unusable then decides (after_loss c) ENOTRECOVERABLE
    else if c.owner == t then ends EDEADLK
    else if c.owner == 0 then goes (Lock (Take c))
    else if c.waiters then goes (Lock (Sleep c))
    else goes (Lock (SetWaiters c))

abbrev pub lock_resume : ℕ → LockRow → Answer → Led
lock_resume t Load (Value w) = lock_sees t (fields_of w)
lock_resume t (Take seen) Exchanged = ends (acquired seen)
lock_resume t (Take seen) (Changed w) = lock_sees t (fields_of w)
lock_resume t (SetWaiters seen) Exchanged = goes (Lock (Sleep (waiting seen)))
lock_resume t (SetWaiters seen) (Changed w) = lock_sees t (fields_of w)
lock_resume t (Sleep seen) Again = goes (Lock Load)
lock_resume t (Sleep seen) Woken = goes (Lock Load)
lock_resume t WakeAll (Count k) = goes (Ended ENOTRECOVERABLE)
lock_resume t r a = faults
