-- Whom a call on a mutex wakes (pthread_mutex_unlock(3p); pthread_mutexattr_getrobust(3p), for ENOTRECOVERABLE;
-- FUTEX_WAKE in futex(2)).
--
-- *Whom a call asks to be woken.* Of its rows at the cell and the counter, and of the whole call (`WholeCallsWake`;
-- `mutex/specs/WholeLaws.antt`, `condvar/specs/WholeLaws.antt`), which wakes nobody elsewhere. Exactly after a
-- release, and where a lock finds the mutex unusable, if the cell that was met had WAITERS: one sleeper of a mutex that
-- is usable then, all of one that is unusable. A wait's release wakes one likewise, a signal that counted one of its
-- condition variable; trylocks, declarations and broadcasts make no wake. The laws `wakes_are_right`,
-- `whole_calls_wake`. How many the machine then wakes: *Whom an event wakes*.
use Rattle.std.specs.Prelude.{ℕ, ◌≡◌, ◌↔◌, ◌≤◌, Bool, true, Option, Some, List, if◌then◌else◌}
use Rattle.lockword.specs.Cells.{fields_of}
use Rattle.lockword.specs.declared.reply.Reply.{Reply}
use Rattle.lockword.specs.declared.reply.Reply.TheVariants.{OK, ENOTRECOVERABLE}
use Rattle.lockword.specs.Threads.{most_threads}
use Rattle.stepprograms.specs.declared.access.Access.TheVariants as access
use Rattle.posixmutex.specs.declared.object.Object.{Object}
use Rattle.posixmutex.specs.declared.point.Operation.{Operation}
use Rattle.posixmutex.specs.declared.point.Operation.TheVariants.{Lock, Unlock}
use Rattle.stepprograms.specs.Accesses.{word_among, answer_among}
use Rattle.posixmutex.specs.Objects.{object_of}
use Rattle.mutex.specs.declared.row.Row.{Row}
use Rattle.mutex.specs.Rows.{Knows, IsGoing}
use Rattle.mutex.specs.Programs.{row_access, resume_of, row_operation}
use Rattle.mutex.specs.Laws.{Sound, Expects}

-- all that sleep on a word: there are no more threads
abbrev pub everybody : ℕ
everybody = most_threads

-- how many sleepers are to learn of a mutex that was left so: one, who may take it; of an unusable one each, since
-- nobody takes that again
abbrev pub to_wake : Object → ℕ
to_wake o = if o.unusable then everybody else 1

-- after an access that was the point of a call with this reply, that met a word with WAITERS or without, and that
-- left the mutex so, the call wakes n sleepers: after a release, and where a lock found the mutex unusable. No other
-- call wakes anybody
abbrev pub Wakes : Operation → Option Reply → Bool → Object → ℕ → Type 0
Wakes Unlock (Some OK) true o n = n ≡ to_wake o
Wakes Lock (Some ENOTRECOVERABLE) true o n = n ≡ to_wake o
Wakes op x w o n = ⊥

-- whatever word an access meets, and whoever sleeps on it, the next one is a wake of n sleepers exactly there, and of
-- those on the mutex's cell
abbrev pub WakesAreRight : Type 0
WakesAreRight = (t cell w at n : ℕ) (queue : List ℕ) (r : Row) → 1 ≤ t → t ≤ most_threads → IsGoing r → Knows r
    → Sound (object_of (fields_of w)) → Expects t r (object_of (fields_of w))
    → (row_access t cell (resume_of t r (answer_among (row_access t cell r) w queue)).row ≡ access.Wake at n)
    ↔
    ((at ≡ cell)
    × Wakes (row_operation r) (resume_of t r (answer_among (row_access t cell r) w queue)).point
    (fields_of w).waiters (object_of (fields_of (word_among (row_access t cell r) w queue))) n)
