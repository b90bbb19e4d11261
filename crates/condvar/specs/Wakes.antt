-- Whom a call on a condition variable wakes (pthread_cond_signal(3p), pthread_cond_wait(3p); FUTEX_WAKE in futex(2)).
use Rattle.std.specs.Prelude.{ℕ, ◌≡◌, ◌↔◌, Bool, true, false, Option, Some, None}
use Rattle.lockword.specs.Cells.{fields_of}
use Rattle.lockword.specs.declared.reply.Reply.{Reply}
use Rattle.lockword.specs.declared.reply.Reply.TheVariants.{OK}
use Rattle.stepprograms.specs.declared.access.Access.TheVariants as access
use Rattle.stepprograms.specs.declared.access.Answer.{Answer}
use Rattle.stepprograms.specs.declared.access.Answer.TheVariants.{Value}
use Rattle.posixmutex.specs.declared.point.Operation.{Operation}
use Rattle.posixmutex.specs.declared.point.Operation.TheVariants.{Unlock, Signal}
use Rattle.condvar.specs.declared.row.CondRow.{CondRow}
use Rattle.condvar.specs.declared.row.Decided.{Decided}
use Rattle.condvar.specs.Rows.{IsGoing}
use Rattle.condvar.specs.Programs.{row_access, resume_of}

-- the word that was met, if any was recorded, has WAITERS
abbrev pub tells_waiters : Answer → Bool
tells_waiters (Value w) = (fields_of w).waiters
tells_waiters a = false

-- after its point a call wakes n sleepers of the word at this address: one of the mutex after a wait's release, where
-- WAITERS was set, and one of the condition variable where a signal counted. A broadcast wakes nobody: it moves
abbrev pub WakesBehind : ℕ → ℕ → Operation → Reply → Bool → ℕ → ℕ → Type 0
WakesBehind cell counter Unlock OK true at n = (at ≡ cell) × (n ≡ 1)
WakesBehind cell counter Signal OK b at n = (at ≡ counter) × (n ≡ 1)
WakesBehind cell counter op x b at n = ⊥

abbrev pub Wakes : ℕ → ℕ → Option Decided → Bool → ℕ → ℕ → Type 0
Wakes cell counter None b at n = ⊥
Wakes cell counter (Some d) b at n = WakesBehind cell counter d.operation d.reply b at n

-- whatever an access is answered, the next one is a wake exactly there
abbrev pub WakesAreRight : Type 0
WakesAreRight = (t cell counter at n : ℕ) (r : CondRow) (a : Answer) → IsGoing r
    → (row_access t cell counter (resume_of t r a).row ≡ access.Wake at n)
    ↔ Wakes cell counter (resume_of t r a).decided (tells_waiters a) at n
