-- Kills of a bench's threads (kill(2), with SIGKILL).
--
-- *Kills.* There is a note for each thread, and a place to sleep, in the order of their ids, and each bucket has the
-- number of its place. A kill of a thread or of a process's threads is returned ESRCH exactly where the layout has no
-- such thread or process. What the kill of a thread gives back says whose it is, and by its stage that the thread was
-- looked for in each bucket, in the order of their numbers, and was given a token then; a look takes the thread out of
-- the queue in which it stands (`Removes`; `buckets/specs/Queues.antt`). The kill of a process comes to each thread in
-- the order of their ids, kills those of the process (`IsMember`), and spares the others. Whether a thread sleeps is
-- asked of a thread of the layout, else ESRCH (`IsOfThread`). Source: kill(2).
use Rattle.std.specs.Prelude.{ℕ, ◌≡◌, ◌≤◌, ◌<◌, ◌⊎◌, ◌-◌, Result, Ok, Err, length, slice_index}
use Rattle.lockword.specs.declared.reply.Reply.{Reply}
use Rattle.lockword.specs.declared.reply.Reply.TheVariants.{ESRCH}
use Rattle.memorymap.specs.Layouts.{Layout'}

-- a call about the thread with id t is answered so: ESRCH where the layout has no such thread
abbrev pub IsOfThread : {A : Type 0} → Layout' → ℕ → Result A Reply → Type 0
IsOfThread k t (Ok a) = (1 ≤ t) × (t ≤ k.threads)
IsOfThread k t (Err e) = (e ≡ ESRCH) × ((t ≡ 0) ⊎ (k.threads < t))

-- a kill of that thread
abbrev pub Kills : Layout' → ℕ → Result Unit Reply → Type 0
Kills k t r = IsOfThread k t r

-- a kill of the threads of process p: ESRCH where the layout has no such process
abbrev pub KillsAll : Layout' → ℕ → Result Unit Reply → Type 0
KillsAll k p (Ok u) = p < length k.bases
KillsAll k p (Err e) = (e ≡ ESRCH) × (length k.bases ≤ p)

-- the thread with id t is of process p
abbrev pub IsMember : Layout' → ℕ → ℕ → Type 0
IsMember k p t = slice_index k.processes (t - 1) ≡ p
