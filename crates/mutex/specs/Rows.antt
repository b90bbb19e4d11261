-- Where calls stand and where answers lead.
use Rattle.std.specs.Prelude.{◌≡◌, ◌<◌, true, false, Some, None, if◌then◌else◌}
use Rattle.lockword.specs.Cells.{Fields}
use Rattle.lockword.specs.declared.reply.Reply.{Reply}
use Rattle.lockword.specs.declared.reply.Reply.TheVariants.{OK, EFAULT, EOWNERDEAD}
use Rattle.mutex.specs.declared.lock.LockRow.TheVariants as lock
use Rattle.mutex.specs.declared.try_lock.TryLockRow.TheVariants as try
use Rattle.mutex.specs.declared.row.Row.{Row}
use Rattle.mutex.specs.declared.row.Row.TheVariants.{Lock, TryLock, Ended}
use Rattle.mutex.specs.declared.row.Led.{Led}

abbrev pub goes : Row → Led
goes r = record { row = r; point = None }

abbrev pub decides : Row → Reply → Led
decides r x = record { row = r; point = Some x }

abbrev pub ends : Reply → Led
ends x = decides (Ended x) x

-- a call that is answered a fault, or anything that isn't an answer of its access, is not decided
abbrev pub faults : Led
faults = goes (Ended EFAULT)

-- the reply of whoever takes such a cell
abbrev pub acquired : Fields → Reply
acquired c = if c.died then EOWNERDEAD else OK

-- somebody owns such a cell
abbrev pub IsOwned : Fields → Type 0
IsOwned c = (0 < c.owner) × (c.owner < 0x4000_0000)

-- what a call knows of the cell that it saw
abbrev pub Knows : Row → Type 0
Knows (Lock (lock.Take seen)) = (seen.owner ≡ 0) × (seen.unusable ≡ false)
Knows (Lock (lock.SetWaiters seen)) = IsOwned seen
Knows (Lock (lock.Sleep seen)) = IsOwned seen × (seen.waiters ≡ true)
Knows (TryLock (try.Take seen failed)) = (seen.owner ≡ 0) × (seen.unusable ≡ false) × (failed < 4)
Knows r = Unit {0}

-- the call hasn't returned
abbrev pub IsGoing : Row → Type 0
IsGoing (Ended x) = ⊥
IsGoing r = Unit {0}
