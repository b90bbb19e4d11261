-- Where calls on condition variables are at the cell and the counter, and where answers lead.
use Rattle.std.specs.Prelude.{ℕ, Some, None}
use Rattle.lockword.specs.declared.reply.Reply.{Reply}
use Rattle.lockword.specs.declared.reply.Reply.TheVariants.{EFAULT}
use Rattle.posixmutex.specs.declared.point.Operation.{Operation}
use Rattle.condvar.specs.declared.row.CondRow.{CondRow}
use Rattle.condvar.specs.declared.row.CondRow.TheVariants.{Awake, Ended}
use Rattle.condvar.specs.declared.row.CondLed.{CondLed}

abbrev pub goes : CondRow → CondLed
goes r = record { row = r; decided = None }

abbrev pub decides : CondRow → Operation → Reply → CondLed
decides r op x = record { row = r; decided = Some (record { operation = op; reply = x }) }

abbrev pub ends : Operation → Reply → CondLed
ends op x = decides (Ended x) op x

-- a call that is answered a fault, or anything that isn't an answer of its access, is not decided
abbrev pub faults : CondLed
faults = goes (Ended EFAULT)

-- the largest value of a counter
abbrev pub full : ℕ
full = 0xffff_ffff

-- the call isn't finished with the cell and the counter
abbrev pub IsGoing : CondRow → Type 0
IsGoing Awake = ⊥
IsGoing (Ended x) = ⊥
IsGoing r = Unit {0}
