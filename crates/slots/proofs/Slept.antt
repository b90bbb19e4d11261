-- Which threads may sleep on a counter: a wait that has released its mutex, and then only with SLEPT set, or after a count.
use Rattle.std.proofs.Common.{◌≡◌, ℕ, true, [], List}
use Rattle.memorymap.specs.Layouts.{counter_place}
use Rattle.slots.specs.Rows.{Row}
use Rattle.slots.specs.Rows.Giving.{OfWait}
use Rattle.slots.specs.Shown.{Slots}
use Rattle.slots.proofs.CountersKept.{count_at}

abbrev pub queue_at : Slots → ℕ → List ℕ
queue_at x k = x.machine.queues (counter_place x.machine.layout k)

-- while the counter is what the wait has seen, SLEPT is set
abbrev pub IfThere : Slots → ℕ → ℕ → Type 0
IfThere x k n = count_at x k ≡ n → x.slept k ≡ true

abbrev pub SeesSlept : Slots → Row → Type 0
SeesSlept x (Row.GivePends m (OfWait k n true timed)) = x.slept k ≡ true
SeesSlept x (Row.GiveUnlinks m (OfWait k n true timed)) = x.slept k ≡ true
SeesSlept x (Row.GiveFinds m (OfWait k n b timed)) = x.slept k ≡ true
SeesSlept x (Row.Gives m (OfWait k n b timed)) = x.slept k ≡ true
SeesSlept x (Row.HandsOn m (OfWait k n b timed) is) = IfThere x k n
SeesSlept x (Row.LooksBack m (OfWait k n b timed) is) = IfThere x k n
SeesSlept x (Row.WakesOne m (OfWait k n b timed) is) = IfThere x k n
SeesSlept x (Row.WaitSleeps m k n timed) = IfThere x k n
SeesSlept x (Row.Unsets m k n) = queue_at x k ≡ []
SeesSlept x r = Unit {0}

-- a signal or a broadcast has counted on condition variable k, and hasn't returned
abbrev pub CountsOn : Row → ℕ → Type 0
CountsOn (Row.CountWakes m i n) k = i ≡ k
CountsOn (Row.AllMarks m i n) k = i ≡ k
CountsOn (Row.AllMoves m i n) k = i ≡ k
CountsOn (Row.Unsets m i n) k = i ≡ k
CountsOn r k = ⊥
