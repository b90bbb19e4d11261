-- How many mutexes a thread owns, as its own lines say.
--
-- *The count.* A lock that returns OK or EOWNERDEAD adds one, an unlock takes one away, and so does a wait that isn't
-- told that it took its mutex again; who was reaped owns none. In a call the thread may own one more or one less already
-- (`Counted`). Who owns 2,048 gets X_HELD from a lock or trylock, and nobody else does; a wait that has released its
-- mutex isn't, as its thread owns less (robust-futexes).
use Rattle.std.specs.Prelude.{ℕ, ◌≡◌, ◌+◌, ◌-◌, ◌≤◌, ◌↔◌, List, slice_index}
use Rattle.lockword.specs.declared.reply.Reply.{Reply}
use Rattle.lockword.specs.declared.reply.Reply.TheVariants.{OK, EPERM, ETIMEDOUT, EOWNERDEAD, XHELD, XSTATE}
use Rattle.posixmutex.specs.declared.point.Operation.{Operation}
use Rattle.posixmutex.specs.declared.point.Operation.TheVariants.{Lock, TryLock, TimedLock, Unlock, Wait, TimedWait, Death}
use Rattle.verdict.specs.declared.stage.Made.{Made}
use Rattle.verdict.specs.declared.stage.Made.TheVariants.{Nothing, Released, Decided}
use Rattle.facts.specs.declared.fact.Fact.TheVariants.{Return, Reap}
use Rattle.histories.specs.declared.entry.Entry.{Entry}
use Rattle.histories.specs.declared.entry.Entry.TheVariants.{Told}
use Rattle.refuting.specs.declared.turn.Turn.{Turn}
use Rattle.refuting.specs.declared.turn.Turn.TheVariants as turn
use Rattle.verdict.specs.declared.stage.Stage.{Stage}
use Rattle.verdict.specs.declared.stage.Stage.TheVariants.{Resting, Calling, Dying, Reaped}

-- how many mutexes a call that gets this has taken, and how many it has given up
abbrev pub won_by : Operation → Reply → ℕ
won_by Lock OK = 1
won_by Lock EOWNERDEAD = 1
won_by TryLock OK = 1
won_by TryLock EOWNERDEAD = 1
won_by TimedLock OK = 1
won_by TimedLock EOWNERDEAD = 1
won_by a x = 0

abbrev pub lost_by : Operation → Reply → ℕ
lost_by Unlock OK = 1
lost_by Death OK = 1
lost_by Wait OK = 0
lost_by Wait EOWNERDEAD = 0
lost_by Wait EPERM = 0
lost_by Wait XSTATE = 0
lost_by Wait x = 1
lost_by TimedWait OK = 0
lost_by TimedWait ETIMEDOUT = 0
lost_by TimedWait EOWNERDEAD = 0
lost_by TimedWait EPERM = 0
lost_by TimedWait XSTATE = 0
lost_by TimedWait x = 1
lost_by a x = 0

-- so far
abbrev pub won : Operation → Made → ℕ
won a (Decided x) = won_by a x
won a m = 0

abbrev pub lost : Operation → Made → ℕ
lost a Nothing = 0
lost a Released = 1
lost a (Decided x) = lost_by a x

-- the count after a call that gets this
abbrev pub settled : Operation → Reply → ℕ → ℕ
settled a x own = own + won_by a x - lost_by a x

-- of who owns this many by its lines a call may get this
abbrev pub AtLimit : Operation → Reply → ℕ → Type 0
AtLimit Lock x own = (x ≡ XHELD) ↔ (2048 ≤ own)
AtLimit TryLock x own = (x ≡ XHELD) ↔ (2048 ≤ own)
AtLimit TimedLock x own = (x ≡ XHELD) ↔ (2048 ≤ own)
AtLimit Wait x own = x ≡ XHELD → 2049 ≤ own
AtLimit TimedWait x own = x ≡ XHELD → 2049 ≤ own
AtLimit a x own = Unit {0}

abbrev pub KeepsLimit : Operation → Made → ℕ → Type 0
KeepsLimit a (Decided x) own = AtLimit a x own
KeepsLimit a m own = Unit {0}

-- a thread at this stage owns `count` mutexes, and by its lines `own`
abbrev pub Counted : Stage → ℕ → ℕ → Type 0
Counted Resting count own = count ≡ own
Counted (Calling k made asleep) count own =
    (count + lost k.operation made ≡ own + won k.operation made) × KeepsLimit k.operation made own
Counted Dying count own = Unit {0}
Counted Reaped count own = (count ≡ 0) × (own ≡ 0)

-- ---- line by line

-- the threads' counts, by their ids
abbrev pub count_at : List ℕ → ℕ → ℕ
count_at cs t = slice_index cs t

-- the count after a line of the thread, which was at this turn
abbrev pub count_after : Turn → Entry → ℕ → ℕ
count_after (turn.Calling c y) (Told (Return t x)) own = settled c.operation x own
count_after turn (Told (Reap t)) own = 0
count_after turn e own = own

-- the line tells X_HELD where the thread owns this many, and nowhere else
abbrev pub WithinLimit : Turn → Entry → ℕ → Type 0
WithinLimit (turn.Calling c y) (Told (Return t x)) own = AtLimit c.operation x own
WithinLimit turn e own = Unit {0}
