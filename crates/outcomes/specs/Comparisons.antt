-- What two positions are compared by.
--
-- *Comparable.* Threads are compared by what their calls and walks carry. If two threads of states that the machine
-- reaches are the same by that, they are the same: the cells that their calls have seen have an owner that fits its
-- bits, and a call on a condition variable isn't in the lock that ends a wait.
use Rattle.std.specs.Prelude.{List, [], ◌∷◌}
use Rattle.mutex.specs.Whole.{PhaseKnows}
use Rattle.condvar.specs.declared.phase.CondPhase.{CondPhase}
use Rattle.condvar.specs.declared.phase.CondPhase.TheVariants as cond
use Rattle.protocol.specs.declared.thread.Stage.{Stage}
use Rattle.protocol.specs.declared.thread.Stage.TheVariants as stage
use Rattle.protocol.specs.declared.thread.Thread.{Thread}

abbrev pub IsBefore : CondPhase → Type 0
IsBefore (cond.Locking w) = ⊥
IsBefore f = Unit {0}

abbrev pub IsComparable : Stage → Type 0
IsComparable (stage.Calling o p) = PhaseKnows p.phase
IsComparable (stage.AtCondition c p) = IsBefore p.phase
IsComparable g = Unit {0}

abbrev pub AreComparable : List Thread → Type 0
AreComparable [] = Unit {0}
AreComparable (th ∷ ths) = IsComparable th.stage × AreComparable ths
