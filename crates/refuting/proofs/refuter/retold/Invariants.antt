use Rattle.refuting.proofs.Retelling.{Retelling}
use Rattle.refuting.proofs.refuter.retold.Given as goal

abbrev pub invariant-loop-state : goal.invariant-loop-state
invariant-loop-state l = Retelling l.mutex l.turn l.turns l.entry l.states l.after.items l.state-index
