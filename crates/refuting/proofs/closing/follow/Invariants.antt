use Rattle.refuting.proofs.Closure.{Following}
use Rattle.refuting.proofs.closing.follow.Given as goal

abbrev pub invariant-loop-before : goal.invariant-loop-before
invariant-loop-before l = Following l.mutex l.turns l.fn.states.items l.states.items l.state l.before
