use Rattle.refuting.proofs.Sights.{Noting}
use Rattle.refuting.proofs.steps.noted.Given as goal

abbrev pub invariant-loop-before : goal.invariant-loop-before
invariant-loop-before l = Noting l.mutex l.turns l.fn.state l.after l.before
