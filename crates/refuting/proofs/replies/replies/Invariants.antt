use Rattle.refuting.proofs.Foretelling.{Foretold}
use Rattle.refuting.proofs.replies.replies.Given as goal

abbrev pub invariant-loop-back : goal.invariant-loop-back
invariant-loop-back l = Foretold l.lines l.next l.replies.items l.back
