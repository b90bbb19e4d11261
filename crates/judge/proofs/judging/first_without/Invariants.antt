use Rattle.judge.specs.Judgements.{IsLegal}
use Rattle.judge.proofs.judging.first_without.Given as goal

abbrev pub invariant-halves : goal.invariant-halves
invariant-halves l = IsLegal l.head l.lines l.low
