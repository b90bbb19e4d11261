use Rattle.windows.specs.Windows.{IsAt}
use Rattle.text_tests.proofs.cut.join.Given as goal

abbrev pub invariant-loop : goal.invariant-loop
invariant-loop l = IsAt l.steps l.cutter
