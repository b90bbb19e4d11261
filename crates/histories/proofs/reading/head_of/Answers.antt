use Rattle.std.proofs.Common.{refl, ap, ◌∙◌}
use Rattle.histories.specs.Reading.{head_said}
use Rattle.histories.proofs.reading.head_of.Goals as goal

pub returns-in-Some-clause-value : goal.returns-in-Some-clause-value
returns-in-Some-clause-value c = rw c.in-Some.ensures.0 (c.head_said.ensures.value ∙ ap head_said c.in-Some.ensures.1)

pub returns-in-None-clause-value : goal.returns-in-None-clause-value
returns-in-None-clause-value c = rw c.in-None.ensures refl
