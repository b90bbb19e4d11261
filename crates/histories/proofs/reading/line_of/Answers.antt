use Rattle.std.proofs.Common.{refl, ap, ◌∙◌}
use Rattle.histories.specs.Reading.{line_said}
use Rattle.histories.proofs.reading.line_of.Goals as goal

pub returns-in-Some : goal.returns-in-Some
returns-in-Some c = rw c.in-Some.ensures.0 (c.line_said.ensures ∙ ap (line_said c.args.head.now) c.in-Some.ensures.1)

pub returns-in-None : goal.returns-in-None
returns-in-None c = rw c.in-None.ensures refl
