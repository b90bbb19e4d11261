use Rattle.std.proofs.Common.{ap, ◌∙◌}
use Rattle.explain.specs.Texts.{explanation_text}
use Rattle.explain.proofs.explaining.tell_explanation.Goals as goal

pub returns-clause-text : goal.returns-clause-text
returns-clause-text c = c.in_ok-text.ensures ∙ ap (λ l. explanation_text c.args.file.now l c.args.explanation.now) c.lines_in.ensures
