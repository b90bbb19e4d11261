use Rattle.std.proofs.Common.{◌≡◌, List, subst}
use Rattle.std.specs.Prelude.{option_map, string_bytes, IfOk}
use Rattle.facts.specs.declared.fact.Line.{Line}
use Rattle.page.specs.declared.stories.Source.TheVariants.{History}
use Rattle.page.specs.Stories.{title_text}
use Rattle.page.proofs.Lines.{history_so}
use Rattle.page.proofs.html.history_title.Goals as goal

pub returns : goal.returns
returns c =
    subst (λ (us : List Line). IfOk c.title_of.result (λ s. string_bytes s ≡ title_text c.args.names.now History us))
    (history_so c.args.trace.now (option_map (λ s. s.now) c.args.why) c.as_slice-lines.result.now c.history_lines-shown.result c.as_slice-lines.ensures.value c.history_lines-shown.ensures.value)
    c.title_of.ensures
