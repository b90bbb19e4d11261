use Rattle.std.proofs.Common.{◌≡◌, List, subst}
use Rattle.std.specs.Prelude.{string_bytes, IfOk}
use Rattle.facts.specs.declared.fact.Line.{Line}
use Rattle.page.specs.declared.stories.Source.TheVariants.{Trace}
use Rattle.page.specs.Stories.{title_text}
use Rattle.page.proofs.Lines.{shown_so}
use Rattle.page.proofs.html.trace_title.Goals as goal

pub returns : goal.returns
returns c =
    subst (λ (us : List Line). IfOk c.title_of.result (λ s. string_bytes s ≡ title_text c.args.names.now Trace us))
    (shown_so c.args.trace.now c.args.finding.now c.as_slice-lines.result.now c.shown_lines-shown.result c.as_slice-lines.ensures.value c.shown_lines-shown.ensures.value)
    c.title_of.ensures
