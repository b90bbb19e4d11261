use Rattle.std.proofs.Common.{sym, ap, ◌∙◌}
use Rattle.std.proofs.lemmas.List.{reverse-reverse}
use Rattle.verdict.specs.Told.{trace_of}
use Rattle.explain.specs.Advised.{misfit_advice}
use Rattle.explain.proofs.traces.illegal.Goals as goal

pub returns : goal.returns
returns c =
    let all = c.deref.ensures.value ∙ sym (reverse-reverse c.in-Ok.trace.lines.items) in
    (trace_of c.in-Ok.trace, c.in-Ok.ensures.gives, c.misfit_advice.ensures ∙ ap (λ es. misfit_advice es c.args.why) all)
