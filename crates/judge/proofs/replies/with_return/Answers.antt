use Rattle.std.proofs.Common.{ℕ, ◌∷◌, reverse, ap, ◌∙◌}
use Rattle.facts.specs.declared.fact.Fact.TheVariants.{Return}
use Rattle.histories.specs.declared.entry.Entry.TheVariants.{Told}
use Rattle.certificates.specs.Certificates.{entries}
use Rattle.judge.proofs.Lines.{pushed}
use Rattle.judge.proofs.replies.with_return.Goals as goal

pub returns : goal.returns
returns c =
    pushed _ _ _ _ c.in_ok-told.ensures.items c.in_ok-push.ensures.items
    ∙ ap (λ (t : ℕ). Told (Return t c.args.reply) ∷ reverse (entries c.args.lines.now)) c.whose.ensures
