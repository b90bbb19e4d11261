use Rattle.std.proofs.Common.{◌∙◌, ap, map}
use Rattle.clap.specs.Words.{App, takes}
use Rattle.cmdline.proofs.form.found_by_clap.Goals as goal

pub returns-in_default : goal.returns-in_default
returns-in_default c = λ s taken. absurd (c.in_default.not-OutOfMemory (c.kind-kind.ensures ∙ c.in-Err.ensures.passes (ap (λ (a : App). takes a (map (λ w. w.now) c.args.words.now)) c.in_ok-command.ensures ∙ taken)))
