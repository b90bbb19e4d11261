use Rattle.std.proofs.Common.{ℕ, reverse, ap, ◌∙◌}
use Rattle.certificates.specs.Certificates.{entries}
use Rattle.judge.specs.declared.reason.Standing.{Standing}
use Rattle.judge.specs.Reasons.{reason_by, standing_behind}
use Rattle.judge.proofs.reason.reason_of.Goals as goal

pub returns : goal.returns
returns c =
    c.reason_by.ensures
    ∙ ap (λ (s : Standing). reason_by s c.args.entry.now) (c.standing_behind.ensures ∙ ap (λ (t : ℕ). standing_behind t (reverse (entries c.args.lines.now))) c.whose.ensures)
