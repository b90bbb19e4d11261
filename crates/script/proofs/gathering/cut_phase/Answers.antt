use Rattle.std.proofs.Common.{sym, ◌∙◌, ◌+◌}
use Rattle.script.specs.Jobs.{ends_phase}
use Rattle.script.proofs.Phases.{parts_none, parts_at, all_of}
use Rattle.script.proofs.gathering.cut_phase.Goals as goal

pub returns-in_err-end-clause-parts : goal.returns-in_err-end-clause-parts
returns-in_err-end-clause-parts c = rw c.from_residual.ensures (parts_none ends_phase c.args.commands.now (sym c.end_of.ensures ∙ c.in_err-end.was))

pub returns-clause-parts : goal.returns-clause-parts
returns-clause-parts c = rw (all_of (c.in_ok-end.end + 1) c.args.commands.now) (parts_at ends_phase c.args.commands.now c.in_ok-end.end (sym c.end_of.ensures ∙ c.in_ok-end.was))
