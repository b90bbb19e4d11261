use Rattle.std.proofs.Common.{sym, ◌∙◌}
use Rattle.script.proofs.Dying.{none_yet, found}
use Rattle.script.proofs.deaths.death_of.Goals as goal

pub returns-in-Some : goal.returns-in-Some
returns-in-Some c = found c.args.thread c.args.commands.now c.loop-command.command-index c.in-Some.access c.command-item.result c.loop-command-test.true c.command-item.is c.loop-command.invariant (sym c.death_by.ensures ∙ c.in-Some.is)

pub loop-command-preserved : goal.loop-command-preserved
loop-command-preserved c = none_yet c.args.thread c.args.commands.now c.loop-command.command-index c.command-item.result c.loop-command-test.true c.command-item.is c.loop-command.invariant (sym c.death_by.ensures ∙ c.in_default.is)
