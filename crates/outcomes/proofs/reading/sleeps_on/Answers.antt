use Rattle.std.proofs.Common.{sym, ◌∙◌}
use Rattle.outcomes.proofs.Lists.{is_here, is_other}
use Rattle.outcomes.proofs.reading.sleeps_on.Goals as goal

pub returns-then-is_at : goal.returns-then-is_at
returns-then-is_at c = sym (c.loop-sleeper.invariant ∙ is_here c.args.thread c.args.place c.args.sleepers.now c.loop-sleeper.sleeper-index c.sleeper-item.result c.loop-sleeper-test.true c.sleeper-item.is (sym c.is_at.ensures ∙ c.if-is_at.true))

pub loop-sleeper-preserved : goal.loop-sleeper-preserved
loop-sleeper-preserved c = c.loop-sleeper.invariant ∙ is_other c.args.thread c.args.place c.args.sleepers.now c.loop-sleeper.sleeper-index c.sleeper-item.result c.loop-sleeper-test.true c.sleeper-item.is (sym c.is_at.ensures ∙ c.if-is_at.false)
