use Rattle.std.proofs.Common.{sym, ◌∙◌}
use Rattle.outcomes.proofs.Lists.{next_here, next_later}
use Rattle.outcomes.proofs.next.next_among.Goals as goal

pub returns-then-comes_after : goal.returns-then-comes_after
returns-then-comes_after c = c.call_of.ensures ∙ sym (next_here c.args.last c.loop-index.index c.args.items.now _ c.loop-index-test.true (sym c.comes_after.ensures ∙ c.if-comes_after.true)) ∙ sym c.loop-index.invariant

pub loop-index-preserved : goal.loop-index-preserved
loop-index-preserved c = c.loop-index.invariant ∙ next_later c.args.last c.loop-index.index c.args.items.now _ c.loop-index-test.true (sym c.comes_after.ensures ∙ c.if-comes_after.false)
