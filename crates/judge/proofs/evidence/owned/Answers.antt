use Rattle.std.proofs.Common.{sym, ◌∙◌}
use Rattle.judge.proofs.Behind.{owned_further, owned_here}
use Rattle.judge.proofs.evidence.owned.Goals as goal

pub returns-then-is_some : goal.returns-then-is_some
returns-then-is_some c =
    sym (owned_here c.args.mutex c.args.thread c.lines.rest.now c.in-Some.before.now c.in-Some.line.now c.owned_at-found.result c.in-Some.ensures.cases.0 c.owned_at-found.ensures (sym c.is_some.ensures ∙ c.if-is_some.true)) ∙ c.lines.invariant

pub lines-preserved : goal.lines-preserved
lines-preserved c =
    sym (owned_further c.args.mutex c.args.thread c.lines.rest.now c.in-Some.before.now c.in-Some.line.now c.owned_at-found.result c.in-Some.ensures.cases.0 c.owned_at-found.ensures (sym c.is_some.ensures ∙ c.if-is_some.false)) ∙ c.lines.invariant
