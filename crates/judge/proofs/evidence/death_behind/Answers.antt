use Rattle.std.proofs.Common.{sym, ◌∙◌}
use Rattle.judge.proofs.Behind.{death_further, death_here}
use Rattle.judge.proofs.evidence.death_behind.Goals as goal

pub returns-then-is_death : goal.returns-then-is_death
returns-then-is_death c =
    sym (death_here c.args.mutex c.lines.rest.now c.in-Some.before.now c.in-Some.line.now c.is_death.result c.in-Some.ensures.cases.0 c.in-Some.ensures.cases.1 c.is_death.ensures c.if-is_death.true) ∙ c.lines.invariant

pub lines-preserved : goal.lines-preserved
lines-preserved c =
    sym (death_further c.args.mutex c.lines.rest.now c.in-Some.before.now c.in-Some.line.now c.is_death.result c.in-Some.ensures.cases.0 c.is_death.ensures c.if-is_death.false) ∙ c.lines.invariant
