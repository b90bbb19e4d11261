use Rattle.std.proofs.Common.{sym, ◌∙◌, rules}
use Rattle.judge.proofs.Behind.{standing_further, standing_here}
use Rattle.judge.proofs.reason.standing_behind.Goals as goal

pub returns-then-eq : goal.returns-then-eq
returns-then-eq c =
    c.standing_after.ensures ∙ sym (standing_here c.args.thread c.lines.rest.now c.in-Some.before.now c.in-Some.line.now c.in-Some.ensures.cases.0 c.in-Some.ensures.cases.1 (search rules)) ∙ c.lines.invariant

pub lines-preserved : goal.lines-preserved
lines-preserved c =
    sym (standing_further c.args.thread c.lines.rest.now c.in-Some.before.now c.in-Some.line.now c.in-Some.ensures.cases.0 (search rules)) ∙ c.lines.invariant
