use Rattle.std.proofs.Common.{sym, ◌∙◌}
use Rattle.judge.proofs.Behind.{reply_further, reply_here}
use Rattle.judge.proofs.evidence.reply_behind.Goals as goal

pub returns-then-is_some : goal.returns-then-is_some
returns-then-is_some c =
    sym (reply_here c.args.change c.args.mutex c.lines.rest.now c.in-Some.before.now c.in-Some.line.now c.reply_at-found.result c.in-Some.ensures.cases.0 c.in-Some.ensures.cases.1 c.reply_at-found.ensures (sym c.is_some.ensures ∙ c.if-is_some.true)) ∙ c.lines.invariant

pub lines-preserved : goal.lines-preserved
lines-preserved c =
    sym (reply_further c.args.change c.args.mutex c.lines.rest.now c.in-Some.before.now c.in-Some.line.now c.reply_at-found.result c.in-Some.ensures.cases.0 c.in-Some.ensures.cases.1 c.reply_at-found.ensures (sym c.is_some.ensures ∙ c.if-is_some.false)) ∙ c.lines.invariant
