use Rattle.explore_report.proofs.Loops.{one_may_die}
use Rattle.std.proofs.Common.{◌∙◌, rules}
use Rattle.explore_report.proofs.planning.may_die.Goals as goal

pub returns-else-is_empty : goal.returns-else-is_empty
returns-else-is_empty c = c.is_among.ensures ∙ one_may_die c.args.named.now c.args.name.now (search rules)
