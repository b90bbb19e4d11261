use Rattle.std.proofs.Common.{sym, ◌∙◌}
use Rattle.judge_report.proofs.telling.write_legal.Goals as goal

pub returns-else-has_calls : goal.returns-else-has_calls
returns-else-has_calls g c = rw (sym c.has_calls.ensures ∙ c.if-has_calls.false) c.put_pieces-else-has_calls.ensures
