use Rattle.judge_report.proofs.waiting.write_never_left.Goals as goal

pub returns-else-unusable : goal.returns-else-unusable
returns-else-unusable g c = rw c.if-unusable.false c.put_pieces-else-unusable.ensures
