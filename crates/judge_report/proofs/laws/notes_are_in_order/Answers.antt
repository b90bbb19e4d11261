use Rattle.judge_report.proofs.Notes.{notes_so}
use Rattle.judge_report.proofs.laws.notes_are_in_order.Goals as goal

pub returns : goal.returns
returns c = notes_so
