use Rattle.judge_report.proofs.Turning.{turn_words_so}
use Rattle.judge_report.proofs.laws.turn_words_are_so.Goals as goal

pub returns : goal.returns
returns c = turn_words_so
