use Rattle.std.proofs.Common.{length}
use Rattle.draw_report.proofs.asking.+form_behind.Given as goal

abbrev pub decreases-form_behind : goal.decreases-form_behind
decreases-form_behind l = length l.words.now
