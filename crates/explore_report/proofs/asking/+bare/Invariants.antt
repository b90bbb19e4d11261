use Rattle.std.proofs.Common.{length}
use Rattle.explore_report.proofs.asking.+bare.Given as goal

abbrev pub decreases-bare : goal.decreases-bare
decreases-bare l = length l.name.now
