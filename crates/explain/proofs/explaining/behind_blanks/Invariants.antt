use Rattle.std.proofs.Common.{◌≡◌, length}
use Rattle.explain.specs.Explains.{behind_blanks}
use Rattle.explain.proofs.explaining.behind_blanks.Given as goal

abbrev pub invariant-blanks : goal.invariant-blanks
invariant-blanks l = behind_blanks l.rest ≡ behind_blanks l.fn.bytes

abbrev pub decreases-blanks : goal.decreases-blanks
decreases-blanks l = length l.rest
