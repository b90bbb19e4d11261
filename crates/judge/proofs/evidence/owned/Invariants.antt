use Rattle.std.proofs.Common.{◌≡◌, length, reverse}
use Rattle.certificates.specs.Certificates.{entries}
use Rattle.judge.specs.Evidence.{owned}
use Rattle.judge.proofs.evidence.owned.Given as goal

abbrev pub invariant-lines : goal.invariant-lines
invariant-lines l = owned l.mutex l.thread (reverse (entries l.rest)) ≡ owned l.mutex l.thread (reverse (entries l.fn.lines))

abbrev pub decreases-lines : goal.decreases-lines
decreases-lines l = length l.rest
