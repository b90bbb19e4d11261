use Rattle.std.proofs.Common.{◌≡◌, length, reverse}
use Rattle.certificates.specs.Certificates.{entries}
use Rattle.judge.specs.Evidence.{death_behind}
use Rattle.judge.proofs.evidence.death_behind.Given as goal

abbrev pub invariant-lines : goal.invariant-lines
invariant-lines l = death_behind l.mutex (reverse (entries l.rest)) ≡ death_behind l.mutex (reverse (entries l.fn.lines))

abbrev pub decreases-lines : goal.decreases-lines
decreases-lines l = length l.rest
