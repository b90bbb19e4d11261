use Rattle.std.proofs.Common.{◌≡◌, length, reverse}
use Rattle.certificates.specs.Certificates.{entries}
use Rattle.judge.specs.Reasons.{standing_behind}
use Rattle.judge.proofs.reason.standing_behind.Given as goal

abbrev pub invariant-lines : goal.invariant-lines
invariant-lines l = standing_behind l.thread (reverse (entries l.rest)) ≡ standing_behind l.thread (reverse (entries l.fn.lines))

abbrev pub decreases-lines : goal.decreases-lines
decreases-lines l = length l.rest
