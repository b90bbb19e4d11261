use Rattle.std.proofs.Common.{◌≡◌, length, reverse}
use Rattle.certificates.specs.Certificates.{entries}
use Rattle.judge.specs.Evidence.{reply_behind}
use Rattle.judge.proofs.evidence.reply_behind.Given as goal

abbrev pub invariant-lines : goal.invariant-lines
invariant-lines l = reply_behind l.change l.mutex (reverse (entries l.rest)) ≡ reply_behind l.change l.mutex (reverse (entries l.fn.lines))

abbrev pub decreases-lines : goal.decreases-lines
decreases-lines l = length l.rest
