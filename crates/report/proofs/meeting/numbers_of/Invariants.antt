use Rattle.std.proofs.Common.{◌≡◌, map, take}
use Rattle.report.proofs.meeting.numbers_of.Given as goal

abbrev pub invariant-loop-worker : goal.invariant-loop-worker
invariant-loop-worker l = l.dies.items ≡ map (λ v. v.die) (take l.worker-index l.workers)
