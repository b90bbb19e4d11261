use Rattle.std.proofs.Common.{◌≡◌, map, take}
use Rattle.report.specs.Meetings.{is_reaped}
use Rattle.report.proofs.threads.deaths.Given as goal

abbrev pub invariant-loop-worker : goal.invariant-loop-worker
invariant-loop-worker l = l.died.items ≡ map (λ v. is_reaped v.pass) (take l.worker-index l.workers)
