use Rattle.std.proofs.Common.{◌≡◌, take}
use Rattle.std.specs.List.{flat_map}
use Rattle.report.specs.Threads.{calls_at}
use Rattle.report.proofs.threads.calls_of.Given as goal

abbrev pub invariant-loop-job : goal.invariant-loop-job
invariant-loop-job l = l.calls.items ≡ flat_map (calls_at l.thread) (take l.job-index l.phase.jobs.items)
