use Rattle.std.proofs.Common.{map}
use Rattle.script.specs.Jobs.{job_seen, lists_seen}
use Rattle.script.proofs.Phases.{IsSoFar}
use Rattle.script.proofs.gathering.jobs_with.Given as goal

abbrev pub invariant-loop-calls : goal.invariant-loop-calls
invariant-loop-calls l = IsSoFar (lists_seen l.fn.calls.items) (lists_seen l.calls-iterator.rest.items) (map job_seen l.jobs.items) l.id
