use Rattle.std.proofs.Common.{◌≡◌, ◌++◌, length, map}
use Rattle.std.specs.List.{slice_split}
use Rattle.script.specs.Jobs.{ends_phase, jobs_up_to, jobs_seen}
use Rattle.script.proofs.gathering.phases_of.Given as goal

abbrev pub invariant-loop-first : goal.invariant-loop-first
invariant-loop-first l = map jobs_seen l.phases.items ++ map (jobs_up_to l.threads) (slice_split ends_phase l.rest) ≡ map (jobs_up_to l.threads) (slice_split ends_phase l.commands)

abbrev pub decreases-loop-first : goal.decreases-loop-first
decreases-loop-first l = length l.rest
