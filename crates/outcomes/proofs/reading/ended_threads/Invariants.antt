use Rattle.std.proofs.Common.{◌≡◌, map}
use Rattle.std.specs.List.{range_with_len}
use Rattle.outcomes.specs.Outcomes.{ended, ended_in}
use Rattle.outcomes.specs.Kept.{position_in}
use Rattle.outcomes.proofs.reading.ended_threads.Given as goal

abbrev pub invariant-loop-before : goal.invariant-loop-before
invariant-loop-before l = map ended_in l.threads.items ≡ map (ended l.plan (position_in l.plan.layout l.kept)) (range_with_len 1 l.before)
