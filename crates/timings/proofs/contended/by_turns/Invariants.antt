use Rattle.std.proofs.Common.{All}
use Rattle.std.specs.Vec.Iter.{into_iter_items}
use Rattle.threadbench.specs.Jobs.{IsJobOf}
use Rattle.timings.proofs.contended.by_turns.Given as goal

-- the jobs left are the bench's
abbrev pub invariant-loop-job : goal.invariant-loop-job
invariant-loop-job g l =
    (goal.iterator-loop-job g).can_next l.job-iterator ×
    (goal.iterator-loop-job g).is_finite l.job-iterator ×
    All (IsJobOf l.bench) (into_iter_items l.job-iterator)
