use Rattle.std.proofs.Common.{All}
use Rattle.std.specs.Vec.Iter.{into_iter_items}
use Rattle.ruledwords.specs.Passes.{IsLive}
use Rattle.threadbench.specs.Jobs.{IsJobOf}
use Rattle.thread_tests.proofs.crowds.jobs_in_pairs.Given as goal

abbrev pub invariant-loop-pass : goal.invariant-loop-pass
invariant-loop-pass l =
    (goal.iterator-loop-pass).can_next l.pass-iterator × (goal.iterator-loop-pass).is_finite l.pass-iterator × All (λ p. IsLive l.bench p) (into_iter_items l.pass-iterator) × All (λ j. IsJobOf l.bench j) l.jobs.items
