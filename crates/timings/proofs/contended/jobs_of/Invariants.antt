use Rattle.std.proofs.Common.{All}
use Rattle.std.specs.Vec.Iter.{into_iter_items}
use Rattle.ruledwords.specs.Passes.{IsLive}
use Rattle.threadbench.specs.Jobs.{IsJobOf}
use Rattle.timings.proofs.contended.jobs_of.Given as goal

-- the passes left are the bench's, and so are the jobs so far
abbrev pub invariant-loop-pass : goal.invariant-loop-pass
invariant-loop-pass l =
    (goal.iterator-loop-pass).can_next l.pass-iterator ×
    (goal.iterator-loop-pass).is_finite l.pass-iterator ×
    All (λ p. IsLive l.bench p) (into_iter_items l.pass-iterator) ×
    All (IsJobOf l.bench) l.jobs.items
