use Rattle.std.proofs.Common.{◌≡◌, ◌++◌, List}
use Rattle.std.specs.Vec.Iter.{into_iter_items}
use Rattle.report.specs.declared.threads.Worker.{Worker}
use Rattle.report.specs.Threads.{AreAssigned}
use Rattle.report.proofs.threads.assign.Given as goal

-- each thread so far has its job
abbrev pub invariant-loop-worker : goal.invariant-loop-worker
invariant-loop-worker l =
    (goal.iterator-loop-worker).can_next l.worker-iterator ×
    (goal.iterator-loop-worker).is_finite l.worker-iterator ×
    ((done : List Worker) × (done ++ into_iter_items l.worker-iterator ≡ l.fn.workers.items) × AreAssigned l.phase done l.jobs.items)
