use Rattle.std.proofs.Common.{◌≡◌, ◌++◌, map}
use Rattle.std.specs.Vec.Iter.{into_iter_items}
use Rattle.report.specs.Meetings.{as_either}
use Rattle.report.proofs.meeting.passes_of.Given as goal

-- each thread so far gave its pass
abbrev pub invariant-loop-worker : goal.invariant-loop-worker
invariant-loop-worker l = record {
  can_next : (goal.iterator-loop-worker).can_next l.worker-iterator;
  finite : (goal.iterator-loop-worker).is_finite l.worker-iterator;
  passes : l.passes.items ++ map (λ v. as_either v.pass) (into_iter_items l.worker-iterator) ≡ map (λ v. as_either v.pass) l.fn.workers.items;
}
