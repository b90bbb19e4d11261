use Rattle.std.proofs.Common.{◌≡◌, ◌≤◌, ◌+◌, ◌++◌, All, length, map, vec_len, vec_capacity}
use Rattle.std.specs.Vec.Iter.{into_iter_items}
use Rattle.threadbench.specs.Hands.{IsHandIn, job_of}
use Rattle.threadbench.proofs.ending.jobs_in.Given as goal

-- each hand so far gave its job back, and there is room for the others'
abbrev pub invariant-loop-hand : goal.invariant-loop-hand
invariant-loop-hand g l = record {
  can_next : (goal.iterator-loop-hand g).can_next l.hand-iterator;
  finite : (goal.iterator-loop-hand g).is_finite l.hand-iterator;
  jobs : l.jobs.items ++ map job_of (into_iter_items l.hand-iterator) ≡ map job_of l.fn.hands.items;
  hands : All (IsHandIn l.phase) (into_iter_items l.hand-iterator);
  room : vec_len l.jobs + length (into_iter_items l.hand-iterator) ≤ vec_capacity l.jobs;
}
