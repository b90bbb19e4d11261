use Rattle.std.proofs.Common.{◌≡◌, ◌≤◌, ◌+◌, ◌++◌, None, All, length, map, vec_len, vec_capacity}
use Rattle.std.specs.Vec.Iter.{into_iter_items}
use Rattle.threadbench.specs.Hands.{IsHandIn, MayBegin, IsStop, job_of}
use Rattle.threadbench.specs.Jobs.{IsJobOf}
use Rattle.threadbench.proofs.starting.set_all_out.Given as goal

-- each job so far has its hand, and there is room for the others'
abbrev pub invariant-loop-job : goal.invariant-loop-job
invariant-loop-job g l = record {
  can_next : (goal.iterator-loop-job g).can_next l.job-iterator;
  finite : (goal.iterator-loop-job g).is_finite l.job-iterator;
  jobs : map job_of l.hands.items ++ into_iter_items l.job-iterator ≡ l.fn.jobs.items;
  others : All (IsJobOf l.phase.bench.now) (into_iter_items l.job-iterator);
  hands : All (IsHandIn l.phase) l.hands.items;
  stop : IsStop l.phase.begins.now.id l.stop;
  begins : l.stop ≡ None → All MayBegin l.hands.items;
  room : vec_len l.hands + length (into_iter_items l.job-iterator) ≤ vec_capacity l.hands;
}
