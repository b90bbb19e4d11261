use Rattle.std.proofs.Common.{◌≡◌, ◌++◌, All, map}
use Rattle.std.specs.Vec.Iter.{into_iter_items}
use Rattle.ruledwords.specs.Passes.{card, IsPassOf}
use Rattle.threadbench.specs.Answered.{card_in, IsWorkerOf}
use Rattle.report.proofs.threads.spent.Given as goal

-- each thread so far gave its pass
abbrev pub invariant-loop-worker : goal.invariant-loop-worker
invariant-loop-worker l = record {
  can_next : (goal.iterator-loop-worker).can_next l.worker-iterator;
  finite : (goal.iterator-loop-worker).is_finite l.worker-iterator;
  passes : All (λ p. IsPassOf l._bench p) l.passes.items;
  cards : map (λ p. card p) l.passes.items ++ map (λ v. card_in v.pass) (into_iter_items l.worker-iterator) ≡ map (λ v. card_in v.pass) l.fn.workers.items;
  others : All (λ v. IsWorkerOf l._bench v.pass) (into_iter_items l.worker-iterator);
}
