use Rattle.std.proofs.Common.{suc, All, sym, subst, arith}
use Rattle.std.proofs.lemmas.List.Elements.{All-push}
use Rattle.std.specs.Vec.Iter.{into_iter_items}
use Rattle.ruledwords.specs.Passes.{IsPassOf}
use Rattle.threadbench.specs.Answered.{IsWorkerOf}
use Rattle.report.proofs.Phases.{cards_more}
use Rattle.report.proofs.threads.spent.Goals as goal

pub loop-worker-preserved : goal.loop-worker-preserved
loop-worker-preserved c =
    let i = c.loop-worker.invariant in
    let first = c.in-Some.ensures.steps in
    let more = c.in_ok-push.ensures.items in
    let others = subst (All (λ v. IsWorkerOf c.args._bench.now v.pass)) first.0 i.others in
    let of = c.spent.ensures.words c.args._bench.now (others 0 c.in-Some.worker (omega arith)) in record {
      can_next = tt;
      finite = tt;
      passes = subst (All (λ p. IsPassOf c.args._bench.now p)) (sym more) (All-push (λ p. IsPassOf c.args._bench.now p) c.loop-worker.passes.items c.spent.result i.passes of);
      cards = cards_more c.loop-worker.passes.items c.push.new.self.items c.spent.result c.in-Some.worker (into_iter_items c.loop-worker.worker-iterator) (into_iter_items c.next.new.self) _ more c.spent.ensures.card first.0 i.cards;
      others = λ k d lt. others (suc k) d (omega (arith, lt));
    }
