use Rattle.std.specs.Vec.Iter.{into_iter_items}
use Rattle.report.specs.Meetings.{as_either}
use Rattle.report.proofs.AllMeet.{one_more}
use Rattle.report.proofs.meeting.passes_of.Goals as goal

pub loop-worker-preserved : goal.loop-worker-preserved
loop-worker-preserved c =
    let i = c.loop-worker.invariant in
    let first = c.in-Some.ensures.steps in record {
      can_next = tt;
      finite = tt;
      passes = one_more (λ v. as_either v.pass) c.loop-worker.passes.items c.push.new.self.items c.either_of.result c.in-Some.worker (into_iter_items c.loop-worker.worker-iterator) (into_iter_items c.next.new.self) _ c.in_ok-push.ensures.items c.either_of.ensures first.0 i.passes;
    }
