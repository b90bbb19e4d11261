use Rattle.std.proofs.Common.{suc, All, subst, arith}
use Rattle.std.specs.Vec.Iter.{into_iter_items}
use Rattle.threadbench.specs.Hands.{IsHandIn}
use Rattle.threadbench.proofs.Hands.{given_back}
use Rattle.threadbench.proofs.ending.jobs_in.Goals as goal

pub loop-hand-preserved : goal.loop-hand-preserved
loop-hand-preserved g c =
    let i = c.loop-hand.invariant in
    let first = c.in-Some.ensures.steps in
    let len = c.push_in_room.ensures.len in
    let room = c.push_in_room.ensures.room in
    let fits = i.room in
    let hands = subst (All (IsHandIn c.args.phase.now)) first.0 i.hands in
    record {
      can_next = tt;
      finite = tt;
      jobs = given_back (into_iter_items c.loop-hand.hand-iterator) (into_iter_items c.next.new.self) c.in-Some.hand c.loop-hand.jobs.items c.push_in_room.new.list.items _ c.kept.result first.0 c.push_in_room.ensures.items c.kept.ensures i.jobs;
      hands = λ k d lt. hands (suc k) d (omega (arith, lt));
      room = omega (arith, len, room, fits, first.1);
    }
