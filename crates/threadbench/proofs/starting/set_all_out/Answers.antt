use Rattle.std.proofs.Common.{suc, All, sym, subst, arith}
use Rattle.std.proofs.lemmas.List.Elements.{All-push}
use Rattle.std.specs.Vec.Iter.{into_iter_items}
use Rattle.threadbench.specs.Hands.{IsHandIn, MayBegin}
use Rattle.threadbench.specs.Jobs.{IsJobOf}
use Rattle.threadbench.proofs.Hands.{jobs_more}
use Rattle.threadbench.proofs.starting.set_all_out.Goals as goal

pub loop-job-preserved : goal.loop-job-preserved
loop-job-preserved g c =
    let i = c.loop-job.invariant in
    let first = c.in-Some.ensures.steps in
    let hand = c.set_out-hand.result.0 in
    let more = c.push_in_room.ensures.items in
    let len = c.push_in_room.ensures.len in
    let room = c.push_in_room.ensures.room in
    let fits = i.room in
    let others = subst (All (IsJobOf c.args.phase.now.bench.now)) first.0 i.others in
    record {
      can_next = tt;
      finite = tt;
      jobs = jobs_more c.loop-job.hands.items c.push_in_room.new.list.items hand c.in-Some.job (into_iter_items c.loop-job.job-iterator) (into_iter_items c.next.new.self) _ more c.set_out-hand.ensures.job first.0 i.jobs;
      others = λ k d lt. others (suc k) d (omega (arith, lt));
      hands = subst (All (IsHandIn c.args.phase.now)) (sym more) (All-push (IsHandIn c.args.phase.now) c.loop-job.hands.items hand i.hands c.set_out-hand.ensures.hand);
      stop = c.set_out-hand.ensures.stop;
      begins = λ none. subst (All MayBegin) (sym more) (All-push MayBegin c.loop-job.hands.items hand (i.begins (c.set_out-hand.ensures.begins none).1) (c.set_out-hand.ensures.begins none).0);
      room = omega (arith, len, room, fits, first.1);
    }
