use Rattle.std.proofs.Common.{rules, suc, ◌∷◌, [], ◌++◌, ◌∙◌, All, ap, sym, subst, append_assoc, arith}
use Rattle.std.specs.Vec.Iter.{into_iter_items}
use Rattle.threadbench.specs.Hands.{IsHandIn, MayBegin, job_of}
use Rattle.threadbench.specs.Jobs.{IsJobOf, AreDone}
use Rattle.threadbench.proofs.Hands.{records_more}
use Rattle.threadbench.proofs.ending.records_of.Goals as goal

pub loop-hand-init : goal.loop-hand-init
loop-hand-init g c = (
  tt,
  tt,
  ([], search rules, subst (AreDone c.args.phase.now.bench.now (g.G.Gate.says c.args.phase.now.gate.now) []) (sym c.requires.empty) tt),
  search rules,
  search rules,
  search rules,
  search rules,
)

pub loop-hand-preserved : goal.loop-hand-preserved
loop-hand-preserved g c =
    let so_far = c.loop-hand.invariant in
    let done = so_far.2.0 in
    let hand = c.in-Some.hand in
    let first = c.in-Some.ensures.steps in
    let len = c.push_in_room.ensures.len in
    let room = c.push_in_room.ensures.room in
    let fits = so_far.6 in
    let jobs = subst (All (λ h. IsJobOf c.args.phase.now.bench.now (job_of h))) first.0 so_far.3 in
    let hands = subst (All (IsHandIn c.args.phase.now)) first.0 so_far.4 in
    let begins = subst (All MayBegin) first.0 so_far.5 in (
      tt,
      tt,
      (
        done ++ hand ∷ [],
        append_assoc done (hand ∷ []) (into_iter_items c.next.new.self) ∙ ap (λ rest. done ++ rest) (sym first.0) ∙ so_far.2.1,
        records_more c.args.phase.now.bench.now (g.G.Gate.says c.args.phase.now.gate.now) done hand c.loop-hand.records.items c.push_in_room.new.list.items c.done.result so_far.2.2 c.done.ensures c.push_in_room.ensures.items,
      ),
      λ k d lt. jobs (suc k) d (omega (arith, lt)),
      λ k d lt. hands (suc k) d (omega (arith, lt)),
      λ k d lt. begins (suc k) d (omega (arith, lt)),
      omega (arith, len, room, fits, first.1),
    )
