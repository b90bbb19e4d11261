use Rattle.std.proofs.lemmas.Option.{slice_get-get_or}
use Rattle.std.proofs.Common.{Vec, Global, ◌≡◌, List, ◌∷◌, [], ◌++◌, sym, ap, ◌∙◌, arith}
use Rattle.interleave.specs.declared.saved.Sleeper.{Sleeper}
use Rattle.interleave.specs.Saved.{sleepers_at}
use Rattle.interleave.proofs.Saving.{more_queue}
use Rattle.interleave.proofs.saved.add_queue.Goals as goal
use Rattle.interleave.proofs.saved.add_queue.Goals.{in-Some+in_ok-push, in_default}

pub loop-rank-preserved : goal.loop-rank-preserved
loop-rank-preserved c = elim c.match-get.branch [
  | in-Some+in_ok-push w ↦
      (λ p.
      let old = c.args.sleepers.now.items in
      let now = c.loop-rank.sleepers.items in
      let added : sleepers_at c.match-get.sleepers.items p ≡ sleepers_at (now ++ record { place = c.args.place; thread = w.in-Some.thread } ∷ []) p =
      ap (λ (v : Vec Sleeper Global). sleepers_at v.items p) w.sleepers-is ∙ ap (λ (ss : List Sleeper). sleepers_at ss p) w.in_ok-push.ensures.items in
      added ∙ more_queue old now c.args.place w.in-Some.thread c.loop-rank.rank c.args.queue.now p (let e = c.len-rank-end.ensures.value in let lt = c.loop-rank-test.true in omega arith) (sym c.get.ensures ∙ w.in-Some.is) (c.loop-rank.invariant p))
  | in_default w ↦
      (let there = slice_get-get_or c.args.queue.now c.loop-rank.rank 0 (let e = c.len-rank-end.ensures.value in let lt = c.loop-rank-test.true in omega arith) in
      let none = c.get.ensures in let is = w.in_default.is in absurd cc)
]
