use Rattle.std.proofs.Common.{rules, ◌≡◌, ◌∷◌, [], ◌++◌, length, sym, subst, List}
use Rattle.std.proofs.lemmas.List.Elements.{All-push}
use Rattle.threadbench.specs.Buckets.{AreNumbered, HaveRoomFor}
use Rattle.threadbench.specs.declared.numbered.Numbered.{Numbered}
use Rattle.threadbench.proofs.Noting.{one_more_bucket}
use Rattle.threadbench.proofs.bench.buckets.Goals as goal

-- src/bench.rt:170:5
pub loop-number-preserved : goal.loop-number-preserved
loop-number-preserved c =
    let number : c.new-in-loop-number.result.number ≡ length c.loop-number.buckets.items = search rules in
    let longer : AreNumbered (c.loop-number.buckets.items ++ c.new-in-loop-number.result ∷ []) = one_more_bucket c.loop-number.buckets.items c.new-in-loop-number.result c.loop-number.invariant.2 number in
    let are : AreNumbered c.push_in_room.new.list.items = subst (λ (xs : List Numbered). AreNumbered xs) (sym c.push_in_room.ensures.items) longer in
    let room : HaveRoomFor c.args.threads c.push_in_room.new.list.items = subst (HaveRoomFor c.args.threads) (sym c.push_in_room.ensures.items) (All-push (λ (b : Numbered). b.threads ≡ c.args.threads) c.loop-number.buckets.items c.new-in-loop-number.result c.loop-number.invariant.3 c.new-in-loop-number.ensures.threads) in
    (search rules, search rules, are, room)
