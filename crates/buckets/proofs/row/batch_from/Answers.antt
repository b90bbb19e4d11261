use Rattle.std.proofs.Common.{◌≡◌, ◌∙◌, ◌-◌, ◌+◌, ◌++◌, ◌∷◌, [], sym, ap, length, arith, length-append, ℕ, List, Option}
use Rattle.buckets.specs.declared.row.Row.{Row}
use Rattle.buckets.specs.Rings.{row_of, follow, next_or}
use Rattle.buckets.proofs.Rows.{one_follows, all_followed, none_followed}
use Rattle.buckets.proofs.row.batch_from.Goals as goal
use Rattle.buckets.proofs.row.batch_from.Goals.{in-Some, in_default}

pub loop-init : goal.loop-init
loop-init c = record {
  so_far = none_followed (row_of c.args.rows.now) c.new-batch.result c.args.count c.args.first c.new-batch.ensures;
  many = ap length c.new-batch.ensures;
}

pub push-requires : goal.push-requires
push-requires c = let many = c.loop.invariant.many in omega (arith, c.requires, c.loop-test.true)

pub loop-preserved : goal.loop-preserved
loop-preserved c =
    let w = row_of c.args.rows.now in
    let next : c.match-read.thread ≡ next_or (w c.loop.thread) c.loop.thread = elim c.match-read.branch [
      | in-Some b ↦ b.thread-is ∙ ap (λ (o : Option Row). next_or o c.loop.thread) (sym b.in-Some.is ∙ c.read.ensures)
      | in_default b ↦ b.thread-is ∙ ap (λ (o : Option Row). next_or o c.loop.thread) (sym b.in_default.is ∙ c.read.ensures)
    ] in
    let more = one_follows w c.loop.batch c.args.count c.loop.counter c.loop.thread (follow w c.args.count c.args.first) c.loop-test.true c.loop.invariant.so_far in
    record {
      so_far = ap (λ (t : ℕ). c.push.new.self ++ follow w (c.args.count - (c.loop.counter + 1)) t) next
          ∙ ap (λ (ids : List ℕ). ids ++ follow w (c.args.count - (c.loop.counter + 1)) (next_or (w c.loop.thread) c.loop.thread)) c.push.ensures ∙ more;
      many = ap length c.push.ensures ∙ length-append c.loop.batch (c.loop.thread ∷ []) ∙ ap (λ (n : ℕ). n + 1) c.loop.invariant.many;
    }

pub returns : goal.returns
returns c = let w = row_of c.args.rows.now in all_followed w c.loop.batch c.args.count c.loop.counter c.loop.thread (follow w c.args.count c.args.first) c.loop-test.false c.loop.invariant.so_far
