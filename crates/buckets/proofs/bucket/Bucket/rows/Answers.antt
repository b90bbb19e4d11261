use Rattle.std.proofs.Common.{◌≡◌, ◌∙◌, List, Option, length, sym, ap, subst}
use Rattle.buckets.specs.declared.row.Row.{Row}
use Rattle.buckets.specs.Rings.{AreRows}
use Rattle.buckets.proofs.Kept.{are_rows}
use Rattle.buckets.proofs.bucket.Bucket.rows.Goals as goal
use Rattle.lockword.specs.Threads.{most_threads}

pub returns : goal.returns
returns c =
    let b = c.self.inside in
    let long : length b.rows ≡ most_threads = ap length (sym c.all.ensures.value) ∙ c.all.ensures.long in
    subst (λ (rows : List (Option Row)). AreRows rows c.args.self.now) (sym c.all.ensures.value) (are_rows b.capacity b.standing b.rows b.rings.items c.args.self.now c.self.invariant.0 long c.self.view_is)
