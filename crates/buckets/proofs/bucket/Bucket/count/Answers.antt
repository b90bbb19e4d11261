use Rattle.std.proofs.Common.{◌≡◌, ◌∙◌, ◌==◌, List, Some, None, length, sym, ap}
use Rattle.std.specs.Prelude.{position}
use Rattle.buckets.specs.declared.ring.Ring.{Ring}
use Rattle.buckets.specs.Rings.{row_of}
use Rattle.buckets.proofs.Rows.{length_follow}
use Rattle.buckets.proofs.Kept.{queue_here, queue_nowhere}
use Rattle.buckets.proofs.bucket.Bucket.count.Goals as goal

pub returns-in-Some : goal.returns-in-Some
returns-in-Some c =
    let b = c.self.inside in
    let w = row_of b.rows in
    let x = c.index.result.now in
    let at : position (λ r. r.first.key.0 == c.args.key.0) b.rings.items ≡ Some c.in-Some.place =
    ap (λ (rs : List Ring). position (λ r. r.first.key.0 == c.args.key.0) rs) (sym c.deref.ensures.value) ∙ sym c.in-Some.ensures in
    sym (ap length (queue_here b.capacity b.standing w b.rings.items c.in-Some.place c.args.key.0 x c.args.self.now c.self.invariant.0 c.self.view_is at c.index.ensures) ∙ length_follow w x.count x.first.thread)

pub returns-in-None : goal.returns-in-None
returns-in-None c =
    let b = c.self.inside in
    let none : position (λ r. r.first.key.0 == c.args.key.0) b.rings.items ≡ None =
    ap (λ (rs : List Ring). position (λ r. r.first.key.0 == c.args.key.0) rs) (sym c.deref.ensures.value) ∙ sym c.in-None.ensures in
    sym (ap length (queue_nowhere b.capacity (row_of b.rows) b.rings.items c.args.key.0 c.args.self.now c.self.view_is none))
