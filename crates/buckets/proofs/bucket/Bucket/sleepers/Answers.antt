use Rattle.std.proofs.Common.{◌≡◌, ◌∙◌, ◌==◌, List, Some, None, sym, ap, arith}
use Rattle.std.specs.Prelude.{position}
use Rattle.buckets.specs.declared.ring.Ring.{Ring}
use Rattle.buckets.specs.Rings.{row_of}
use Rattle.buckets.proofs.Kept.{queue_here, queue_nowhere, short_at}
use Rattle.buckets.proofs.bucket.Bucket.sleepers.Goals as goal

pub batch_from-requires : goal.batch_from-requires
batch_from-requires c =
    let b = c.self.inside in
    let at : position (λ r. r.first.key.0 == c.args.key.0) b.rings.items ≡ Some c.in-Some.place =
    ap (λ (rs : List Ring). position (λ r. r.first.key.0 == c.args.key.0) rs) (sym c.deref.ensures.value) ∙ sym c.in-Some.ensures in
    let few = short_at b.capacity b.standing (row_of b.rows) b.rings.items c.in-Some.place c.args.key.0 c.index-ring.result.now c.self.invariant.0 at c.index-ring.ensures in
    let enough = c.self.invariant.0.enough in
    let last = c.self.invariant.0.last in
    omega arith

pub returns-in-Some : goal.returns-in-Some
returns-in-Some c =
    let b = c.self.inside in
    let at : position (λ r. r.first.key.0 == c.args.key.0) b.rings.items ≡ Some c.in-Some.place =
    ap (λ (rs : List Ring). position (λ r. r.first.key.0 == c.args.key.0) rs) (sym c.deref.ensures.value) ∙ sym c.in-Some.ensures in
    c.batch_from.ensures
    ∙ sym (queue_here b.capacity b.standing (row_of b.rows) b.rings.items c.in-Some.place c.args.key.0 c.index-ring.result.now c.args.self.now c.self.invariant.0 c.self.view_is at c.index-ring.ensures)

pub returns-in-None : goal.returns-in-None
returns-in-None c =
    let b = c.self.inside in
    let none : position (λ r. r.first.key.0 == c.args.key.0) b.rings.items ≡ None =
    ap (λ (rs : List Ring). position (λ r. r.first.key.0 == c.args.key.0) rs) (sym c.deref.ensures.value) ∙ sym c.in-None.ensures in
    c.new.ensures ∙ sym (queue_nowhere b.capacity (row_of b.rows) b.rings.items c.args.key.0 c.args.self.now c.self.view_is none)
