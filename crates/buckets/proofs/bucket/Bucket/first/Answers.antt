use Rattle.std.proofs.Common.{◌≡◌, ◌∙◌, ◌==◌, ℕ, List, Some, None, sym, ap, subst}
use Rattle.std.specs.Prelude.{position, slice_get}
use Rattle.buckets.specs.declared.ring.Ring.{Ring}
use Rattle.buckets.specs.Queues.{queue, IsOrderly}
use Rattle.buckets.specs.Rings.{row_of}
use Rattle.buckets.proofs.Kept.{orderly_rings, queue_here, queue_nowhere, some_at, first_here}
use Rattle.buckets.proofs.bucket.Bucket.first.Goals as goal

pub returns-in_err-place-clause-value : goal.returns-in_err-place-clause-value
returns-in_err-place-clause-value c =
    let b = c.self.inside in
    let none : position (λ r. r.first.key.0 == c.args.key.0) b.rings.items ≡ None =
    ap (λ (rs : List Ring). position (λ r. r.first.key.0 == c.args.key.0) rs) (sym c.deref.ensures.value) ∙ sym c.ring_on.ensures ∙ c.in_err-place.was in
    c.from_residual.ensures ∙ sym (ap (λ (q : List ℕ). slice_get q 0) (queue_nowhere b.capacity (row_of b.rows) b.rings.items c.args.key.0 c.args.self.now c.self.view_is none))

pub returns-clause-value : goal.returns-clause-value
returns-clause-value c =
    let b = c.self.inside in
    let w = row_of b.rows in
    let x = c.index.result.now in
    let at : position (λ r. r.first.key.0 == c.args.key.0) b.rings.items ≡ Some c.in_ok-place.place =
    ap (λ (rs : List Ring). position (λ r. r.first.key.0 == c.args.key.0) rs) (sym c.deref.ensures.value) ∙ sym c.ring_on.ensures ∙ c.in_ok-place.was in
    first_here w x (queue c.args.self.now c.args.key.0) (some_at b.capacity b.standing w b.rings.items c.in_ok-place.place c.args.key.0 x c.self.invariant.0 at c.index.ensures)
    (queue_here b.capacity b.standing w b.rings.items c.in_ok-place.place c.args.key.0 x c.args.self.now c.self.invariant.0 c.self.view_is at c.index.ensures)

pub returns-in_err-place-clause-orderly : goal.returns-in_err-place-clause-orderly
returns-in_err-place-clause-orderly c = subst IsOrderly c.self.view_is (orderly_rings _ _ _ _ c.self.invariant.0)

pub returns-clause-orderly : goal.returns-clause-orderly
returns-clause-orderly c = subst IsOrderly c.self.view_is (orderly_rings _ _ _ _ c.self.invariant.0)
