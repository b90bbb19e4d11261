use Rattle.std.proofs.Common.{arith, ◌≡◌, ◌∙◌, ◌==◌, ◌-◌, ℕ, true, false, List, Option, Some, None, sym, ap, subst}
use Rattle.std.specs.Prelude.{position}
use Rattle.buckets.specs.declared.row.Row.{Row}
use Rattle.buckets.specs.declared.ring.Ring.{Ring}
use Rattle.buckets.specs.Queues.{Sleepers, IsOrderly, Removes}
use Rattle.buckets.specs.Rings.{row_of, put, joined, sleeping_of, AreRings}
use Rattle.buckets.proofs.Changes.{bucket, removes_nobody}
use Rattle.buckets.proofs.Rows.{ext}
use Rattle.buckets.proofs.Kept.{orderly_rings, stands_nowhere, leaves_at, has_ring}
use Rattle.buckets.proofs.bucket.Bucket.remove.Goals as goal
use Rattle.buckets.proofs.bucket.Bucket.remove.Goals.{After-leave}

pub returns-in_default-clause-changes : goal.returns-in_default-clause-changes
returns-in_default-clause-changes c =
    let b = c.self.inside in
    let w = row_of b.rows in
    let none : w c.args.thread ≡ None = sym c.read.ensures ∙ c.in_default.is in
    subst (λ (s : Sleepers). Removes s s c.args.thread false) c.self.view_is
    (removes_nobody b.capacity c.args.thread (sleeping_of w b.rings.items) (stands_nowhere b.capacity b.standing w b.rings.items c.args.thread c.self.invariant.0 none))

pub returns-in_default-clause-orderly : goal.returns-in_default-clause-orderly
returns-in_default-clause-orderly c = subst IsOrderly c.self.view_is (orderly_rings _ _ _ _ c.self.invariant.0)

-- what is known of the fields afterwards
left : (c : After-leave)
    → AreRings c.self.inside.capacity (c.self.inside.standing - 1) (row_of c.write.new.rows) c.leave.new.rings.items
    × Removes (bucket c.self.inside.capacity (sleeping_of (row_of c.self.inside.rows) c.self.inside.rings.items)) (bucket c.self.inside.capacity (sleeping_of (row_of c.write.new.rows) c.leave.new.rings.items)) c.args.thread true
left c =
    let b = c.self.inside in
    let w = row_of b.rows in
    let x = c.in-Some.row in
    let at : position (λ r. r.first.key.0 == x.key.0) b.rings.items ≡ Some c.in-Some-ring_on.place =
    ap (λ (rs : List Ring). position (λ r. r.first.key.0 == x.key.0) rs) (sym c.deref.ensures.value) ∙ sym c.in-Some-ring_on.ensures in
    let rows : row_of c.write.new.rows ≡ put (joined w x.before x.after) c.args.thread None =
    ext (row_of c.write.new.rows) (put (row_of c.join.new.rows) c.args.thread None) c.write.ensures
    ∙ ap (λ (f : ℕ → Option Row). put f c.args.thread None) (ext (row_of c.join.new.rows) (joined w x.before x.after) c.join.ensures) in
    leaves_at b.capacity b.standing w (row_of c.write.new.rows) b.rings.items c.in-Some-ring_on.place c.args.thread x c.self.invariant.0 (sym c.in-Some.ensures) at rows c.leave.new.rings.items c.leave.ensures.left

pub invariant_of-self : goal.invariant_of-self
invariant_of-self c = ((left (goal.at.invariant_of-self c).After-leave).0, let room = c.leave.ensures.room in let before = c.self.invariant.1 in omega arith)

pub returns-in-Some-ring_on-clause-changes : goal.returns-in-Some-ring_on-clause-changes
returns-in-Some-ring_on-clause-changes c = subst (λ (s : Sleepers). Removes s (bucket c.self.inside.capacity (sleeping_of (row_of c.write.new.rows) c.leave.new.rings.items)) c.args.thread true) c.self.view_is (left (goal.at.returns-in-Some-ring_on-clause-changes c).After-leave).1

pub returns-in-Some-ring_on-clause-orderly : goal.returns-in-Some-ring_on-clause-orderly
returns-in-Some-ring_on-clause-orderly c = orderly_rings _ _ _ _ (left (goal.at.returns-in-Some-ring_on-clause-orderly c).After-leave).0

pub returns-in_default-ring_on-clause-changes : goal.returns-in_default-ring_on-clause-changes
returns-in_default-ring_on-clause-changes c =
    let b = c.self.inside in
    let x = c.in-Some.row in
    let none : position (λ r. r.first.key.0 == x.key.0) b.rings.items ≡ None =
    ap (λ (rs : List Ring). position (λ r. r.first.key.0 == x.key.0) rs) (sym c.deref.ensures.value) ∙ sym c.ring_on.ensures ∙ c.in_default-ring_on.is in
    absurd (has_ring b.capacity b.standing (row_of b.rows) b.rings.items c.args.thread x c.self.invariant.0 (sym c.in-Some.ensures) none)

pub returns-in_default-ring_on-clause-orderly : goal.returns-in_default-ring_on-clause-orderly
returns-in_default-ring_on-clause-orderly c = subst IsOrderly c.self.view_is (orderly_rings _ _ _ _ c.self.invariant.0)
