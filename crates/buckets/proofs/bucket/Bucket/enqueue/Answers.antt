use Rattle.std.proofs.Common.{◌≡◌, ◌∙◌, ◌==◌, ◌+◌, ℕ, List, Option, Some, sym, ap, subst, arith}
use Rattle.std.specs.Prelude.{position}
use Rattle.std.proofs.Math.ListN.{set}
use Rattle.buckets.specs.declared.row.Row.{Row}
use Rattle.buckets.specs.declared.ring.Ring.{Ring}
use Rattle.buckets.specs.Queues.{Sleepers, Enqueues}
use Rattle.buckets.specs.Rings.{row, row_of, put, behind, sleeping_of, AreRings}
use Rattle.buckets.proofs.Changes.{bucket}
use Rattle.buckets.proofs.Rows.{ext}
use Rattle.buckets.proofs.Rings.{none_found}
use Rattle.buckets.proofs.Kept.{longer, orderly_rings, room_for_one, new_thread, joins_at, begins_ring, short_at, few_rings}
use Rattle.buckets.proofs.bucket.Bucket.enqueue.Goals as goal
use Rattle.buckets.proofs.bucket.Bucket.enqueue.Goals.{After-append, After-push_reserved}

place : (c : After-append) → position (λ r. r.first.key.0 == c.args.key.0) c.self.inside.rings.items ≡ Some c.in-Some.place
place c = ap (λ (rs : List Ring). position (λ r. r.first.key.0 == c.args.key.0) rs) (sym c.deref.ensures.value) ∙ sym c.in-Some.ensures

-- what is known of the fields where the key has sleepers
joined : (c : After-append)
    → AreRings c.self.inside.capacity (c.self.inside.standing + 1) (row_of c.append.new.rows) (set c.self.inside.rings.items c.in-Some.place (longer c.index.result.now))
    × Enqueues (bucket c.self.inside.capacity (sleeping_of (row_of c.self.inside.rows) c.self.inside.rings.items)) (bucket c.self.inside.capacity (sleeping_of (row_of c.append.new.rows) (set c.self.inside.rings.items c.in-Some.place (longer c.index.result.now)))) c.args.thread c.args.key.0
joined c =
    let b = c.self.inside in
    let t = c.args.thread in
    let f = c.index.result.now.first.thread in
    let rows' = ext (row_of c.append.new.rows) (behind (row_of c.write.new.rows f) (row_of c.write.new.rows) t f) c.append.ensures ∙ ap (λ (y : ℕ → Option Row). behind (y f) y t f) (ext (row_of c.write.new.rows) (put (row_of b.rows) c.args.thread (Some (row c.args.key.0 c.args.thread c.args.thread))) c.write.ensures) in
    joins_at b.capacity b.standing (row_of b.rows) (row_of c.append.new.rows) b.rings.items c.in-Some.place t c.args.key.0 c.index.result.now c.self.invariant.0 (room_for_one b.capacity b.standing (row_of b.rows) b.rings.items c.args.self.now c.self.invariant.0 c.self.view_is c.requires.room) (new_thread b.capacity b.standing (row_of b.rows) b.rings.items c.args.thread c.args.self.now c.self.invariant.0 c.self.view_is c.requires.awake) (place c) c.index.ensures rows'

-- and where it has none
begun : (c : After-push_reserved)
    → AreRings c.self.inside.capacity (c.self.inside.standing + 1) (row_of c.write.new.rows) c.push_reserved.new.self.items
    × Enqueues (bucket c.self.inside.capacity (sleeping_of (row_of c.self.inside.rows) c.self.inside.rings.items)) (bucket c.self.inside.capacity (sleeping_of (row_of c.write.new.rows) c.push_reserved.new.self.items)) c.args.thread c.args.key.0
begun c =
    let b = c.self.inside in
    let none = none_found c.args.key.0 b.rings.items (ap (λ (rs : List Ring). position (λ r. r.first.key.0 == c.args.key.0) rs) (sym c.deref.ensures.value) ∙ sym c.in-None.ensures) in
    begins_ring b.capacity b.standing (row_of b.rows) (row_of c.write.new.rows) b.rings.items c.push_reserved.new.self.items c.args.thread c.args.key.0 c.self.invariant.0 (room_for_one b.capacity b.standing (row_of b.rows) b.rings.items c.args.self.now c.self.invariant.0 c.self.view_is c.requires.room) (new_thread b.capacity b.standing (row_of b.rows) b.rings.items c.args.thread c.args.self.now c.self.invariant.0 c.self.view_is c.requires.awake) none (ext (row_of c.write.new.rows) (put (row_of b.rows) c.args.thread (Some (row c.args.key.0 c.args.thread c.args.thread))) c.write.ensures) c.push_reserved.ensures.items

pub overflow_add-count : goal.overflow_add-count
overflow_add-count c =
    let b = c.self.inside in
    let few = short_at b.capacity b.standing (row_of b.rows) b.rings.items c.in-Some.place c.args.key.0 c.index.result.now c.self.invariant.0 (place c) c.index.ensures in
    let enough = c.self.invariant.0.enough in
    let last = c.self.invariant.0.last in
    omega arith

pub invariant_of-self : goal.invariant_of-self
invariant_of-self c = ((joined (goal.at.invariant_of-self c).After-append).0, c.self.invariant.1)

pub push_reserved-requires : goal.push_reserved-requires
push_reserved-requires c =
    let b = c.self.inside in
    let few = few_rings b.capacity b.standing (row_of b.rows) b.rings.items c.self.invariant.0 in
    let lt = room_for_one b.capacity b.standing (row_of b.rows) b.rings.items c.args.self.now c.self.invariant.0 c.self.view_is c.requires.room in
    let cap = c.self.invariant.1 in
    let len = b.rings.ok.0 in
    omega arith

pub invariant_of-self-in-None : goal.invariant_of-self-in-None
invariant_of-self-in-None c = ((begun (goal.at.invariant_of-self-in-None c).After-push_reserved).0, let cap = c.self.invariant.1 in let same = c.push_reserved.ensures.capacity in omega arith)

pub returns-in-Some-clause-changes : goal.returns-in-Some-clause-changes
returns-in-Some-clause-changes c =
    subst (λ (s : Sleepers). Enqueues s (bucket c.self.inside.capacity (sleeping_of (row_of c.append.new.rows) (set c.self.inside.rings.items c.in-Some.place (longer c.index.result.now)))) c.args.thread c.args.key.0) c.self.view_is
    (joined (goal.at.returns-in-Some-clause-changes c).After-append).1

pub returns-in-Some-clause-orderly : goal.returns-in-Some-clause-orderly
returns-in-Some-clause-orderly c = orderly_rings _ _ _ _ (joined (goal.at.returns-in-Some-clause-orderly c).After-append).0

pub returns-in-None-clause-changes : goal.returns-in-None-clause-changes
returns-in-None-clause-changes c =
    subst (λ (s : Sleepers). Enqueues s (bucket c.self.inside.capacity (sleeping_of (row_of c.write.new.rows) c.push_reserved.new.self.items)) c.args.thread c.args.key.0) c.self.view_is
    (begun (goal.at.returns-in-None-clause-changes c).After-push_reserved).1

pub returns-in-None-clause-orderly : goal.returns-in-None-clause-orderly
returns-in-None-clause-orderly c = orderly_rings _ _ _ _ (begun (goal.at.returns-in-None-clause-orderly c).After-push_reserved).0
