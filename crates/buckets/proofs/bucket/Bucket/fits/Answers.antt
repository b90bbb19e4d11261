use Rattle.std.proofs.Common.{◌≡◌, ◌∙◌, ◌+◌, ◌≤◌, List, ℕ, length, take, sym, ap, subst, arith, length-take}
use Rattle.std.specs.Prelude.{slice_get, min, All}
use Rattle.buckets.specs.Queues.{Sleepers, StandsNowhere, queue, standing}
use Rattle.buckets.specs.Rings.{row_of, sleeping_of}
use Rattle.buckets.proofs.Kept.{all_counted}
use Rattle.buckets.proofs.Moves.{somebody, unfit_asleep, more_nowhere, fitting}
use Rattle.buckets.proofs.bucket.Bucket.fits.Goals as goal
use Rattle.buckets.proofs.bucket.Bucket.fits.Goals.{in-Some+else-stands, in_default}

pub returns-then-stands : goal.returns-then-stands
returns-then-stands c =
    let long : c.len.result ≡ length (queue c.args.self.now c.args.key.0) = c.len.ensures.value ∙ ap length c.sleepers-queue.ensures in
    let there = ap (λ (q : List ℕ). slice_get q c.loop-place.place) (sym c.sleepers-queue.ensures) ∙ sym c.get.ensures ∙ c.in-Some.is in
    unfit_asleep c.args.self.now c.args.other.now c.args.key.0 c.args.n c.loop-place.place c.in-Some.thread (omega (arith, long, c.min-moved.ensures, c.loop-place-test.true)) there c.if-stands.ensures.value

pub loop-place-preserved : goal.loop-place-preserved
loop-place-preserved c = elim c.match-get.branch [
  | in-Some+else-stands w ↦ more_nowhere c.args.other.now c.sleepers-queue.result c.loop-place.place w.in-Some.thread (sym c.get.ensures ∙ w.in-Some.is) c.loop-place.invariant w.if-stands.ensures.value
  | in_default w ↦ absurd (somebody c.sleepers-queue.result c.loop-place.place c.get.result c.get.ensures (omega (arith, c.len.ensures.value, c.min-moved.ensures, c.loop-place-test.true)) w.in_default.is)
]

pub returns : goal.returns
returns c =
    let long : c.len.result ≡ length (queue c.args.self.now c.args.key.0) = c.len.ensures.value ∙ ap length c.sleepers-queue.ensures in
    let all : c.loop-place.place ≡ min c.args.n (length (queue c.args.self.now c.args.key.0)) = omega (arith, long, c.min-moved.ensures, c.loop-place-test.false, c.loop-place.auto.place-end) in
    let room : standing c.args.other.now + c.loop-place.place ≤ c.args.other.now.capacity =
    subst (λ (b : Sleepers). standing b + c.loop-place.place ≤ b.capacity) c.other.view_is (
    let many = all_counted _ _ _ _ c.other.invariant.0 in
    let enough = c.other.invariant.0.enough in
    omega (arith, c.if-other-moved.false, c.loop-place.auto.place-end)) in
    fitting c.args.self.now c.args.other.now c.args.key.0 c.args.n c.loop-place.place all room
    (subst (λ (q : List ℕ). All (StandsNowhere c.args.other.now) (take c.loop-place.place q)) c.sleepers-queue.ensures c.loop-place.invariant)

pub returns-then-other-moved : goal.returns-then-other-moved
returns-then-other-moved c fits =
    let b = c.other.inside in
    let q = queue c.args.self.now c.args.key.0 in
    let xs = sleeping_of (row_of b.rows) b.rings.items in
    let long : c.len.result ≡ length q = c.len.ensures.value ∙ ap length c.sleepers-queue.ensures in
    let room : length xs + length (take c.args.n q) ≤ b.capacity = subst (λ (s : Sleepers). standing s + length (take c.args.n q) ≤ s.capacity) (sym c.other.view_is) fits.room in
    let many = all_counted b.capacity b.standing (row_of b.rows) b.rings.items c.other.invariant.0 in
    let moved = length-take c.args.n q in
    absurd (omega (arith, long, c.min-moved.ensures, c.if-other-moved.true))
