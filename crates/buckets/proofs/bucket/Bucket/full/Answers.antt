use Rattle.std.proofs.Common.{◌≡◌, ◌≤◌, ◌==◌, sym, ap, subst, ℕ}
use Rattle.buckets.specs.Queues.{Sleepers, standing}
use Rattle.buckets.specs.Rings.{row_of}
use Rattle.buckets.proofs.Kept.{all_counted, has_room}
use Rattle.buckets.proofs.bucket.Bucket.full.Goals as goal

pub returns-clause-value : goal.returns-clause-value
returns-clause-value c =
    let b = c.self.inside in
    subst (λ (s : Sleepers). (b.standing == b.capacity) ≡ (standing s == s.capacity)) c.self.view_is
    (ap (λ (m : ℕ). m == b.capacity) (sym (all_counted b.capacity b.standing (row_of b.rows) b.rings.items c.self.invariant.0)))

pub returns-clause-room : goal.returns-clause-room
returns-clause-room c = subst (λ (s : Sleepers). standing s ≤ s.capacity) c.self.view_is (has_room _ _ _ _ c.self.invariant.0).enough
