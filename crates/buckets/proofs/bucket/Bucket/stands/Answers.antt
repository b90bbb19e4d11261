use Rattle.std.proofs.Common.{subst}
use Rattle.std.specs.Prelude.{MatchBool, is_some}
use Rattle.buckets.specs.Queues.{Sleepers, Stands, StandsNowhere, IsOrderly}
use Rattle.buckets.proofs.Kept.{orderly_rings, stands_by_row}
use Rattle.buckets.proofs.bucket.Bucket.stands.Goals as goal

pub returns-clause-value : goal.returns-clause-value
returns-clause-value c =
    rw c.is_some.ensures (subst (λ (b : Sleepers). MatchBool (is_some c.read.result) (Stands b c.args.thread) (StandsNowhere b c.args.thread)) c.self.view_is
    (stands_by_row _ _ _ _ c.args.thread c.read.result c.self.invariant.0 c.read.ensures))

pub returns-clause-orderly : goal.returns-clause-orderly
returns-clause-orderly c = subst IsOrderly c.self.view_is (orderly_rings _ _ _ _ c.self.invariant.0)
