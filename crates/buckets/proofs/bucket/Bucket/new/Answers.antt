use Rattle.std.proofs.Common.{List, sym, subst, arith}
use Rattle.buckets.specs.declared.ring.Ring.{Ring}
use Rattle.buckets.specs.Queues.{IsOrderly, IsEmptied}
use Rattle.buckets.specs.Rings.{row_of, sleeping_of, AreRings}
use Rattle.buckets.proofs.Changes.{bucket, emptied}
use Rattle.buckets.proofs.Kept.{no_rings, orderly_rings}
use Rattle.buckets.proofs.bucket.Bucket.new.Goals as goal

pub invariant_of-result : goal.invariant_of-result
invariant_of-result c = (
  subst (λ (rs : List Ring). AreRings c.args.capacity 0 (row_of c.no_rows.result) rs) (sym c.in_ok-rings.ensures.items) (no_rings c.args.capacity (row_of c.no_rows.result) c.requires.first c.requires.last c.no_rows.ensures),
  omega (arith, c.in_ok-rings.ensures.capacity),
)

pub returns-clause-made : goal.returns-clause-made
returns-clause-made c =
    subst (λ (rs : List Ring). IsEmptied (bucket c.args.capacity (sleeping_of (row_of c.no_rows.result) rs)) c.args.capacity) (sym c.in_ok-rings.ensures.items) (emptied c.args.capacity)

pub returns-clause-orderly : goal.returns-clause-orderly
returns-clause-orderly c =
    subst (λ (rs : List Ring). IsOrderly (bucket c.args.capacity (sleeping_of (row_of c.no_rows.result) rs))) (sym c.in_ok-rings.ensures.items)
    (orderly_rings _ _ _ _ (no_rings c.args.capacity (row_of c.no_rows.result) c.requires.first c.requires.last c.no_rows.ensures))
