use Rattle.std.proofs.Common.{take}
use Rattle.buckets.specs.Queues.{IsOrderly, Joins}
use Rattle.buckets.proofs.bucket.Bucket.enqueue_all.Given as goal

abbrev pub invariant-loop-place : goal.invariant-loop-place
invariant-loop-place l = record { joined : Joins l.fn.self l.self (take l.place l.threads) l.key.0; orderly : IsOrderly l.self }
