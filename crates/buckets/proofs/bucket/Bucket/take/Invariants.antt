use Rattle.std.proofs.Common.{◌≡◌, length}
use Rattle.buckets.specs.Queues.{IsOrderly, Takes}
use Rattle.buckets.proofs.bucket.Bucket.take.Given as goal

abbrev pub invariant-loop : goal.invariant-loop
invariant-loop l = record { taken : Takes l.fn.self l.self l.fn.key.0 l.counter l.batch; orderly : IsOrderly l.self; as_many : length l.batch ≡ l.counter }
