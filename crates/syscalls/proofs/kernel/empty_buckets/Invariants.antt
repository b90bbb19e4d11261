use Rattle.std.proofs.Common.{◌≡◌}
use Rattle.std.specs.List.{All}
use Rattle.std.specs.Prelude.{vec_len, vec_capacity, ◌≤◌}
use Rattle.buckets.specs.Queues.{IsOrderly, IsEmptied}
use Rattle.buckets.specs.declared.bucket_count.TheConstants.{BUCKETS}
use Rattle.syscalls.proofs.kernel.empty_buckets.Given as goal

abbrev pub invariant-loop : goal.invariant-loop
invariant-loop l = record {
  long : vec_len l.buckets ≡ l.counter;
  room : BUCKETS ≤ vec_capacity l.buckets;
  emptied : All (λ b. IsEmptied b l.capacity) l.buckets.items;
  orderly : All IsOrderly l.buckets.items;
}
