use Rattle.std.proofs.Common.{◌≡◌, ◌≤◌, vec_len, vec_capacity}
use Rattle.threadbench.specs.Buckets.{AreNumbered, HaveRoomFor}
use Rattle.threadbench.proofs.bench.buckets.Given as goal

abbrev pub invariant-loop-number : goal.invariant-loop-number
invariant-loop-number l = (vec_len l.buckets ≡ l.number) × (256 ≤ vec_capacity l.buckets) × AreNumbered l.buckets.items × HaveRoomFor l.threads l.buckets.items
