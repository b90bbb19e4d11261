use Rattle.std.proofs.Common.{◌≡◌, ◌-◌, ◌++◌, length}
use Rattle.buckets.specs.Rings.{row_of, follow}
use Rattle.buckets.proofs.row.batch_from.Given as goal

abbrev pub invariant-loop : goal.invariant-loop
invariant-loop l = record { so_far : l.batch ++ follow (row_of l.rows) (l.count - l.counter) l.thread ≡ follow (row_of l.rows) l.count l.fn.first; many : length l.batch ≡ l.counter }
