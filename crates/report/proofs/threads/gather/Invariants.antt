use Rattle.std.proofs.Common.{◌≡◌, ◌≤◌, ◌++◌, ℕ, List, length, slice_get}
use Rattle.std.specs.Vec.Iter.{into_iter_items}
use Rattle.threadbench.specs.declared.job.Record.{Record}
use Rattle.report.specs.Threads.{AreGathered}
use Rattle.report.proofs.threads.gather.Given as goal

-- each record so far gave its pass, and its thread its replies; the other threads' are as they were
abbrev pub invariant-loop-record : goal.invariant-loop-record
invariant-loop-record l =
    (goal.iterator-loop-record).can_next l.record-iterator ×
    (goal.iterator-loop-record).is_finite l.record-iterator ×
    ((done : List Record) × (done ++ into_iter_items l.record-iterator ≡ l.fn.records.items) × AreGathered done l.workers.items l.fn.replies.items l.replies.items) ×
    ((i : ℕ) → length l.workers.items ≤ i → slice_get l.replies.items i ≡ slice_get l.fn.replies.items i)
