use Rattle.std.proofs.Common.{◌≡◌, [], length, All}
use Rattle.report.proofs.threads.no_replies.Given as goal

abbrev pub invariant-loop-thread : goal.invariant-loop-thread
invariant-loop-thread l = (length l.replies.items ≡ l._thread) × All (λ r. r.items ≡ []) l.replies.items
