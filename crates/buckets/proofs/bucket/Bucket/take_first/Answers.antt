use Rattle.std.proofs.Common.{◌∙◌, sym}
use Rattle.buckets.proofs.Changes.{takes_first, takes_nobody}
use Rattle.buckets.proofs.bucket.Bucket.take_first.Goals as goal

pub returns-in_err-thread-clause-changes : goal.returns-in_err-thread-clause-changes
returns-in_err-thread-clause-changes c = rw c.from_residual.ensures (takes_nobody c.args.self.now c.args.key.0 (sym c.in_err-thread.was ∙ c.first.ensures.value))

pub returns-clause-changes : goal.returns-clause-changes
returns-clause-changes c =
    takes_first c.args.self.now c.remove.new.self c.args.key.0 c.in_ok-thread.thread c.remove.result c.first.ensures.orderly (sym c.in_ok-thread.was ∙ c.first.ensures.value) c.remove.ensures.changes
