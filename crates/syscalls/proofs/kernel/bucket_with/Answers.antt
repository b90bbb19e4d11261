use Rattle.std.proofs.Common.{◌≡◌, ◌-◌, Some, sym, ◌∙◌, subst, arith}
use Rattle.std.specs.Prelude.{slice_get}
use Rattle.std.proofs.lemmas.List.{get_or_default}
use Rattle.std.proofs.lemmas.Option.{slice_get_past}
use Rattle.buckets.specs.Queues.{Sleepers, StandsNowhere}
use Rattle.syscalls.specs.Kernels.{nobody, bucket_at}
use Rattle.syscalls.proofs.Told.{told_read, told_nowhere, untold_nowhere}
use Rattle.syscalls.proofs.kernel.bucket_with.Goals as goal

pub returns-then-stood_in-index : goal.returns-then-stood_in-index
returns-then-stood_in-index c =
    untold_nowhere c.args.stood_in.now c.args.buckets.now c.args.thread c.requires.remembers
    (slice_get_past c.args.stood_in.now (c.args.thread - 1) (omega (arith, c.if-stood_in-index.true, c.as_index-index.ensures)))

pub returns-else-stands : goal.returns-else-stands
returns-else-stands c =
    let told : slice_get c.args.stood_in.now (c.args.thread - 1) ≡ Some c.from-number.result =
    told_read c.args.stood_in.now (c.args.thread - 1) (c.as_index-index.result) c.from-number.result _ (omega (arith, c.as_index-index.ensures))
    (omega (arith, c.if-stood_in-index.false, c.as_index-index.ensures)) c.from-number.ensures in
    let is : bucket_at c.args.buckets.now c.from-number.result ≡ c.index-buckets-number.result =
    get_or_default c.args.buckets.now c.from-number.result nobody c.index-buckets-number.result (omega arith) ∙ sym c.index-buckets-number.is in
    told_nowhere c.args.stood_in.now c.args.buckets.now c.args.thread c.from-number.result c.requires.remembers told (subst (λ (b : Sleepers). StandsNowhere b c.args.thread) (sym is) c.if-stands.ensures.value)
