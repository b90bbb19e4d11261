use Rattle.std.proofs.Common.{◌≡◌, ◌<◌, ◌∙◌, ap, arith, suc, length, subst, ℕ}
use Rattle.protocol.specs.declared.thread.Thread.{Thread}
use Rattle.interleave.specs.Shown.{thread_at}
use Rattle.outcomes.proofs.Lists.{thread_is}
use Rattle.outcomes.proofs.Moves.{is_inside}
use Rattle.std.proofs.Common.{refl}
use Rattle.outcomes.proofs.reading.end_of.Goals as goal

pub asleep_in-requires : goal.asleep_in-requires
asleep_in-requires c =
    let ts = c.args.kept.now.saved.threads.items in
    let i = c.as_index.result in
    let n = c.requires.kept.saved.threads in
    let id = c.as_index.ensures in
    let known = c.requires.known in
    let lt : i < length ts = omega arith in
    let at : thread_at ts c.args.thread ≡ c.index.result.now = subst (λ (t : ℕ). thread_at ts t ≡ c.index.result.now) (let e : suc i ≡ c.args.thread = omega arith in e) (thread_is ts ts i c.index.result.now refl lt c.index.ensures) in
    is_inside c.args.plan.now c.args.kept.now c.requires.kept c.args.thread c.in-Calling.op c.in-Calling.field-1 (omega arith) known (ap (λ (th : Thread). th.stage) at ∙ c.in-Calling.is)
