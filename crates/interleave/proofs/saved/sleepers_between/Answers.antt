use Rattle.std.proofs.Common.{List, ℕ, ◌∙◌, ap, arith, ◌++◌, [], ◌==◌}
use Rattle.std.specs.Prelude.{if◌then◌else◌}
use Rattle.syscalls.specs.Kernels.{queue_of}
use Rattle.interleave.specs.Saved.{sleepers_at}
use Rattle.interleave.proofs.Saving.{next_queue}
use Rattle.interleave.proofs.saved.sleepers_between.Goals as goal

pub loop-place-preserved : goal.loop-place-preserved
loop-place-preserved c = λ p.
    let old = c.loop-place.sleepers.items in
    let place = c.loop-place.place in
    let low = c.loop-place.auto.place in
    let first = c.requires in
    next_queue old (queue_of c.args.kernel.now) c.args.first place p (sleepers_at c.add_queue.new.sleepers.items p) (omega arith) (c.loop-place.invariant p)
    (c.in_ok-add_queue.ensures p ∙ ap (λ (q : List ℕ). sleepers_at old p ++ (if place == p then q else [])) c.sleepers.ensures.value)
