use Rattle.std.proofs.Common.{◌≡◌, ◌+◌, arith, sym, ap, ◌∙◌, slice_index_or}
use Rattle.std.proofs.lemmas.Grind.{common_steps}
use Rattle.stepprograms.specs.declared.access.Answer.TheVariants.{Count}
use Rattle.facts.specs.declared.fact.Queue.TheVariants.{Condition}
use Rattle.protocol.specs.declared.event.Event.TheVariants.{Spare}
use Rattle.protocol.specs.Machine.{idle}
use Rattle.interleave.specs.declared.calls.InCall.TheVariants.{AtCondition}
use Rattle.interleave.specs.Perform.{held_with, stage_at_in}
use Rattle.interleave.proofs.Views.{thread_at-index}
use Rattle.interleave.proofs.Sparing.{answered_shows, spares_there}
use Rattle.interleave.proofs.spares.spare_wait.Goals as goal

pub returns : goal.returns
returns c =
    let l = c.args.layout.now in
    let ts = c.args.threads.now.items in
    let t = c.args.thread in
    let call = AtCondition c.args.call c.args.program in
    let th = c.index.result.now in
    let k = c.as_index-index.result in
    let at : k + 1 ≡ t = omega arith in
    let read : th ≡ slice_index_or ts k idle = grind (arith, common_steps) in
    let resumed = c.resume-progress.ensures in
    let shows = answered_shows l ts k t call (Count 1) th at c.requires.known c.requires.threads c.quiet-done.result c.quiet-done.ensures c.resume-progress.result resumed.progress
    c.stage_at.result c.held_after.result (c.stage_at.ensures ∙ (λ i. stage_at_in c.args.call (resumed.moved i) (resumed.progress i))) (c.held_after.ensures ∙ ap (held_with th.held) c.point.ensures)
    c.mutex-mutex.result (Condition c.condition.result) c.stepped.result c.mutex-mutex.ensures c.stepped.ensures (Spare t c.args.by) in
    let goes = spares_there l ts k t c.args.by call th at c.requires.known (thread_at-index ts k t at ∙ sym read) c.requires.stands c.requires.wakes in
    record {
      state = λ ws kernel another. (shows ws kernel (goes ws kernel another)).0;
      note = λ ws kernel another. (shows ws kernel (goes ws kernel another)).1;
      threads = grind (arith, common_steps);
    }
