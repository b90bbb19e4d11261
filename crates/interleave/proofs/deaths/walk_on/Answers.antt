use Rattle.std.proofs.Common.{◌≡◌, ◌+◌, ℕ, Option, arith, sym, ap, ◌∙◌, subst, slice_index_or, slice_set}
use Rattle.std.proofs.lemmas.Grind.{common_steps}
use Rattle.stepprograms.specs.declared.access.Access.{Access}
use Rattle.memorymap.specs.Layouts.{base_of}
use Rattle.posixmutex.specs.declared.point.Operation.TheVariants.{Death}
use Rattle.exitwalk.specs.Walks.{access_of}
use Rattle.protocol.specs.declared.thread.Thread.{Thread}
use Rattle.protocol.specs.declared.thread.Stage.TheVariants.{Dying}
use Rattle.protocol.specs.declared.note.Note.TheVariants.{Walked}
use Rattle.protocol.specs.Machine.{idle, told_of, held_after}
use Rattle.interleave.specs.Shown.{state_at}
use Rattle.interleave.specs.Perform.{list_words, Performs}
use Rattle.interleave.proofs.Views.{thread_at-index}
use Rattle.interleave.proofs.Dying.{walk_state, walk_note}
use Rattle.interleave.proofs.deaths.walk_on.Goals as goal

pub returns : goal.returns
returns c =
    let l = c.args.layout.now in
    let ws = c.args.memory.now in
    let kernel = c.args.kernel.now in
    let ts = c.args.threads.now.items in
    let k = c.as_index-index.result in
    let at : k + 1 ≡ c.args.thread = omega arith in
    let read : c.index.result.now ≡ slice_index_or ts k idle = grind (arith, common_steps) in
    let is = thread_at-index ts k c.args.thread at ∙ sym read in
    let w = c.args.walk in
    let dies : c.index.result.now.stage ≡ Dying w = ap (λ (z : Thread). z.stage) (sym is) ∙ c.requires.stands in
    let performs : Performs ws kernel c.perform-done.new.kernel (base_of l c.args.thread) c.args.thread (access_of w) c.perform-done.result =
    subst (λ (x : ℕ × Access). Performs ws kernel c.perform-done.new.kernel x.0 c.args.thread x.1 c.perform-done.result) (λ i. (c.base-base.ensures.value i, c.next.ensures i)) c.perform-done.ensures.performs in
    let wrote : c.perform-done.new.memory ≡ list_words ws kernel (base_of l c.args.thread) (access_of w) = c.perform-done.ensures.words ∙ (λ i. list_words ws kernel (c.base-base.ensures.value i) (c.next.ensures i)) in
    let held : c.held_walked.result ≡ held_after c.index.result.now.held Death (told_of _) = c.held_walked.ensures ∙ ap (λ (d : Option ℕ). held_after c.index.result.now.held Death (told_of d)) c.death_told-death.ensures in
    record {
      state =
          (λ i. state_at l c.perform-done.new.memory c.perform-done.new.kernel (slice_set ts k (record { stage = c.stage_walked.ensures i; held = held i })))
          ∙ walk_state l ws c.perform-done.new.memory kernel c.perform-done.new.kernel ts k c.args.thread w c.resume-progress.new.self c.index.result.now c.perform-done.result c.resume-progress.result
          c.requires.known at c.requires.threads c.requires.words is dies performs wrote c.resume-progress.ensures.moved c.resume-progress.ensures.progress;
      note =
          (λ i. Walked c.args.thread (c.death_told-death.ensures i) c.perform-done.result.woken (c.has_returned.ensures i))
          ∙ walk_note l ws c.perform-done.new.memory kernel c.perform-done.new.kernel ts k c.args.thread w c.resume-progress.new.self c.index.result.now c.perform-done.result c.resume-progress.result
          c.requires.known at c.requires.threads c.requires.words is dies performs wrote c.resume-progress.ensures.moved c.resume-progress.ensures.progress;
      words = grind (arith, common_steps);
      kernel = grind (arith, common_steps);
      heads = grind (arith, common_steps);
      threads = grind (arith, common_steps);
    }
