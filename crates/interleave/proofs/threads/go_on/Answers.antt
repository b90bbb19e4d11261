use Rattle.std.proofs.Common.{◌≡◌, ◌+◌, false, ℕ, arith, sym, ap, ◌∙◌, subst, slice_index_or, slice_set}
use Rattle.std.proofs.lemmas.Grind.{common_steps}
use Rattle.stepprograms.specs.declared.access.Access.{Access}
use Rattle.memorymap.specs.Layouts.{base_of}
use Rattle.condvar.specs.Ops.{mutex_of}
use Rattle.syscalls.specs.Kernels.{queue_of}
use Rattle.protocol.specs.declared.thread.Thread.{Thread}
use Rattle.protocol.specs.declared.note.Note.TheVariants.{Stepped}
use Rattle.protocol.specs.Machine.{idle, stands_in, slept_in}
use Rattle.interleave.specs.Calls.{access_of, led_by, op_of, progress_behind, queue_in, stage_of}
use Rattle.interleave.specs.Shown.{state_at}
use Rattle.interleave.specs.Perform.{list_words, Performs, decision_with, held_with, point_in, reply_in}
use Rattle.interleave.proofs.Views.{thread_at-index, made_by, goes_by, step_shows}
use Rattle.interleave.proofs.Sleeping.{outside}
use Rattle.interleave.proofs.threads.go_on.Goals as goal

pub returns : goal.returns
returns c =
    let l = c.args.layout.now in
    let ws = c.args.memory.now in
    let kernel = c.args.kernel.now in
    let ts = c.args.threads.now.items in
    let t = c.args.thread in
    let k = c.args.call.now in
    let m = mutex_of l (op_of k) in
    let i = c.as_index-index.result in
    let th = c.index.result.now in
    let done = c.perform-done.result in
    let at : i + 1 ≡ t = omega arith in
    let read : th ≡ slice_index_or ts i idle = grind (arith, common_steps) in
    let is = thread_at-index ts i t at ∙ sym read in
    let stands : th.stage ≡ stage_of k = ap (λ (z : Thread). z.stage) (sym is) ∙ c.requires.stands in
    let awake : (key : ℕ) → stands_in t (queue_of kernel key) ≡ false = λ key. outside t (queue_of kernel key) (c.requires.awake key) in
    let performs : Performs ws kernel c.perform-done.new.kernel (base_of l t) t (access_of k) done =
    subst (λ (x : ℕ × Access). Performs ws kernel c.perform-done.new.kernel x.0 t x.1 done) (λ j. (c.base-base.ensures.value j, c.next.ensures j)) c.perform-done.ensures.performs in
    let wrote : c.perform-done.new.memory ≡ list_words ws kernel (base_of l t) (access_of k) = c.perform-done.ensures.words ∙ (λ j. list_words ws kernel (c.base-base.ensures.value j) (c.next.ensures j)) in
    let shows = step_shows l ws c.perform-done.new.memory kernel c.perform-done.new.kernel ts i t m (queue_in m k) (access_of k) (led_by k) th done _
    c.requires.known at c.requires.threads c.requires.words is (goes_by (state_at l ws kernel ts) t th.held k th.stage stands awake) performs wrote (made_by t m th.held k done.answer) in
    let came : c.resume-stage.result.1 ≡ progress_behind k done.answer = c.resume-stage.ensures.progress in
    let held : c.held_after.result ≡ held_with th.held (point_in (progress_behind k done.answer)) = c.held_after.ensures ∙ ap (held_with th.held) (c.point.ensures ∙ ap point_in came) in
    let of : c.mutex-mutex.result ≡ m = c.mutex-mutex.ensures ∙ ap (mutex_of l) c.op.ensures in
    let queue : c.queue.result ≡ queue_in m k = c.queue.ensures ∙ ap (λ (z : ℕ). queue_in z k) of in
    record {
      state = (λ j. state_at l c.perform-done.new.memory c.perform-done.new.kernel (slice_set ts i (record { stage = c.resume-stage.ensures.stage j; held = held j }))) ∙ shows.0;
      note = c.stepped.ensures ∙ (λ j. Stepped t (of j) (decision_with t (of j) (point_in (came j))) (slept_in (queue j) done.slept) done.woken done.moved (reply_in (came j))) ∙ shows.1;
      words = grind (arith, common_steps);
      kernel = grind (arith, common_steps);
      heads = grind (arith, common_steps);
      threads = grind (arith, common_steps);
    }
