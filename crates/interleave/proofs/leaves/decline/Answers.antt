use Rattle.std.proofs.Common.{◌≡◌, ◌+◌, ◌≤◌, ℕ, List, true, false, arith, refl, sym, ap, ◌∙◌, subst, slice_index_or}
use Rattle.std.proofs.lemmas.Grind.{common_steps}
use Rattle.stepprograms.specs.declared.access.Answer.TheVariants.{Trimmed}
use Rattle.mutex.specs.Whole.{whole_access}
use Rattle.facts.specs.declared.fact.Queue.TheVariants.{Mutex}
use Rattle.protocol.specs.declared.event.Event.TheVariants.{Decline}
use Rattle.protocol.specs.declared.thread.Thread.{Thread}
use Rattle.protocol.specs.declared.thread.Stage.TheVariants.{Calling}
use Rattle.protocol.specs.Machine.{State, After, idle, is_trim}
use Rattle.interleave.specs.declared.calls.InCall.TheVariants as in_call
use Rattle.interleave.specs.Shown.{state_at, thread_at}
use Rattle.interleave.specs.Steps.{IsOnItsWay, SleepsInItsCall}
use Rattle.interleave.specs.Perform.{held_with, replying, stage_in}
use Rattle.interleave.proofs.Views.{thread_at-index}
use Rattle.interleave.proofs.Sleeping.{told_asleep}
use Rattle.interleave.proofs.Leaving.{asleep_rests, declined_by, no_trim_rests}
use Rattle.interleave.proofs.Sparing.{answered_shows, is_there}
use Rattle.interleave.proofs.leaves.decline.Goals as goal

pub returns-then-asleep-clause-state : goal.returns-then-asleep-clause-state
returns-then-asleep-clause-state c = λ ws in_call.
    let s : State = state_at c.args.layout.now ws c.args.kernel.now c.args.threads.now.items in
    sym (ap (λ (a : After). a.state) (asleep_rests s c.args.thread (sym (told_asleep s c.args.kernel.now c.args.thread (λ key. refl) in_call true c.if-asleep.ensures.value))))

pub returns-then-asleep-clause-note : goal.returns-then-asleep-clause-note
returns-then-asleep-clause-note c = λ ws in_call.
    let s : State = state_at c.args.layout.now ws c.args.kernel.now c.args.threads.now.items in
    sym (ap (λ (a : After). a.note) (asleep_rests s c.args.thread (sym (told_asleep s c.args.kernel.now c.args.thread (λ key. refl) in_call true c.if-asleep.ensures.value))))

pub returns-in_default-next : goal.returns-in_default-next
returns-in_default-next c =
    let ts = c.args.threads.now.items in
    let t = c.args.thread in
    let k = c.as_index-index.result in
    let at : k + 1 ≡ t = omega arith in
    let read : c.index.result.now ≡ slice_index_or ts k idle = grind (arith, common_steps) in
    let is : (thread_at ts t).stage ≡ Calling c.in-Calling.op c.in-Calling.program = ap (λ (z : Thread). z.stage) (thread_at-index ts k t at ∙ sym read) ∙ c.in-Calling.is in
    record {
      state = λ ws in_call. sym (ap (λ (a : After). a.state) (no_trim_rests (state_at c.args.layout.now ws c.args.kernel.now ts) t c.in-Calling.op c.in-Calling.program c.next.result is c.next.ensures c.in_default-next.not-Trim));
      note = λ ws in_call. sym (ap (λ (a : After). a.note) (no_trim_rests (state_at c.args.layout.now ws c.args.kernel.now ts) t c.in-Calling.op c.in-Calling.program c.next.result is c.next.ensures c.in_default-next.not-Trim));
      threads = refl;
    }

pub mutex-mutex-requires : goal.mutex-mutex-requires
mutex-mutex-requires c =
    let ts = c.args.threads.now.items in
    let t = c.args.thread in
    let k = c.as_index-index.result in
    let at : k + 1 ≡ t = omega arith in
    let read : c.index.result.now ≡ slice_index_or ts k idle = grind (arith, common_steps) in
    let is : (thread_at ts t).stage ≡ Calling c.in-Calling.op c.in-Calling.program = ap (λ (z : Thread). z.stage) (thread_at-index ts k t at ∙ sym read) ∙ c.in-Calling.is in
    (subst (IsOnItsWay c.args.layout.now) is (c.requires.goes (omega arith)).0).0

pub returns : goal.returns
returns c =
    let l = c.args.layout.now in
    let kernel = c.args.kernel.now in
    let ts = c.args.threads.now.items in
    let t = c.args.thread in
    let o = c.in-Calling.op in
    let p = c.in-Calling.program in
    let th = c.index.result.now in
    let k = c.as_index-index.result in
    let at : k + 1 ≡ t = omega arith in
    let known : t ≤ l.threads = omega arith in
    let read : th ≡ slice_index_or ts k idle = grind (arith, common_steps) in
    let trims : is_trim (whole_access p) ≡ true = sym (ap is_trim c.next.ensures) ∙ ap is_trim c.in-Trim.is in
    let progressed = c.replied-progress.ensures ∙ ap (replying o) c.resume-told.ensures.progress in
    let shows = answered_shows l ts k t (in_call.Calling o p) (Trimmed false) th at known c.requires.threads c.quiet-done.result c.quiet-done.ensures c.replied-progress.result progressed
    c.stage_after.result c.held_after.result (c.stage_after.ensures ∙ (λ i. stage_in o (c.resume-told.ensures.moved i) (progressed i))) (c.held_after.ensures ∙ ap (held_with th.held) c.point.ensures)
    c.mutex-mutex.result (Mutex c.mutex-mutex.result) c.stepped.result c.mutex-mutex.ensures c.stepped.ensures (Decline t) in
    let goes = λ (ws : List ℕ) (sleeps : SleepsInItsCall (state_at l ws kernel ts) t). let s : State = state_at l ws kernel ts in declined_by s t o p th (is_there s k t at known) (thread_at-index ts k t at ∙ sym read) c.in-Calling.is trims (sym (told_asleep s kernel t (λ key. refl) sleeps false c.if-asleep.ensures.value)) in
    record {
      state = λ ws sleeps. (shows ws kernel (goes ws sleeps)).0;
      note = λ ws sleeps. (shows ws kernel (goes ws sleeps)).1;
      threads = grind (arith, common_steps);
    }
