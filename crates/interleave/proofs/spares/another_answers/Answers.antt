use Rattle.std.proofs.Common.{◌≡◌, ◌==◌, ◌&&◌, suc, sym, ap, ◌∙◌, subst, arith, slice_index_or}
use Rattle.std.specs.Prelude.{not, slice_index}
use Rattle.std.proofs.lemmas.Grind.{common_steps}
use Rattle.protocol.specs.declared.thread.Thread.{Thread}
use Rattle.protocol.specs.Machine.{State, idle, answers, another_answers, is_asleep}
use Rattle.interleave.specs.Shown.{state_at}
use Rattle.interleave.specs.Steps.{IsOnItsWay}
use Rattle.interleave.proofs.Sparing.{one_does, one_more, its_own}
use Rattle.interleave.proofs.spares.another_answers.Goals as goal

pub other_answers-requires-clause-goes : goal.other_answers-requires-clause-goes
other_answers-requires-clause-goes c =
    let ts = c.args.threads.now.items in
    let i = c.loop-index.index in
    let read : c.index.result.now ≡ slice_index_or ts i idle = grind (arith, common_steps) in
    subst (λ (z : Thread). IsOnItsWay c.args.layout.now z.stage) (sym read) (c.requires.goes (suc i) (omega arith) (omega arith)).0

pub returns-then-other_answers : goal.returns-then-other_answers
returns-then-other_answers c = λ sleeps.
    let ts = c.args.threads.now.items in
    let i = c.loop-index.index in
    let s : State = state_at c.args.layout.now c.args.memory.now c.args.kernel.now ts in
    let read : c.index.result.now ≡ slice_index_or ts i idle = grind (arith, common_steps) in
    let same : c.in-Some.other ≡ suc i = its_own c.new.result i c.in-Some.other c.new.ensures c.in-Some.is in
    one_does s c.args.thread c.args.mutex i c.args.layout.now.threads (omega arith)
    (sym (c.other_answers.ensures ts (sleeps c.in-Some.other) ∙ (λ j. not (same j == c.args.thread) && not (is_asleep s (same j)) && answers c.args.layout.now (λ p. slice_index c.args.memory.now p) c.args.mutex (same j) (read j).stage)) ∙ c.if-other_answers.true)

pub loop-index-preserved : goal.loop-index-preserved
loop-index-preserved c = λ sleeps.
    let ts = c.args.threads.now.items in
    let i = c.loop-index.index in
    let s : State = state_at c.args.layout.now c.args.memory.now c.args.kernel.now ts in
    let read : c.index.result.now ≡ slice_index_or ts i idle = grind (arith, common_steps) in
    let same : c.in-Some.other ≡ suc i = its_own c.new.result i c.in-Some.other c.new.ensures c.in-Some.is in
    one_more s c.args.thread c.args.mutex i (c.loop-index.invariant sleeps)
    (sym (c.other_answers.ensures ts (sleeps c.in-Some.other) ∙ (λ j. not (same j == c.args.thread) && not (is_asleep s (same j)) && answers c.args.layout.now (λ p. slice_index c.args.memory.now p) c.args.mutex (same j) (read j).stage)) ∙ c.if-other_answers.false)

pub returns : goal.returns
returns c = λ sleeps.
    let all : c.loop-index.index ≡ c.args.layout.now.threads = omega arith in
    sym (ap (another_answers (state_at c.args.layout.now c.args.memory.now c.args.kernel.now c.args.threads.now.items) c.args.thread c.args.mutex) (sym all) ∙ c.loop-index.invariant sleeps)
