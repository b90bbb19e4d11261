use Rattle.std.proofs.Common.{◌≡◌, suc, sym, ap, ◌∙◌, arith, slice_index_or}
use Rattle.std.specs.Prelude.{slice_index}
use Rattle.std.proofs.lemmas.Grind.{common_steps}
use Rattle.protocol.specs.Machine.{State, idle, a_walk_minds, walk_minds}
use Rattle.interleave.specs.Shown.{state_at}
use Rattle.interleave.proofs.Sparing.{one_walk_does, no_walk_more, its_own}
use Rattle.interleave.proofs.spares.a_walk_minds.Goals as goal

pub returns-then-walk_minds : goal.returns-then-walk_minds
returns-then-walk_minds c = λ kernel.
    let ts = c.args.threads.now.items in
    let i = c.loop-index.index in
    let s : State = state_at c.args.layout.now c.args.memory.now kernel ts in
    let read : c.index.result.now ≡ slice_index_or ts i idle = grind (arith, common_steps) in
    let same : c.in-Some.other ≡ suc i = its_own c.new.result i c.in-Some.other c.new.ensures c.in-Some.is in
    one_walk_does s c.args.mutex i c.args.layout.now.threads (omega arith)
    (sym (c.walk_minds.ensures ∙ (λ j. walk_minds c.args.layout.now (λ p. slice_index c.args.memory.now p) c.args.mutex (same j) (read j).stage)) ∙ c.if-walk_minds.true)

pub loop-index-preserved : goal.loop-index-preserved
loop-index-preserved c = λ kernel.
    let ts = c.args.threads.now.items in
    let i = c.loop-index.index in
    let s : State = state_at c.args.layout.now c.args.memory.now kernel ts in
    let read : c.index.result.now ≡ slice_index_or ts i idle = grind (arith, common_steps) in
    let same : c.in-Some.other ≡ suc i = its_own c.new.result i c.in-Some.other c.new.ensures c.in-Some.is in
    no_walk_more s c.args.mutex i (c.loop-index.invariant kernel)
    (sym (c.walk_minds.ensures ∙ (λ j. walk_minds c.args.layout.now (λ p. slice_index c.args.memory.now p) c.args.mutex (same j) (read j).stage)) ∙ c.if-walk_minds.false)

pub returns : goal.returns
returns c = λ kernel.
    let all : c.loop-index.index ≡ c.args.layout.now.threads = omega arith in
    sym (ap (a_walk_minds (state_at c.args.layout.now c.args.memory.now kernel c.args.threads.now.items) c.args.mutex) (sym all) ∙ c.loop-index.invariant kernel)
