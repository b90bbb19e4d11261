use Rattle.std.proofs.Common.{◌≡◌, ◌∙◌, ℕ, ◌+◌, ◌<◌, length, take, set, sym, subst, arith}
use Rattle.std.proofs.lemmas.List.{length-set}
use Rattle.script.specs.Playing.{layout_of}
use Rattle.script.proofs.Firsts.{mutex_more}
use Rattle.script.proofs.layout.mutexes_of.Goals as goal

pub loop-condition-preserved : goal.loop-condition-preserved
loop-condition-preserved c =
    let s = c.args.script.now in
    let k = c.loop-condition.condition in
    let ms = c.loop-condition.mutexes in
    let few = c.conditions-condition-end.ensures.well_formed.within.conditions_at_most in
    let count = c.conditions-condition-end.ensures.count in
    let below = c.loop-condition-test.true in
    let inside : k < length s.conditions = omega arith in
    let long = c.loop-condition.invariant.1 in
    subst (λ (i : ℕ). (take (k + 1) (set ms i c.condition.result.mutex) ≡ take (k + 1) (layout_of s).conditions) × (length (set ms i c.condition.result.mutex) ≡ 256)) (sym c.from.ensures)
    (mutex_more s ms k c.condition.result c.condition.ensures inside (omega arith) c.loop-condition.invariant.0, length-set ms k c.condition.result.mutex ∙ long)
