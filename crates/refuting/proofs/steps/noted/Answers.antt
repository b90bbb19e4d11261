use Rattle.std.proofs.Common.{arith, false, ap, sym, subst, ◌∙◌}
use Rattle.std.specs.Bool.{IsTrue}
use Rattle.refuting.specs.Steps.{Sees, with_sight}
use Rattle.refuting.specs.Turns.{turn_at}
use Rattle.refuting.proofs.Sights.{more_sights, none_seen, sees_all}
use Rattle.refuting.proofs.steps.noted.Goals as goal
use Rattle.refuting.proofs.steps.noted.Goals.{then-sees, else-sees}

pub loop-before-preserved : goal.loop-before-preserved
loop-before-preserved c =
    let t = c.thread_after-thread.ensures in
    elim c.if-sees.branch [
      | then-sees w ↦ more_sights c.args.mutex c.args.turns.now c.args.state.now c.loop-before.after c.if-sees.after c.loop-before.before (w.after-is ∙ w.with_sight-after.ensures ∙ ap (with_sight c.loop-before.after) t) c.loop-before-test.true c.loop-before.invariant
      | else-sees w ↦ none_seen c.args.mutex c.args.turns.now c.args.state.now c.loop-before.after c.if-sees.after c.loop-before.before w.after-is (λ h. let no : IsTrue false = w.if-sees.ensures.1 (subst (λ u. Sees c.args.mutex (turn_at c.args.turns.now u) c.loop-before.after u) (sym t) h) in absurd cc) c.loop-before.invariant
    ]

pub returns-clause-notes : goal.returns-clause-notes
returns-clause-notes c = sees_all c.args.mutex c.args.turns.now c.loop-before.after c.told-turns (λ t low high. c.loop-before.invariant.notes t low (omega (arith, high, c.loop-before-test.false)))
