use Rattle.std.proofs.Common.{◌∙◌, ap, List}
use Rattle.outcomes.specs.declared.kept.Life.{Life}
use Rattle.outcomes.specs.Kept.{places_in}
use Rattle.outcomes.proofs.Lives.{copied}
use Rattle.outcomes.proofs.kept.same_lives.Goals as goal

pub loop-life-preserved : goal.loop-life-preserved
loop-life-preserved c = ap (λ (xs : List Life). places_in xs) c.in_ok-add.ensures ∙ copied c.args.lives.now c.loop-life.copy.items c.loop-life.life-index c.life-item.result c.in_ok-replies.replies c.loop-life-test.true c.life-item.is (c.in_ok-replies.ensures.items ∙ c.deref.ensures.value) c.loop-life.invariant
