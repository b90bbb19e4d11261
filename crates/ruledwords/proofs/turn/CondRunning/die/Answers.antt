use Rattle.std.proofs.Common.{sym, subst}
use Rattle.ruledwords.specs.Conditions.{condition_at, unlock_of}
use Rattle.ruledwords.specs.Counts.{mutex_at}
use Rattle.ruledwords.specs.Lists.{IsMortal}
use Rattle.ruledwords.specs.Passes.{card, layout_of}
use Rattle.ruledwords.proofs.Listing.{mortal}
use Rattle.ruledwords.proofs.ConditionKeeps.{dies_here}
use Rattle.ruledwords.proofs.turn.CondRunning.die.Goals as goal

pub returns-clause-words : goal.returns-clause-words
returns-clause-words c = λ w of.
    let k = layout_of w in
    let p = c.args.self.program in
    (c.died.ensures.words w of.0, subst (IsMortal k) (sym c.died.ensures.card) (mortal k (card c.args.self.pass) of.0.1 (mutex_at k (condition_at k p)) (unlock_of p) of.1.list))

pub returns-clause-died : goal.returns-clause-died
returns-clause-died c = λ w a cl u.
    let k = layout_of w in
    let p = c.args.self.program in (
      (c.died.ensures.words w u.0.0, subst (IsMortal k) (sym c.died.ensures.card) (mortal k (card c.args.self.pass) u.0.0.1 (mutex_at k (condition_at k p)) (unlock_of p) u.0.1.list)),
      dies_here w c.args.self u.0 a cl u (card c.died.result) c.died.ensures.card,
    )
