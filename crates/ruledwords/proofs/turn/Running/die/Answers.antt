use Rattle.std.proofs.Common.{sym, subst}
use Rattle.ruledwords.specs.Lists.{IsMortal}
use Rattle.ruledwords.specs.Passes.{card, layout_of}
use Rattle.ruledwords.proofs.Listing.{mortal}
use Rattle.ruledwords.proofs.Turning.{died_in}
use Rattle.ruledwords.proofs.turn.Running.die.Goals as goal

pub returns-clause-words : goal.returns-clause-words
returns-clause-words c = λ w of. (c.died.ensures.words w of.0, subst (IsMortal (layout_of w)) (sym c.died.ensures.card) (mortal (layout_of w) (card c.args.self.pass) of.0.1 of.1.0 c.args.self.program of.1.1))

pub returns-clause-died : goal.returns-clause-died
returns-clause-died c = λ w a call u. let f = died_in w a call c.args.self (card c.died.result) u c.died.ensures.card in (
  (c.died.ensures.words w u.0.0, subst (IsMortal (layout_of w)) (sym c.died.ensures.card) (mortal (layout_of w) (card c.args.self.pass) u.0.0.1 u.0.1.0 c.args.self.program u.0.1.1)),
  f.0,
  f.1,
)
