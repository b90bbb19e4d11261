use Rattle.std.proofs.Common.{sym, subst}
use Rattle.ruledwords.specs.Lists.{IsMortal}
use Rattle.ruledwords.specs.Passes.{card, layout_of}
use Rattle.ruledwords.specs.Turns.{running_of}
use Rattle.ruledwords.proofs.Listing.{mortal}
use Rattle.ruledwords.proofs.Turning.{died_in}
use Rattle.ruledwords.proofs.pass.Words.finish.Goals as goal

pub returns-in-Stopped-clause-finishes : goal.returns-in-Stopped-clause-finishes
returns-in-Stopped-clause-finishes g c = λ x call is.
    let w = c.args.self.now in
    let b = c.all_steps.new.pass in
    let t = c.in-Stopped.ensures.ends x call is in
    let u = t.1.1 in
    let r = running_of w b t.0 t.1.0 in
    let f = died_in w x call r (card c.died.result) u c.died.ensures.card in
    let found = mortal (layout_of w) (card b) u.0.0.1 u.0.1.0 t.0 u.0.1.1 in
    ((c.died.ensures.words w u.0.0, subst (IsMortal (layout_of w)) (sym c.died.ensures.card) found), f.0, f.1)
