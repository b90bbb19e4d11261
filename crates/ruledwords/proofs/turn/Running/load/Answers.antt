use Rattle.std.proofs.Common.{refl, sym, ◌∙◌, subst}
use Rattle.memorymap.specs.Layouts.{cell_place}
use Rattle.ruledwords.specs.Changes.{KnowsMoreAt}
use Rattle.ruledwords.specs.Lists.{IsInCall}
use Rattle.ruledwords.specs.Looks.{noted}
use Rattle.ruledwords.specs.Passes.{IsCardOf}
use Rattle.ruledwords.specs.Rules.{card_of}
use Rattle.ruledwords.proofs.Changes.{more_same}
use Rattle.ruledwords.proofs.Cards.{is_noted, knows_same}
use Rattle.ruledwords.proofs.Listing.{call_noted}
use Rattle.ruledwords.proofs.turn.Running.load.Goals as goal

pub returns-clause-unmoved : goal.returns-clause-unmoved
returns-clause-unmoved c =
    let k = c.args.words.now.layout in
    let was = card_of c.args.self.now.pass.seat.me.0 in
    let of = c.requires.words in (
      ((c.look.ensures.table ∙ of.0.0, subst (IsCardOf k) (sym c.look.ensures.card) (is_noted k was c.look.result was.trims was.changes of.0.1)), (of.1.0, subst (λ d. IsInCall k d of.1.0 c.args.self.now.program) (sym c.look.ensures.card) (call_noted k was c.look.result was.trims was.changes of.1.0 c.args.self.now.program of.1.1))),
      refl,
      knows_same was (card_of c.look.new.pass.seat.me.0) c.look.result was.trims was.changes c.look.ensures.card,
      c.requires.section,
      λ m on. subst (KnowsMoreAt was (cell_place k m)) (sym c.look.ensures.card) (more_same was (noted was c.look.result was.trims was.changes) (cell_place k m) refl refl),
    )
