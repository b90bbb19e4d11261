use Rattle.std.proofs.Common.{◌≡◌, ◌+◌, ◌==◌, ℕ, ap, refl, sym, ◌∙◌, subst}
use Rattle.std.specs.Prelude.{if◌then◌else◌}
use Rattle.memorymap.specs.Layouts.{cell_place}
use Rattle.ruledwords.specs.declared.pass.Card.{Card}
use Rattle.ruledwords.specs.Changes.{Writes}
use Rattle.ruledwords.specs.Lists.{IsInCall}
use Rattle.ruledwords.specs.Passes.{IsCardOf}
use Rattle.ruledwords.specs.Rules.{card_of}
use Rattle.ruledwords.specs.Turns.{IsOneStep}
use Rattle.ruledwords.proofs.Changes.{more_by}
use Rattle.ruledwords.proofs.Cards.{is_noted, knows_same}
use Rattle.ruledwords.proofs.Listing.{call_noted}
use Rattle.ruledwords.proofs.SectionPlaces.{section_place}
use Rattle.ruledwords.proofs.turn.Running.trim.Goals as goal

pub returns-clause-leaves : goal.returns-clause-leaves
returns-clause-leaves c = λ m here.
    let was = card_of c.args.self.now.pass.seat.me.0 in
    let new = card_of c.trim_cell.new.pass.seat.me.0 in
    let there = c.place-at.ensures ∙ section_place c.args.words.now c.args.self.now c.requires.words (λ one. subst IsOneStep c.requires.trim.1 one) m here in
    let found : new.last ≡ c.trim_cell.result = ap (λ (z : Card). z.last) c.trim_cell.ensures.card in
    subst (λ (z : ℕ × ℕ). Writes was z.0 z.1 (if z.1 == 0x8000_0000 then 0 else z.1) new) (λ i. (there i, sym found i)) c.trim_cell.ensures.writes

pub returns-clause-unmoved : goal.returns-clause-unmoved
returns-clause-unmoved c =
    let k = c.args.words.now.layout in
    let was = card_of c.args.self.now.pass.seat.me.0 in
    let of = c.requires.words in (
      ((c.trim_cell.ensures.table ∙ of.0.0, subst (IsCardOf k) (sym c.trim_cell.ensures.card) (is_noted k was c.trim_cell.result (was.trims + 1) (card_of c.trim_cell.new.pass.seat.me.0).changes of.0.1)), (of.1.0, subst (λ d. IsInCall k d of.1.0 c.args.self.now.program) (sym c.trim_cell.ensures.card) (call_noted k was c.trim_cell.result (was.trims + 1) (card_of c.trim_cell.new.pass.seat.me.0).changes of.1.0 c.args.self.now.program of.1.1))),
      refl,
      knows_same was (card_of c.trim_cell.new.pass.seat.me.0) c.trim_cell.result (was.trims + 1) (card_of c.trim_cell.new.pass.seat.me.0).changes c.trim_cell.ensures.card,
      (λ one. subst IsOneStep c.requires.trim.1 one),
      λ m here. more_by was (card_of c.trim_cell.new.pass.seat.me.0) (cell_place k m) _ _ (ap (λ (z : Card). z.counted) c.trim_cell.ensures.card) (returns-clause-leaves c m here),
    )
