use Rattle.std.proofs.Common.{◌≡◌, refl, sym, ap, ◌∙◌, subst}
use Rattle.ruledwords.specs.declared.pass.Card.{Card}
use Rattle.ruledwords.specs.ConditionCalls.{IsInCondCall}
use Rattle.ruledwords.specs.Conditions.{condition_at}
use Rattle.ruledwords.specs.Looks.{noted}
use Rattle.ruledwords.specs.Passes.{IsCardOf}
use Rattle.ruledwords.specs.Rules.{card_of}
use Rattle.ruledwords.proofs.Cards.{is_noted}
use Rattle.ruledwords.proofs.ConditionTurns.{cond_noted, compared_at}
use Rattle.ruledwords.proofs.turn.CondRunning.load.Goals as goal

pub look_at_counter-requires : goal.look_at_counter-requires
look_at_counter-requires c =
    let r = c.args.self.now in
    let of = c.requires.words in
    let k = c.args.words.now.layout in
    record { table = of.0.0; place = (condition_at k r.program, of.1.on.inside, c.place-at.ensures ∙ compared_at c.args.words.now r of c.requires.section) }

pub returns-clause-unmoved : goal.returns-clause-unmoved
returns-clause-unmoved c =
    let k = c.args.words.now.layout in
    let was = card_of c.args.self.now.pass.seat.me.0 in
    let found = c.look_at_counter in
    let of = c.requires.words in (
      ((found.ensures.table ∙ of.0.0, subst (IsCardOf k) (sym found.ensures.card) (is_noted k was found.result.word was.trims was.changes of.0.1)), subst (λ d. IsInCondCall k d c.args.self.now.program) (sym found.ensures.card) (cond_noted k was found.result.word was.trims was.changes c.args.self.now.program of.1)),
      refl,
      subst (λ (z : Card). z ≡ noted was z.last z.trims was.changes) (sym found.ensures.card) refl,
    )

pub returns-clause-known : goal.returns-clause-known
returns-clause-known c = λ x e. c.look_at_counter.ensures.known x (ap (Rattle.ruledwords.specs.Cards.value_at (card_of c.args.self.now.pass.seat.me.0).values) (c.place-at.ensures ∙ compared_at c.args.words.now c.args.self.now c.requires.words c.requires.section) ∙ e)

pub returns-clause-counter : goal.returns-clause-counter
returns-clause-counter c = c.look_at_counter.ensures.place ∙ c.place-at.ensures ∙ compared_at c.args.words.now c.args.self.now c.requires.words c.requires.section
