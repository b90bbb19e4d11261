use Rattle.std.proofs.Common.{◌≡◌, ◌∙◌, ap, sym, subst, ◌∷◌, []}
use Rattle.outcomes.specs.declared.exploring.Witnessed.{Witnessed}
use Rattle.outcomes.specs.Positions.{Position}
use Rattle.outcomes.specs.Outcomes.{Outcome', outcome_in, outcome_of, IsListed, AreDifferent, AreWitnessed, IsWitnessed}
use Rattle.outcomes.specs.Kept.{position_in}
use Rattle.outcomes.proofs.Listing.{listed_front, listed_last, different_more, witnessed_more}
use Rattle.outcomes.proofs.Reaching.{at_once}
use Rattle.outcomes.proofs.search.Search.witness.Goals as goal

pub returns-clause-sound : goal.returns-clause-sound
returns-clause-sound c = λ h.
    let plan = c.args.plan.now in
    let at0 = c.requires.at in
    let p0 = position_in plan.layout c.args.kept.now in
    let w : Witnessed = record { outcome = c.in_ok-outcome.outcome; events = c.in_ok-events.events } in
    let one : IsWitnessed plan w = record { end = p0; run = c.in_ok-events.ensures p0 at0; over = c.requires.over c.if-on.false p0 at0; outcome = c.in_ok-outcome.ensures } in
    subst (AreWitnessed plan) (sym c.in_ok-add.ensures) (witnessed_more plan c.args.found.now.items w h one)

pub returns-then-is_listed-clause-listed : goal.returns-then-is_listed-clause-listed
returns-then-is_listed-clause-listed c = λ off p at.
    let plan = c.args.plan.now in
    let p0 = position_in plan.layout c.args.kept.now in
    let same : outcome_in c.in_ok-outcome.outcome ≡ outcome_of plan p = c.in_ok-outcome.ensures ∙ ap (λ (z : Position). outcome_of plan z) (at_once plan.layout c.args.self.now.reached.items c.args.place p0 p c.requires.at at) in
    subst (λ (o : Outcome'). IsListed o c.args.found.now.items) same (subst (IsListed (outcome_in c.in_ok-outcome.outcome)) c.deref.ensures.value (c.is_listed.ensures.listed c.if-is_listed.true))

pub returns-clause-once : goal.returns-clause-once
returns-clause-once c = λ d.
    let w : Witnessed = record { outcome = c.in_ok-outcome.outcome; events = c.in_ok-events.events } in
    let none : IsListed (outcome_in w.outcome) c.args.found.now.items → ⊥ = (λ l. c.is_listed.ensures.new c.if-is_listed.false (subst (IsListed (outcome_in w.outcome)) (sym c.deref.ensures.value) l)) in
    subst AreDifferent (sym c.in_ok-add.ensures) (different_more c.args.found.now.items w d none)

pub returns-clause-listed : goal.returns-clause-listed
returns-clause-listed c = λ off p at.
    let plan = c.args.plan.now in
    let at0 = c.requires.at in
    let p0 = position_in plan.layout c.args.kept.now in
    let w : Witnessed = record { outcome = c.in_ok-outcome.outcome; events = c.in_ok-events.events } in
    let same : outcome_in w.outcome ≡ outcome_of plan p = c.in_ok-outcome.ensures ∙ ap (λ (z : Position). outcome_of plan z) (at_once plan.layout c.args.self.now.reached.items c.args.place p0 p at0 at) in
    subst (λ (o : Outcome'). IsListed o c.add.new.list.items) same (subst (IsListed (outcome_in w.outcome)) (sym c.in_ok-add.ensures) (listed_last c.args.found.now.items w))

pub returns-clause-keeps : goal.returns-clause-keeps
returns-clause-keeps c = λ o h.
    let w : Witnessed = record { outcome = c.in_ok-outcome.outcome; events = c.in_ok-events.events } in
    subst (IsListed o) (sym c.in_ok-add.ensures) (listed_front o c.args.found.now.items (w ∷ []) h)
