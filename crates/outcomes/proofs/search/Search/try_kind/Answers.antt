use Rattle.std.proofs.Common.{◌≡◌, ◌∙◌, ap, sym, subst, Some, None, ℕ}
use Rattle.outcomes.specs.Positions.{Position}
use Rattle.outcomes.specs.Events.{IsAsked}
use Rattle.outcomes.specs.Kept.{position_in}
use Rattle.outcomes.specs.Searches.{IsAt}
use Rattle.outcomes.specs.declared.search.Tried.{Tried}
use Rattle.outcomes.specs.Searches.{event_for, IsTried, IsTriedOf}
use Rattle.outcomes.proofs.Asking.{found_asked, asked_found}
use Rattle.outcomes.proofs.Trying.{if_ok_map, tried_of}
use Rattle.outcomes.proofs.Reaching.{at_once}
use Rattle.outcomes.proofs.search.Search.try_kind.Goals as goal

pub event_of-requires-clause-threads : goal.event_of-requires-clause-threads
event_of-requires-clause-threads c = c.requires.kept.saved.threads

pub try_event-requires-clause-asked : goal.try_event-requires-clause-asked
try_event-requires-clause-asked c = λ p at.
    let plan = c.args.plan.now in
    let rs = c.args.self.now.reached.items in
    let at0 = c.requires.at in
    let p0 = position_in plan.layout c.args.kept.now in
    subst (λ (z : Position). IsAsked plan z c.in-Some.event) (sym (at_once plan.layout rs c.args.place p p0 at at0)) (found_asked plan p0 c.args.kind c.args.thread c.in-Some.event (sym c.event_of.ensures ∙ c.in-Some.is)).0

pub returns-in-None-clause-tried : goal.returns-in-None-clause-tried
returns-in-None-clause-tried c = λ p at e of whose may.
    let plan = c.args.plan.now in
    let rs = c.args.self.now.reached.items in
    let at0 = c.requires.at in
    let p0 = position_in plan.layout c.args.kept.now in
    let same : p ≡ p0 = at_once plan.layout rs c.args.place p p0 at at0 in
    let asked : IsAsked plan p0 e = subst (λ (z : Position). IsAsked plan z e) same may.0 in
    let found : event_for plan p0 c.args.kind c.args.thread ≡ Some e = subst (λ (t : ℕ). event_for plan p0 c.args.kind t ≡ Some e) whose (asked_found plan p0 c.args.kind e asked of) in
    let none : event_for plan p0 c.args.kind c.args.thread ≡ None = sym c.event_of.ensures ∙ c.in-None.is in
    cc

pub returns-in-Some-clause-tried : goal.returns-in-Some-clause-tried
returns-in-Some-clause-tried c =
    let plan = c.args.plan.now in
    let rs = c.args.self.now.reached.items in
    let at0 = c.requires.at in
    let p0 = position_in plan.layout c.args.kept.now in
    if_ok_map c.try_event.result
    (λ (t : Tried). (p : Position) → IsAt plan.layout rs c.args.place p → IsTried plan p c.args.self.now.limit c.try_event.new.self.reached.items c.in-Some.event t)
    (λ (t : Tried). (p : Position) → IsAt plan.layout rs c.args.place p → IsTriedOf plan p c.args.self.now.limit c.try_event.new.self.reached.items c.args.kind c.args.thread t)
    (λ t tried p at.
    let same : p ≡ p0 = at_once plan.layout rs c.args.place p p0 at at0 in
    tried_of plan p c.args.self.now.limit c.try_event.new.self.reached.items c.args.kind c.args.thread c.in-Some.event (ap (λ (z : Position). event_for plan z c.args.kind c.args.thread) same ∙ sym c.event_of.ensures ∙ c.in-Some.is) t (tried p at))
    c.try_event.ensures.tried
