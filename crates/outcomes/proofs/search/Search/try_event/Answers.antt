use Rattle.std.proofs.Common.{◌≡◌, ◌∙◌, ap, sym, subst, true, false, Option}
use Rattle.std.specs.Prelude.{MatchOption}
use Rattle.protocol.specs.Machine.{happens}
use Rattle.interleave.specs.Notes.{is_nothing}
use Rattle.outcomes.specs.declared.kept.Kept as kept
use Rattle.outcomes.specs.Positions.{Position}
use Rattle.outcomes.specs.Events.{after}
use Rattle.outcomes.specs.Kept.{position_in, IsKept}
use Rattle.outcomes.specs.Searches.{Has}
use Rattle.outcomes.proofs.Moves.{comparable}
use Rattle.outcomes.proofs.Reaching.{at_once}
use Rattle.outcomes.proofs.Storing.{as_many}
use Rattle.outcomes.proofs.search.Search.try_event.Goals as goal

pub keep-requires-clause-comparable : goal.keep-requires-clause-comparable
keep-requires-clause-comparable c = comparable c.args.plan.now c.in-Some.next (subst (λ (o : Option kept.Kept). MatchOption o (Unit {0}) (IsKept c.args.plan.now)) c.in-Some.is c.in_ok-next.ensures.kept)

pub keep-requires-clause-long : goal.keep-requires-clause-long
keep-requires-clause-long c = as_many c.args.plan.now c.in-Some.next (subst (λ (o : Option kept.Kept). MatchOption o (Unit {0}) (IsKept c.args.plan.now)) c.in-Some.is c.in_ok-next.ensures.kept)

pub returns-in-None-clause-tried : goal.returns-in-None-clause-tried
returns-in-None-clause-tried c = λ p at may.
    let plan = c.args.plan.now in
    let rs = c.args.self.now.reached.items in
    let at0 = c.requires.at in
    let p0 = position_in plan.layout c.args.kept.now in
    let e = c.args.event in
    let true0 = subst (λ (o : Option kept.Kept). MatchOption o (is_nothing (happens p0.state e).note ≡ true) (λ k. is_nothing (happens p0.state e).note ≡ false)) c.in-None.is c.in_ok-next.ensures.nothing in
    let nothing : is_nothing (happens p.state e).note ≡ true = ap (λ (z : Position). is_nothing (happens z.state e).note) (at_once plan.layout rs c.args.place p p0 at at0) ∙ true0 in
    let does = may.1 in
    cc

pub returns-then-branch-clause-reached : goal.returns-then-branch-clause-reached
returns-then-branch-clause-reached c =
    let plan = c.args.plan.now in
    let rs = c.args.self.now.reached.items in
    let at0 = c.requires.at in
    let p0 = position_in plan.layout c.args.kept.now in
    let e = c.args.event in
    let false0 = subst (λ (o : Option kept.Kept). MatchOption o (is_nothing (happens p0.state e).note ≡ true) (λ k. is_nothing (happens p0.state e).note ≡ false)) c.in-Some.is c.in_ok-next.ensures.nothing in
    let after0 = subst (λ (o : Option kept.Kept). MatchOption o (Unit {0}) (λ k. position_in plan.layout k ≡ after plan p0 e)) c.in-Some.is c.in_ok-next.ensures.after in
    let kept0 = subst (λ (o : Option kept.Kept). MatchOption o (Unit {0}) (IsKept plan)) c.in-Some.is c.in_ok-next.ensures.kept in
    c.in_ok-keep-in-Some.ensures.reached plan c.requires.reached kept0 (c.requires.place, p0, at0, (c.requires.asked p0 at0, false0), sym after0)

pub returns-else-branch-clause-reached : goal.returns-else-branch-clause-reached
returns-else-branch-clause-reached c =
    let plan = c.args.plan.now in
    let rs = c.args.self.now.reached.items in
    let at0 = c.requires.at in
    let p0 = position_in plan.layout c.args.kept.now in
    let e = c.args.event in
    let false0 = subst (λ (o : Option kept.Kept). MatchOption o (is_nothing (happens p0.state e).note ≡ true) (λ k. is_nothing (happens p0.state e).note ≡ false)) c.in-Some.is c.in_ok-next.ensures.nothing in
    let after0 = subst (λ (o : Option kept.Kept). MatchOption o (Unit {0}) (λ k. position_in plan.layout k ≡ after plan p0 e)) c.in-Some.is c.in_ok-next.ensures.after in
    let kept0 = subst (λ (o : Option kept.Kept). MatchOption o (Unit {0}) (IsKept plan)) c.in-Some.is c.in_ok-next.ensures.kept in
    c.in_ok-keep-in-Some.ensures.reached plan c.requires.reached kept0 (c.requires.place, p0, at0, (c.requires.asked p0 at0, false0), sym after0)

pub returns-then-branch-clause-tried : goal.returns-then-branch-clause-tried
returns-then-branch-clause-tried c = λ p at.
    let plan = c.args.plan.now in
    let rs = c.args.self.now.reached.items in
    let at0 = c.requires.at in
    let p0 = position_in plan.layout c.args.kept.now in
    let e = c.args.event in
    let false0 = subst (λ (o : Option kept.Kept). MatchOption o (is_nothing (happens p0.state e).note ≡ true) (λ k. is_nothing (happens p0.state e).note ≡ false)) c.in-Some.is c.in_ok-next.ensures.nothing in
    let after0 = subst (λ (o : Option kept.Kept). MatchOption o (Unit {0}) (λ k. position_in plan.layout k ≡ after plan p0 e)) c.in-Some.is c.in_ok-next.ensures.after in
    let kept0 = subst (λ (o : Option kept.Kept). MatchOption o (Unit {0}) (IsKept plan)) c.in-Some.is c.in_ok-next.ensures.kept in
    let same : p ≡ p0 = at_once plan.layout rs c.args.place p p0 at at0 in
    let does : is_nothing (happens p.state e).note ≡ false = ap (λ (z : Position). is_nothing (happens z.state e).note) same ∙ false0 in
    ((c.requires.asked p at, does), subst (λ (q : Position). Has plan.layout c.keep.new.self.reached.items q) (after0 ∙ ap (λ (z : Position). after plan z e) (sym same)) (c.in_ok-keep-in-Some.ensures.there c.if-branch.true plan c.requires.reached kept0))

pub returns-else-branch-clause-tried : goal.returns-else-branch-clause-tried
returns-else-branch-clause-tried c = λ p at.
    let plan = c.args.plan.now in
    let rs = c.args.self.now.reached.items in
    let at0 = c.requires.at in
    let p0 = position_in plan.layout c.args.kept.now in
    let e = c.args.event in
    let false0 = subst (λ (o : Option kept.Kept). MatchOption o (is_nothing (happens p0.state e).note ≡ true) (λ k. is_nothing (happens p0.state e).note ≡ false)) c.in-Some.is c.in_ok-next.ensures.nothing in
    let after0 = subst (λ (o : Option kept.Kept). MatchOption o (Unit {0}) (λ k. position_in plan.layout k ≡ after plan p0 e)) c.in-Some.is c.in_ok-next.ensures.after in
    let kept0 = subst (λ (o : Option kept.Kept). MatchOption o (Unit {0}) (IsKept plan)) c.in-Some.is c.in_ok-next.ensures.kept in
    let same : p ≡ p0 = at_once plan.layout rs c.args.place p p0 at at0 in
    let does : is_nothing (happens p.state e).note ≡ false = ap (λ (z : Position). is_nothing (happens z.state e).note) same ∙ false0 in
    ((c.requires.asked p at, does), c.in_ok-keep-in-Some.ensures.full c.if-branch.false)
