use Rattle.std.proofs.Common.{rules, ◌≡◌, List, length, map, sym, ap, ◌∙◌, subst}
use Rattle.ruledwords.specs.declared.pass.Card.{Card}
use Rattle.ruledwords.specs.declared.pass.EitherPass.{EitherPass}
use Rattle.ruledwords.specs.declared.away.Away.{Away}
use Rattle.ruledwords.specs.Aways.{away_of, AreTheirs}
use Rattle.ruledwords.specs.Gathered.{HaveCome}
use Rattle.ruledwords.specs.Meetings.{card_in, HaveMet, KnowAll}
use Rattle.ruledwords.proofs.AllMeet.{at_all, theirs, as_many, met_if, none_met}
use Rattle.ruledwords.proofs.Moves.{Sat}
use Rattle.ruledwords.proofs.pass.Words.meet_all.Goals as goal

pub load-requires-clause-step : goal.load-requires-clause-step
load-requires-clause-step g c =
    let w = c.args.self.now in
    let cards : List Card = map card_in c.args.passes.items in
    let come = subst (HaveCome w cards) c.in-Some.is c.together.ensures in
    let slots = w.places.table.shared.table_id.slots in
    (come.0, search rules, at_all _ slots _ 0 _ cards come.1)

pub dealt-requires-clause-table : goal.dealt-requires-clause-table
dealt-requires-clause-table g c =
    let come = subst (HaveCome c.args.self.now (map card_in c.args.passes.items)) c.in-Some.is c.together.ensures in
    c.load.ensures.0 ∙ come.0

pub dealt-requires-clause-none : goal.dealt-requires-clause-none
dealt-requires-clause-none g c =
    let come = subst (HaveCome c.args.self.now (map card_in c.args.passes.items)) c.in-Some.is c.together.ensures in
    let did = c.load.ensures.2 (map card_in c.args.passes.items) come.1 in
    ap (λ (m : Sat). m.1) did.1

pub dealt-requires-clause-as_many : goal.dealt-requires-clause-as_many
dealt-requires-clause-as_many g c =
    let ps = c.args.passes.items in
    let come = subst (HaveCome c.args.self.now (map card_in ps)) c.in-Some.is c.together.ensures in
    let did = c.load.ensures.2 (map card_in ps) come.1 in
    let left : c.as_slice-in-Some.result.now ≡ map away_of ps = c.as_slice-in-Some.ensures.value ∙ c.in_ok-aways.ensures ∙ ap (map away_of) c.as_slice.ensures.value in
    ap (λ (m : Sat). length m.0) did.1 ∙ as_many ps did.0 did.2 ∙ sym (ap length left)

pub dealt-requires-clause-theirs : goal.dealt-requires-clause-theirs
dealt-requires-clause-theirs g c =
    let ps = c.args.passes.items in
    let come = subst (HaveCome c.args.self.now (map card_in ps)) c.in-Some.is c.together.ensures in
    let did = c.load.ensures.2 (map card_in ps) come.1 in
    let left : c.as_slice-in-Some.result.now ≡ map away_of ps = c.as_slice-in-Some.ensures.value ∙ c.in_ok-aways.ensures ∙ ap (map away_of) c.as_slice.ensures.value in
    subst (λ (z : List Away × List Card). AreTheirs z.0 z.1) (λ i. (sym left i, (sym did.1 i).0)) (theirs ps did.0 did.2)

pub returns-in-Some : goal.returns-in-Some
returns-in-Some g c =
    let ps = c.args.passes.items in
    let come = subst (HaveCome c.args.self.now (map card_in ps)) c.in-Some.is c.together.ensures in
    let did = c.load.ensures.2 (map card_in ps) come.1 in
    let left : c.as_slice-in-Some.result.now ≡ map away_of ps = c.as_slice-in-Some.ensures.value ∙ c.in_ok-aways.ensures ∙ ap (map away_of) c.as_slice.ensures.value in
    met_if c.args.self.now ps c.as_slice-in-Some.result.now c.load.new.seat.me.0 c.dealt.result c.requires (subst (KnowAll (map card_in ps)) (ap (λ (m : Sat). m.0) (sym did.1)) did.2) left c.dealt.ensures.cards c.dealt.ensures.kinds c.dealt.ensures.words

pub returns : goal.returns
returns g c = subst (λ (qs : List (EitherPass _ _)). HaveMet c.args.self.now c.args.passes.items qs) (sym c.new.ensures.items) (none_met c.args.self.now c.args.passes.items c.in-None.ensures)
