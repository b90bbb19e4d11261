use Rattle.std.proofs.Common.{rules, [], sym, ap, ◌∙◌, subst}
use mathlib.Core.Option.{none}
use Rattle.atomic_table.specs.Table.{step}
use Rattle.ruledwords.specs.declared.pass.Card.{Card}
use Rattle.ruledwords.specs.Seen.{held, AreExclusive}
use Rattle.ruledwords.specs.Passes.{IsCardOf}
use Rattle.ruledwords.specs.Rules.{met, first_of, rest_of}
use Rattle.ruledwords.proofs.Moves.{Sat}
use Rattle.ruledwords.proofs.Cards.{first_met, second_met}
use Rattle.ruledwords.proofs.Turned.{paired, is_one, at_two, parted}
use Rattle.ruledwords.proofs.Hands.{deals, gathers, meets, held_first, held_second, exclusive}
use Rattle.ruledwords.proofs.Listing.{met_stays}
use Rattle.ruledwords.proofs.pass.Words.meet.Goals as goal

pub join_seat-requires-clause-step : goal.join_seat-requires-clause-step
join_seat-requires-clause-step g c = (search rules, search rules, ap (λ (m : Sat). m.1) c.args.second.one, gathers _ _ _ _ _)

pub load-requires-clause-step : goal.load-requires-clause-step
load-requires-clause-step g c =
    let two = paired _ _ _ c.args.first.one c.args.second.one c.join_seat.ensures.2 in
    let slots = c.args.self.now.places.table.shared.table_id.slots in
    (search rules, search rules, at_two _ slots _ 0 _ _ _ (λ n. n) (met (step slots 0 0 0 none)) two (meets _ slots _ 0 _ _))

pub split_seat-mine-requires-clause-step : goal.split_seat-mine-requires-clause-step
split_seat-mine-requires-clause-step g c = (search rules, deals _ _ _)

pub invariant_of-result : goal.invariant_of-result
invariant_of-result g c =
    let two = paired _ _ _ c.args.first.one c.args.second.one c.join_seat.ensures.2 in
    let did = c.load.ensures.2 _ _ two in
    let one = is_one _ did.0 (c.split_seat-mine.ensures.4 ∙ ap (λ (m : Sat). (first_of m.0, [])) did.2) in
    record {
      one = one.0;
      own = ap (λ (z : Card). z.thread) (one.1 ∙ did.3.first) ∙ c.args.first.own;
      count = c.args.first.count ∙ sym (held_first _ _ _ _ did.3) ∙ ap held (sym one.1);
      few = c.args.first.few;
    }

pub invariant_of-result-2 : goal.invariant_of-result-2
invariant_of-result-2 g c =
    let two = paired _ _ _ c.args.first.one c.args.second.one c.join_seat.ensures.2 in
    let did = c.load.ensures.2 _ _ two in
    let one = is_one _ did.1 (c.split_seat-mine.ensures.2 ∙ ap (λ (m : Sat). (rest_of m.0, m.1)) did.2) in
    record {
      one = one.0;
      own = ap (λ (z : Card). z.thread) (one.1 ∙ did.3.second) ∙ c.args.second.own;
      count = c.args.second.count ∙ sym (held_second _ _ _ _ did.3) ∙ ap held (sym one.1);
      few = c.args.second.few;
    }

pub returns-clause-joined : goal.returns-clause-joined
returns-clause-joined g c =
    let two = paired _ _ _ c.args.first.one c.args.second.one c.join_seat.ensures.2 in
    let did = c.load.ensures.2 _ _ two in
    let one = is_one _ did.0 (c.split_seat-mine.ensures.4 ∙ ap (λ (m : Sat). (first_of m.0, [])) did.2) in
    let other = is_one _ did.1 (c.split_seat-mine.ensures.2 ∙ ap (λ (m : Sat). (rest_of m.0, m.1)) did.2) in
    parted _ _ did.0 did.1 _ _ one.1 other.1 did.3

pub returns-clause-passes : goal.returns-clause-passes
returns-clause-passes g c =
    let k = c.args.self.now.layout in
    let two = paired _ _ _ c.args.first.one c.args.second.one c.join_seat.ensures.2 in
    let did = c.load.ensures.2 _ _ two in
    let one = is_one _ did.0 (c.split_seat-mine.ensures.4 ∙ ap (λ (m : Sat). (first_of m.0, [])) did.2) in
    let other = is_one _ did.1 (c.split_seat-mine.ensures.2 ∙ ap (λ (m : Sat). (rest_of m.0, m.1)) did.2) in (
      (search rules, subst (IsCardOf k) (sym one.1) (first_met k _ _ did.0 did.1 c.requires.first.1 did.3)),
      (search rules, subst (IsCardOf k) (sym other.1) (second_met k _ _ did.0 did.1 c.requires.first.1 c.requires.second.1 did.3)),
    )

pub returns-clause-exclusive : goal.returns-clause-exclusive
returns-clause-exclusive g c =
    let two = paired _ _ _ c.args.first.one c.args.second.one c.join_seat.ensures.2 in
    let did = c.load.ensures.2 _ _ two in
    let one = is_one _ did.0 (c.split_seat-mine.ensures.4 ∙ ap (λ (m : Sat). (first_of m.0, [])) did.2) in
    let other = is_one _ did.1 (c.split_seat-mine.ensures.2 ∙ ap (λ (m : Sat). (rest_of m.0, m.1)) did.2) in
    subst (λ (z : Card × Card). AreExclusive z.0 z.1) (λ i. (sym one.1 i, sym other.1 i)) (exclusive _ _ did.0 did.1 did.3)

pub returns-clause-lists : goal.returns-clause-lists
returns-clause-lists g c =
    let k = c.args.self.now.layout in
    let two = paired _ _ _ c.args.first.one c.args.second.one c.join_seat.ensures.2 in
    let did = c.load.ensures.2 _ _ two in
    let one = is_one _ did.0 (c.split_seat-mine.ensures.4 ∙ ap (λ (m : Sat). (first_of m.0, [])) did.2) in
    let other = is_one _ did.1 (c.split_seat-mine.ensures.2 ∙ ap (λ (m : Sat). (rest_of m.0, m.1)) did.2) in
    (met_stays k _ _ did.3.seen (one.1 ∙ did.3.first) (λ p. (did.3.own p).0), met_stays k _ _ did.3.seen (other.1 ∙ did.3.second) (λ p. (did.3.own p).1))
