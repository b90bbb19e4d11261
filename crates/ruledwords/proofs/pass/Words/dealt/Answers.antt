use Rattle.std.proofs.Common.{◌≡◌, ℕ, suc, ◌+◌, List, [], ◌∷◌, ◌++◌, All, map, take, drop, get_or, Some, sym, ap, ◌∙◌, subst, arith}
use Rattle.std.proofs.lemmas.List.{map-append, take_more}
use Rattle.std.proofs.lemmas.List.Elements.{All-push}
use Rattle.ruledwords.specs.declared.away.Away.{Away}
use Rattle.ruledwords.specs.declared.pass.Card.{Card}
use Rattle.ruledwords.specs.Aways.{kind_of, IsAt}
use Rattle.ruledwords.specs.Meetings.{card_in, is_first}
use Rattle.ruledwords.specs.Rules.{first_of, rest_of}
use Rattle.ruledwords.specs.Seen.{held}
use Rattle.ruledwords.proofs.AllMeet.{dealt_next, there}
use Rattle.ruledwords.proofs.Hands.{deals}
use Rattle.ruledwords.proofs.Moves.{Sat}
use Rattle.ruledwords.proofs.Turned.{is_one}
use Rattle.ruledwords.proofs.pass.Words.dealt.Goals as goal

pub split_seat-mine-requires-clause-step : goal.split_seat-mine-requires-clause-step
split_seat-mine-requires-clause-step g c = (c.loop-away.invariant.table, deals _ _ _)

pub back-requires-clause-one : goal.back-requires-clause-one
back-requires-clause-one g c =
    let ds : List Card = c.args.seat.me.0 in
    let i : ℕ = c.loop-away.away-index in
    let test = c.loop-away-test.true in
    let many = c.requires.as_many in
    let next = dealt_next ds i (omega (arith, test, many)) in
    (is_one _ next.0 (c.split_seat-mine.ensures.4 ∙ ap (λ (m : Sat). (first_of m.0, [])) c.loop-away.invariant.left ∙ ap (λ (l : List Card). (l, [])) next.2)).0

pub back-requires-clause-own : goal.back-requires-clause-own
back-requires-clause-own g c =
    let ds : List Card = c.args.seat.me.0 in
    let i : ℕ = c.loop-away.away-index in
    let a : Away = c.away-item.result in
    let test = c.loop-away-test.true in
    let many = c.requires.as_many in
    let next = dealt_next ds i (omega (arith, test, many)) in
    let mine = is_one _ next.0 (c.split_seat-mine.ensures.4 ∙ ap (λ (m : Sat). (first_of m.0, [])) c.loop-away.invariant.left ∙ ap (λ (l : List Card). (l, [])) next.2) in
    ap (λ (z : Card). z.thread) mine.1 ∙ (c.requires.theirs i a next.0 (there c.args.aways.now i a test ∙ ap Some (sym c.away-item.is)) next.1).0

pub back-requires-clause-count : goal.back-requires-clause-count
back-requires-clause-count g c =
    let ds : List Card = c.args.seat.me.0 in
    let i : ℕ = c.loop-away.away-index in
    let a : Away = c.away-item.result in
    let test = c.loop-away-test.true in
    let many = c.requires.as_many in
    let next = dealt_next ds i (omega (arith, test, many)) in
    let mine = is_one _ next.0 (c.split_seat-mine.ensures.4 ∙ ap (λ (m : Sat). (first_of m.0, [])) c.loop-away.invariant.left ∙ ap (λ (l : List Card). (l, [])) next.2) in
    (c.requires.theirs i a next.0 (there c.args.aways.now i a test ∙ ap Some (sym c.away-item.is)) next.1).1 ∙ ap held (sym mine.1)

pub loop-away-preserved : goal.loop-away-preserved
loop-away-preserved g c =
    let w = c.args.self.now in
    let ds : List Card = c.args.seat.me.0 in
    let i : ℕ = c.loop-away.away-index in
    let a : Away = c.away-item.result in
    let had = c.loop-away.passes.items in
    let so_far = c.loop-away.invariant in
    let test = c.loop-away-test.true in
    let many = c.requires.as_many in
    let next = dealt_next ds i (omega (arith, test, many)) in
    let mine = is_one _ next.0 (c.split_seat-mine.ensures.4 ∙ ap (λ (m : Sat). (first_of m.0, [])) so_far.left ∙ ap (λ (l : List Card). (l, [])) next.2) in
    let on : suc i ≡ i + 1 = omega arith in
    let more = c.in_ok-push.ensures.items in record {
      table = c.split_seat-mine.ensures.0 ∙ so_far.table;
      left = c.split_seat-mine.ensures.2 ∙ ap (λ (m : Sat). (rest_of m.0, m.1)) so_far.left ∙ ap (λ (l : List Card). (l, [])) next.3 ∙ ap (λ (n : ℕ). (drop n ds, [])) on;
      cards = ap (map card_in) more ∙ map-append card_in had (c.back.result ∷ []) ∙ (λ k. so_far.cards k ++ (c.back.ensures.card ∙ mine.1) k ∷ []) ∙ sym next.4 ∙ ap (λ (n : ℕ). take n ds) on;
      kinds = ap (map is_first) more ∙ map-append is_first had (c.back.result ∷ []) ∙ (λ k. so_far.kinds k ++ (c.back.ensures.kind ∙ ap kind_of c.away-item.is) k ∷ [])
          ∙ sym (ap (map kind_of) (take_more c.args.aways.now i a test) ∙ map-append kind_of (take i c.args.aways.now) (get_or c.args.aways.now i a ∷ []));
      at = subst (All (IsAt w)) (sym more) (All-push (IsAt w) had c.back.result so_far.at (c.back.ensures.words w (c.split_seat-mine.ensures.3 ∙ so_far.table)));
    }
