use Rattle.std.proofs.Common.{rules, suc, List, [], ◌∷◌, ◌++◌, ◌∙◌, All, Some, map, refl, sym, ap, subst, append_assoc, arith}
use Rattle.std.proofs.lemmas.List.{map-append}
use Rattle.std.specs.Vec.Iter.{into_iter_items}
use Rattle.ruledwords.specs.declared.pass.Card.{Card}
use Rattle.ruledwords.specs.Gathered.{HaveCome}
use Rattle.ruledwords.specs.Meetings.{card_in, IsEitherOf}
use Rattle.ruledwords.proofs.Gathering.{at_home}
use Rattle.ruledwords.proofs.pass.Words.together.Goals as goal

pub loop-pass-init : goal.loop-pass-init
loop-pass-init g c = (tt, tt, ([], search rules, refl), search rules)

pub come-requires-clause-seat : goal.come-requires-clause-seat
come-requires-clause-seat g c = let so_far = c.loop-pass.invariant in at_home c.args.self.now (map card_in so_far.2.0) c.loop-pass.seat so_far.2.2

pub come-requires-clause-pass : goal.come-requires-clause-pass
come-requires-clause-pass g c =
    let others = subst (All (λ p. IsEitherOf c.args.self.now p)) c.in-Some.ensures.steps.0 c.loop-pass.invariant.3 in
    others 0 c.in-Some.pass (omega arith)

pub loop-pass-preserved : goal.loop-pass-preserved
loop-pass-preserved g c =
    let so_far = c.loop-pass.invariant in
    let come = so_far.2.0 in
    let pass = c.in-Some.pass in
    let first = c.in-Some.ensures.steps in
    let others = subst (All (λ p. IsEitherOf c.args.self.now p)) first.0 so_far.3 in (
      tt,
      tt,
      (
        come ++ pass ∷ [],
        append_assoc come (pass ∷ []) (into_iter_items c.next.new.self) ∙ ap (λ rest. come ++ rest) (sym first.0) ∙ so_far.2.1,
        subst (λ (cards : List Card). HaveCome c.args.self.now cards (Some c.come.result)) (sym (map-append card_in come (pass ∷ []))) (c.come.ensures (map card_in come) so_far.2.2),
      ),
      λ k d lt. others (suc k) d (omega (arith, lt)),
    )
