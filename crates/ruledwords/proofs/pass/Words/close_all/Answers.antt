use Rattle.std.proofs.Common.{List, map, sym, ap, subst}
use Rattle.ruledwords.specs.declared.pass.Card.{Card}
use Rattle.ruledwords.specs.Gathered.{HaveCome}
use Rattle.ruledwords.specs.Passes.{card, last_words, presets_of}
use Rattle.ruledwords.specs.Rules.{Ends}
use Rattle.ruledwords.proofs.Moves.{Sat}
use Rattle.ruledwords.proofs.pass.Words.close_all.Goals as goal

pub ended_with-requires : goal.ended_with-requires
ended_with-requires g c = (subst (HaveCome c.args.self (map (λ p. card p) c.args.passes.items)) c.in-Some.is c.gathered-seat.ensures).0

pub returns-in-Some-clause-ends : goal.returns-in-Some-clause-ends
returns-in-Some-clause-ends g c =
    let w = c.args.self in
    let come = subst (HaveCome w (map (λ p. card p) c.args.passes.items)) c.in-Some.is c.gathered-seat.ensures in
    subst (λ (cs : List Card). Ends w.layout (presets_of w) cs (last_words c.ended_with.result)) (ap (λ (m : Sat). m.0) come.1) c.ended_with.ensures.ends

pub returns-in-None-clause-ends : goal.returns-in-None-clause-ends
returns-in-None-clause-ends g c =
    let w = c.args.self in
    let none = subst (HaveCome w (map (λ p. card p) c.args.passes.items)) c.in-None.is c.gathered-seat.ensures in
    subst (λ (cs : List Card). Ends w.layout (presets_of w) cs (last_words c.ended_alone.result)) (sym none) c.ended_alone.ensures.ends
