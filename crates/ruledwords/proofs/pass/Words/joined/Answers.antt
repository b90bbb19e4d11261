use Rattle.std.proofs.Common.{◌≡◌, [], ◌∷◌, ◌++◌, List, Option, IfSome, sym, ap, ◌∙◌, subst}
use Rattle.atomic_table.specs.declared.shared.Seat.{Seat}
use Rattle.ruledwords.specs.declared.pass.Card.{Card}
use Rattle.ruledwords.specs.Gathered.{HaveCome}
use Rattle.ruledwords.specs.Passes.{card}
use Rattle.ruledwords.proofs.Hands.{gathers}
use Rattle.ruledwords.proofs.Moves.{Sat}
use Rattle.ruledwords.proofs.pass.Words.joined.Goals as goal

pub join_seat-requires-clause-step : goal.join_seat-requires-clause-step
join_seat-requires-clause-step g c =
    let home = subst (λ (s : Option (Seat (Unit {0}) (List Card))). IfSome s (λ z. z.table_id ≡ c.args.self.now.places.table.shared.table_id)) c.in-Some.is c.requires.seat in
    (home, c.requires.pass.0, ap (λ (m : Sat). m.1) c.args.pass.one, gathers _ _ _ _ _)

pub returns-in-Some : goal.returns-in-Some
returns-in-Some g c = λ cards come.
    let was = subst (HaveCome c.args.self.now cards) c.in-Some.is come in (
      c.join_seat.ensures.0 ∙ was.0,
      c.join_seat.ensures.2 ∙ ap (λ (m : Sat). (m.0 ++ c.args.pass.seat.me.0, m.1)) was.1 ∙ ap (λ (m : Sat). (cards ++ m.0, [])) c.args.pass.one,
    )

pub returns-in-None : goal.returns-in-None
returns-in-None g c = λ cards come.
    let none = subst (HaveCome c.args.self.now cards) c.in-None.is come in
    (c.requires.pass.0, c.args.pass.one ∙ ap (λ (cs : List Card). (cs ++ card c.args.pass ∷ [], [])) (sym none))
