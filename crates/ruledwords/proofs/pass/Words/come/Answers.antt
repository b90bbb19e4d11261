use Rattle.std.proofs.Common.{[], ◌∷◌, ◌++◌, Some, sym, subst}
use Rattle.ruledwords.specs.declared.pass.EitherPass.{EitherPass}
use Rattle.ruledwords.specs.Gathered.{HaveCome}
use Rattle.ruledwords.specs.Meetings.{card_in}
use Rattle.ruledwords.proofs.pass.Words.come.Goals as goal

pub returns-in-First : goal.returns-in-First
returns-in-First g c = λ cards come. subst (λ (p : EitherPass _ _). HaveCome c.args.self.now (cards ++ card_in p ∷ []) (Some c.joined.result)) (sym c.in-First.is) (c.joined.ensures cards come)

pub returns-in-Second : goal.returns-in-Second
returns-in-Second g c = λ cards come. subst (λ (p : EitherPass _ _). HaveCome c.args.self.now (cards ++ card_in p ∷ []) (Some c.joined-in-Second.result)) (sym c.in-Second.is) (c.joined-in-Second.ensures cards come)
