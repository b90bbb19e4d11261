use Rattle.std.proofs.Common.{refl, sym, ◌∙◌, inl, inr}
use Rattle.verdict.proofs.Passing.{counted, missed, none_of, judges}
use Rattle.verdict.proofs.checking.Pass.take.Goals as goal

pub returns-then-is_point-clause-takes : goal.returns-then-is_point-clause-takes
returns-then-is_point-clause-takes c =
    let none = none_of c.args.self.now.illegal (sym c.is_some.ensures ∙ c.if-is_some.false) in
    judges c.args.self.now c.args.line c.args.entry.now _ none (inl (c.in_default.ensures.accepts, c.in_default.ensures.moves, none, counted _ c.args.self.now.points (sym c.is_point.ensures ∙ c.if-is_point.true)))

pub returns-else-is_point-clause-takes : goal.returns-else-is_point-clause-takes
returns-else-is_point-clause-takes c =
    let none = none_of c.args.self.now.illegal (sym c.is_some.ensures ∙ c.if-is_some.false) in
    judges c.args.self.now c.args.line c.args.entry.now _ none (inl (c.in_default.ensures.accepts, c.in_default.ensures.moves, none, missed _ c.args.self.now.points (sym c.is_point.ensures ∙ c.if-is_point.false)))

pub returns-in-Err-clause-takes : goal.returns-in-Err-clause-takes
returns-in-Err-clause-takes c =
    let none = none_of c.args.self.now.illegal (sym c.is_some.ensures ∙ c.if-is_some.false) in
    judges c.args.self.now c.args.line c.args.entry.now _ none (inr (c.in-Err.misfit, c.in-Err.ensures.rejects, refl))
