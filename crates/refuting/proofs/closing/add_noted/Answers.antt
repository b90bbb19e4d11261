use Rattle.std.proofs.lemmas.Result.{IfOk-weaker}
use Rattle.refuting.proofs.Growing.{covered_some, noted_more}
use Rattle.refuting.proofs.closing.add_noted.Goals as goal

pub returns-in-Some-clause-covered : goal.returns-in-Some-clause-covered
returns-in-Some-clause-covered c =
    IfOk-weaker c.add.result _ _ (λ x covered. covered_some c.args.after c.add.new.states.items c.in-Some.state c.noted.result c.in-Some.is c.noted.ensures.covers covered) c.add.ensures.covered

pub returns-in-Some-clause-noted : goal.returns-in-Some-clause-noted
returns-in-Some-clause-noted c = noted_more c.args.mutex c.args.turns.now c.args.states.now.items c.add.new.states.items c.noted.result c.requires c.noted.ensures.notes c.add.ensures.grows
