use Rattle.std.proofs.Common.{◌∙◌, ap, sym, subst, length, Some, Vec, Global}
use Rattle.outcomes.specs.declared.search.Reached.{Reached}
use Rattle.outcomes.specs.Positions.{Position}
use Rattle.outcomes.specs.Searches.{CameBy, Has}
use Rattle.outcomes.proofs.Reaching.{more_reached, last_there}
use Rattle.outcomes.proofs.Storing.{held}
use Rattle.outcomes.proofs.search.Search.keep.Goals as goal

pub returns-in-Some-clause-there : goal.returns-in-Some-clause-there
returns-in-Some-clause-there c = λ e plan are kept. (c.in-Some._number, c.in-Some.ensures plan are kept)

pub returns-clause-reached : goal.returns-clause-reached
returns-clause-reached c = λ plan are kept came.
    let one : Reached = record { stored = c.in_ok-stored.stored; digest = c.digests_of-digests.result.position; by = Some (c.args.from, c.args.event) } in
    more_reached plan c.args.self.now.reached.items c.spread.new.self.reached.items one (ap (λ (v : Vec Reached Global). v.items) c.in_ok-spread.ensures.reached ∙ c.in_ok-add.ensures) are (c.args.kept, kept, c.in_ok-stored.ensures) (subst (λ (p : Position). CameBy plan c.args.self.now.reached.items (length c.args.self.now.reached.items) (Some (c.args.from, c.args.event)) p) (sym (held plan.layout c.in_ok-stored.stored c.args.kept c.in_ok-stored.ensures)) came)

pub returns-clause-there : goal.returns-clause-there
returns-clause-there c = λ e plan are kept.
    let one : Reached = record { stored = c.in_ok-stored.stored; digest = c.digests_of-digests.result.position; by = Some (c.args.from, c.args.event) } in
    subst (λ (p : Position). Has plan.layout c.spread.new.self.reached.items p) (held plan.layout c.in_ok-stored.stored c.args.kept c.in_ok-stored.ensures)
    (last_there plan.layout c.args.self.now.reached.items c.spread.new.self.reached.items one (ap (λ (v : Vec Reached Global). v.items) c.in_ok-spread.ensures.reached ∙ c.in_ok-add.ensures))
