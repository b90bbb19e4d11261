use Rattle.std.proofs.Common.{rules}
use Rattle.std.proofs.lemmas.List.{take_rest}
use Rattle.explain.proofs.Pointing.{cut_there, none_there}
use Rattle.explain.proofs.modes.cut.Goals as goal

pub returns-in-Some-clause-parts : goal.returns-in-Some-clause-parts
returns-in-Some-clause-parts c =
    let there = cut_there c.args.at c.args.bytes.now c.in-Some.end (search rules) (search rules) (search rules) in
    rw take_rest there

pub returns-in-None-clause-parts : goal.returns-in-None-clause-parts
returns-in-None-clause-parts c = none_there c.args.at c.args.bytes.now (search rules)
