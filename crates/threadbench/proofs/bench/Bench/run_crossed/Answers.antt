use Rattle.threadbench.proofs.bench.Bench.run_crossed.Goals as goal

pub run_on-requires : goal.run_on-requires
run_on-requires g c =
    let of = c.requires in
    (c.in-Goes.ensures.goes c.args.self.now of.0 of.1 of.2).0

pub returns-in-Goes-clause-runs : goal.returns-in-Goes-clause-runs
returns-in-Goes-clause-runs g c = λ a call so. c.run_on.ensures.runs.0 a call (c.in-Goes.ensures.goes c.args.self.now a call so)

pub returns-in-Lives-clause-runs : goal.returns-in-Lives-clause-runs
returns-in-Lives-clause-runs g c = λ a call so. c.in-Lives.ensures.goes c.args.self.now a call so
