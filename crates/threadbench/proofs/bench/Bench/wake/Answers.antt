use Rattle.threadbench.proofs.bench.Bench.wake.Goals as goal

pub returns-clause-keeps : goal.returns-clause-keeps
returns-clause-keeps g c = λ a call u. c.answer.ensures.keeps c.args.self.now a call u

pub returns-clause-decided : goal.returns-clause-decided
returns-clause-decided g c = λ m e x was. c.answer.ensures.decided c.args.self.now m e x was
