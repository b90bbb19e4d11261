use Rattle.threadbench.proofs.bench.Bench.wake_dead.Goals as goal

pub returns : goal.returns
returns g c = c.answer.ensures.keeps c.args.self.now c.requires.words
