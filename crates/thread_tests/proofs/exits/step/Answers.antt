use Rattle.thread_tests.proofs.exits.step.Goals as goal

pub returns-in-Wake : goal.returns-in-Wake
returns-in-Wake c = c.answer.ensures.keeps c.args.words.now c.requires
