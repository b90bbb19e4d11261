use Rattle.threadbench.proofs.Waiting.{comes_still, stays_answered}
use Rattle.threadbench.proofs.bench.Bench.move_sleepers.Goals as goal

pub returns-in-Some : goal.returns-in-Some
returns-in-Some g c =
    let w = c.args.self.now in
    let r = c.move_under_locks-moved.new.running in
    let same = c.move_under_locks-moved.ensures in
    record { comes = comes_still w c.args.running r c.answer.result same (c.answer.ensures.words w same.0) (c.answer.ensures.keeps w) (stays_answered w c.args.running r _ c.answer.result same c.answer.ensures.onward) }

pub returns-in-None : goal.returns-in-None
returns-in-None g c =
    let w = c.args.self.now in
    let r = c.move_under_locks-moved.new.running in
    let same = c.move_under_locks-moved.ensures in
    record { comes = comes_still w c.args.running r c.answer-in-None.result same (c.answer-in-None.ensures.words w same.0) (c.answer-in-None.ensures.keeps w) (stays_answered w c.args.running r _ c.answer-in-None.result same c.answer-in-None.ensures.onward) }
