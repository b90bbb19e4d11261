use Rattle.threadbench.proofs.Whole.{moved_inside, moves_all}
use Rattle.threadbench.proofs.condition_section.move_within_in.Goals as goal

pub returns-clause-all : goal.returns-clause-all
returns-clause-all c = moved_inside c.args.bucket.now c.move_within.new.self c.args.key.0 c.args.to.0 c.args.moves c.move_within.result c.stands-stands.ensures.orderly (moves_all c.args.running.now c.args.expected c.args.moves c.requires.moves) c.move_within.ensures.changes
