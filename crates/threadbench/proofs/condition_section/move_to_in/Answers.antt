use Rattle.threadbench.proofs.Whole.{moved_across, moves_all}
use Rattle.threadbench.proofs.condition_section.move_to_in.Goals as goal

pub returns-clause-all : goal.returns-clause-all
returns-clause-all c =
    moved_across c.args.bucket.now c.move_to.new.self c.args.other.now c.move_to.new.other c.args.key.0 c.args.to.0 c.args.moves c.move_to.result c.stands-stands.ensures.orderly (moves_all c.args.running.now c.args.expected c.args.moves c.requires.moves)
    c.move_to.ensures.changes
