use Rattle.std.proofs.Common.{sym, ◌∙◌}
use Rattle.ruledwords.proofs.ConditionTurns.{moved_to}
use Rattle.ruledwords.proofs.turn.CondRunning.target.Goals as goal

pub returns : goal.returns
returns c = moved_to c.args.words.now c.args.self.now c.requires.words c.in-CmpRequeue.to (sym c.next.ensures ∙ c.in-CmpRequeue.is) c.place.ensures
