use Rattle.judge.proofs.Table.{replies_are_these}
use Rattle.judge.proofs.laws.points_have_these_replies.Goals as goal

pub returns : goal.returns
returns c = replies_are_these
