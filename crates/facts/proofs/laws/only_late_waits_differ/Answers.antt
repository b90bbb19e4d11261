use Rattle.facts.proofs.Replies.{differ}
use Rattle.facts.proofs.laws.only_late_waits_differ.Goals as goal

pub returns : goal.returns
returns c = differ
