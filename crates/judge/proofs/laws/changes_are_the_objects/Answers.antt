use Rattle.judge.proofs.Changes.{changes_so}
use Rattle.judge.proofs.laws.changes_are_the_objects.Goals as goal

pub returns : goal.returns
returns c = changes_so
