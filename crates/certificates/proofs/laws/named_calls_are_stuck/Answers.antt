use Rattle.certificates.proofs.Members.{named_are_stuck}
use Rattle.certificates.proofs.laws.named_calls_are_stuck.Goals as goal

pub returns : goal.returns
returns c = named_are_stuck
