use Rattle.verdict.proofs.checking.pass_of.Goals as goal

pub new-requires : goal.new-requires
new-requires c = c.in_ok-head.ensures.range
