use Rattle.ruledwords.specs.Conditions.{cond_standing, condition_at}
use Rattle.ruledwords.proofs.pass.Words.found_in_condition.Given as goal

abbrev pub ghosts-act : goal.ghosts-act
ghosts-act a = record { layout = a.self.now.layout; condition = condition_at a.self.now.layout a.program.now; standing = cond_standing a.program.now }
