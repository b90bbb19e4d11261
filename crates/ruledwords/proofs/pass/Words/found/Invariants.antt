use Rattle.ruledwords.specs.Calls.{standing_of}
use Rattle.ruledwords.proofs.pass.Words.found.Given as goal

abbrev pub ghosts-make : goal.ghosts-make
ghosts-make a = record { program = standing_of a.program.now; layout = a.self.now.layout }
