use Rattle.ruledwords.proofs.pass.Words.found_by_walk.Given as goal

abbrev pub ghosts-mark : goal.ghosts-mark
ghosts-mark a = record { layout = a.self.now.layout }
