-- Outcomes of calls.
use Rattle.ruledwords.specs.declared.turn.Outcome.{Outcome}
use Rattle.ruledwords.specs.declared.turn.Outcome.TheVariants.{Lives, Dead}
use Rattle.ruledwords.specs.declared.pass.Words.{Words}
use Rattle.ruledwords.specs.Passes.{IsDying, IsLive}

-- a call of a thread of these words ended so
abbrev pub IsOutcomeOf : Words → Outcome → Type 0
IsOutcomeOf w (Lives p r) = IsLive w p
IsOutcomeOf w (Dead p) = IsDying w p
