-- Threads that don't own the mutex.
use Rattle.ruledwords.specs.declared.pass.Words.{Words}
use Rattle.ruledwords.specs.Passes.{IsLive, IsPassOf}
use Rattle.example_recovery.specs.declared.guard.NotOwned.{NotOwned}
use Rattle.example_recovery.specs.declared.guard.NotOwned.TheVariants.{Refused, Killed}

-- its pass is one of these words
abbrev pub IsNotOwnedOf : Words → NotOwned → Type 0
IsNotOwnedOf w (Refused p r) = IsLive w p
IsNotOwnedOf w (Killed p) = IsPassOf w p
