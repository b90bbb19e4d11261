-- Names from scripts, as a picture has them.
--
-- *Names are plain.* Whatever a script says, what it calls threads, mutexes and condition variables has no character
-- that ends a text or begins markup: so a picture has names as they are.
use Rattle.std.specs.Prelude.{ℕ, ◌≡◌, List, All, Ok}
use Rattle.script.specs.declared.command.Mode.TheVariants.{Run}
use Rattle.script.specs.Reading.{script_read}
use Rattle.script.specs.Scope.{Scope}
use Rattle.picture.specs.Names.{Called}
use Rattle.page.specs.Escapes.{IsPlain}
use Rattle.draw_report.specs.Names.{called_in}

pub record ArePlain (n : Called) : Type 0 where
  pub threads : All (All IsPlain) n.threads
  pub mutexes : All (All IsPlain) n.mutexes
  pub conditions : All (All IsPlain) n.conditions

abbrev pub NamesArePlain : Type 0
NamesArePlain = (bytes : List ℕ) (s : Scope) → script_read Run bytes ≡ Ok s → ArePlain (called_in s)
