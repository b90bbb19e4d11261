-- Names from scripts, and what a trace names.
--
-- *Names suffice.* Where a trace is drawn with a script's names, it has as many threads, mutexes and condition variables
-- as the script declares: each of its things has a name, and no name is left over.
use Rattle.std.specs.Prelude.{◌≡◌, true, Some, length}
use Rattle.script.specs.Scope.{Scope}
use Rattle.verdict.specs.declared.head.Head.{Head}
use Rattle.picture.specs.Names.{Called}
use Rattle.draw_report.specs.Names.{called_by, is_like}

pub record Suffice (n : Called) (h : Head) : Type 0 where
  pub threads : length n.threads ≡ h.threads
  pub mutexes : length n.mutexes ≡ h.mutexes
  pub conditions : length n.conditions ≡ h.conditions

abbrev pub NamesSuffice : Type 0
NamesSuffice = (s : Scope) (h : Head) → is_like (Some s) h ≡ true → Suffice (called_by (Some s)) h
