-- A walk in progress, as contracts see it.
use Rattle.std.specs.Prelude.{ℕ}
use Rattle.exitwalk.specs.declared.row.Row.{Row}

-- whose list it is, the address of its head, and where the walk stands
pub record Standing : Type 0 where
  pub thread : ℕ
  pub head : ℕ
  pub row : Row
