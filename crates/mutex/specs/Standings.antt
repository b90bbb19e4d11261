-- Calls in progress, as contracts see them.
use Rattle.std.specs.Prelude.{ℕ}
use Rattle.posixmutex.specs.declared.point.Operation.{Operation}
use Rattle.mutex.specs.declared.row.Row.{Row}
use Rattle.mutex.specs.declared.phase.Phase.{Phase}

-- what a call does at its mutex's cell: whose call it is, the cell's address, and where it stands
pub record Standing : Type 0 where
  pub thread : ℕ
  pub cell : ℕ
  pub row : Row

-- a whole call: whose it is and what it does to the mutex, the addresses of the thread's head and of the mutex's entry
-- and cell, and where it stands
pub record Whole : Type 0 where
  pub thread : ℕ
  pub operation : Operation
  pub head : ℕ
  pub entry : ℕ
  pub cell : ℕ
  pub phase : Phase
