-- Calls in progress, as contracts see them.
use Rattle.std.specs.Prelude.{ℕ}
use Rattle.condvar.specs.declared.phase.CondPhase.{CondPhase}

-- a whole call: whose it is, the addresses of the thread's head, of the mutex's entry and cell and of the counter, and
-- where it stands
pub record CondWhole : Type 0 where
  pub thread : ℕ
  pub head : ℕ
  pub entry : ℕ
  pub cell : ℕ
  pub counter : ℕ
  pub phase : CondPhase
