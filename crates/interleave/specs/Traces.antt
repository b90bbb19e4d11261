-- The numbers that a trace begins with.
use Rattle.std.specs.Prelude.{◌≡◌, length}
use Rattle.memorymap.specs.Layouts.{Layout'}
use Rattle.interleave.specs.declared.trace.Trace.{Trace}

-- a trace of a machine with this layout
pub record IsOf (l : Layout') (t : Trace) : Type 0 where
  pub threads : t.threads ≡ l.threads
  pub mutexes : t.mutexes ≡ l.mutexes
  pub conditions : t.conditions ≡ length l.conditions
