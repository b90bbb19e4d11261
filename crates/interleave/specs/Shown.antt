-- The machine's lists as a state.
use Rattle.std.specs.Prelude.{ℕ, zero, suc, Bool, List, slice_index, slice_index_or}
use Rattle.memorymap.specs.Layouts.{Layout'}
use Rattle.syscalls.specs.Kernels.{Kernel', queue_of}
use Rattle.protocol.specs.declared.thread.Thread.{Thread}
use Rattle.protocol.specs.Machine.{State, idle}

-- the word at each place, who sleeps on each, and each thread by its id, from 1; `fresh` where nothing has happened yet
pub record Shown : Type 0 where
  pub layout : Layout'
  pub words : List ℕ
  pub kernel : Kernel'
  pub threads : List Thread
  pub fresh : Bool

abbrev pub thread_at : List Thread → ℕ → Thread
thread_at ts zero = idle
thread_at ts (suc i) = slice_index_or ts i idle

abbrev pub state_at : Layout' → List ℕ → Kernel' → List Thread → State
state_at l ws k ts =
    record { layout = l; words = λ p. slice_index ws p; queues = λ p. queue_of k p; threads = thread_at ts }

abbrev pub state_of : Shown → State
state_of m = state_at m.layout m.words m.kernel m.threads
