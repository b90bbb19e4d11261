-- What `killall` kills.
use Rattle.std.specs.Prelude.{ℕ, ◌≡◌, ◌-◌, ◌<◌, ◌≤◌, List, length, map, slice_get, slice_index_or, Some}
use Rattle.std.specs.List.{Contains}
use Rattle.protocol.specs.declared.event.Event.{Event}
use Rattle.protocol.specs.declared.event.Event.TheVariants.{Kill}
use Rattle.protocol.specs.Machine.{run}
use Rattle.script.specs.Scope.{Scope, IsWellFormed}
use Rattle.script.specs.Playing.{first_state, events_of}
use Rattle.script.specs.declared.command.Action.TheVariants.{KillAll}

-- the script has a thread with this id, from 1, and it is of process p
abbrev pub IsMember : Scope → ℕ → ℕ → Type 0
IsMember s p t = (1 ≤ t) × (slice_get s.members (t - 1) ≡ Some p)

-- these events are kills and nothing else: of the threads of process p and no others, each once, in the order of ids
pub record KillsProcess (s : Scope) (p : ℕ) (es : List Event) : Type 0 where
  pub killed : List ℕ
  pub kills : es ≡ map Kill killed
  pub in_order : (i j : ℕ) → i < j → j < length killed → slice_index_or killed i 0 < slice_index_or killed j 0
  pub its_own : (t : ℕ) → Contains killed t → IsMember s p t
  pub all : (t : ℕ) → IsMember s p t → Contains killed t

-- whatever happened before
abbrev pub KillallKillsOneProcess : Type 0
KillallKillsOneProcess = (s : Scope) (before : List Event) (p : ℕ) → IsWellFormed s
    → KillsProcess s p (events_of (run (first_state s) before) (KillAll p))
