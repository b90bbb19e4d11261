-- Which threads a script lets die, and when.
use Rattle.std.specs.Prelude.{ℕ, ◌==◌, List, Option, Some, None, slice_get, if◌then◌else◌}
use Rattle.std.specs.List.{filter_map}
use Rattle.script.specs.declared.command.Action.{Action}
use Rattle.script.specs.declared.command.Action.TheVariants as action
use Rattle.script.specs.declared.command.Command.{Command}

-- the access, counted from 1 over all phases, before which an action lets thread t die, if it does
abbrev pub death_by : ℕ → Action → Option ℕ
death_by t (action.Die u n) = if u == t then Some n else None
death_by t (action.Begin u k) = None
death_by t (action.Step u n) = None
death_by t (action.Kill u) = None
death_by t (action.KillAll p) = None
death_by t (action.Go u) = None
death_by t (action.Leave u) = None
death_by t (action.Decline u) = None
death_by t (action.Expire u) = None
death_by t (action.Renew u) = None
death_by t (action.Remake u m) = None
death_by t (action.Spare u) = None
death_by t (action.Call u k) = None
death_by t (action.Locks u m n) = None
death_by t action.Phase = None

-- the accesses before which commands let thread t die, in the order of the commands
abbrev pub deaths_by : ℕ → List Command → List ℕ
deaths_by t cs = filter_map (λ c. death_by t c.action) cs

-- the first of them
abbrev pub death_of : ℕ → List Command → Option ℕ
death_of t cs = slice_get (deaths_by t cs) 0
