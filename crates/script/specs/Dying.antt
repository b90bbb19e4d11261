-- What the lines of a script say of deaths, told by their words.
--
-- *Deaths that a script asks for.* The law `deaths_are_as_told`, by the lines' words alone: one command after the other
-- they are those of the `die` lines, each of the thread that its line names, before the access that it gives. A
-- thread's number is its place among those that `thread` lines declare, in their order.
use Rattle.std.specs.Prelude.{ℕ, ◌≡◌, ◌+◌, List, [], ◌∷◌, codes, IfOk, if◌then◌else◌}
use Rattle.std.specs.List.{flat_map, position_or_len}
use Rattle.std.specs.Str.{bytes_eq}
use Rattle.std.specs.Str.Parse.{digits_value}
use Rattle.lines.specs.Lines.{lines_of}
use Rattle.script.specs.Reading.{script_read}
use Rattle.script.specs.Processes.{said}
use Rattle.script.specs.declared.command.Mode.{Mode}
use Rattle.script.specs.declared.command.Action.{Action}
use Rattle.script.specs.declared.command.Action.TheVariants as action
use Rattle.script.specs.declared.command.Command.{Command}

-- `thread NAME` and `thread NAME PROCESS`: the name
abbrev pub thread_in : List (List ℕ) → List (List ℕ)
thread_in (w ∷ t ∷ []) = if bytes_eq w (codes "thread") then t ∷ [] else []
thread_in (w ∷ t ∷ p ∷ []) = if bytes_eq w (codes "thread") then t ∷ [] else []
thread_in ws = []

-- the threads that lines declare, in their order
abbrev pub threads_in : List (List ℕ) → List (List ℕ)
threads_in lines = flat_map (λ text. thread_in (said text)) lines

-- the number of the thread with this name, from 1
abbrev pub thread_among : List (List ℕ) → List ℕ → ℕ
thread_among names t = position_or_len (λ n. bytes_eq t n) names + 1

-- `die T N`: the number of the thread, and the access before which it dies
abbrev pub die_in : List (List ℕ) → List (List ℕ) → List (ℕ × ℕ)
die_in names (w ∷ t ∷ n ∷ []) = if bytes_eq w (codes "die") then (thread_among names t, digits_value 10 n) ∷ [] else []
die_in names ws = []

-- the thread that an action lets die, and the access, if it lets one die
abbrev pub death_asked : Action → List (ℕ × ℕ)
death_asked (action.Die t n) = (t, n) ∷ []
death_asked (action.Begin t o) = []
death_asked (action.Step t n) = []
death_asked (action.Kill t) = []
death_asked (action.KillAll p) = []
death_asked (action.Go t) = []
death_asked (action.Leave t) = []
death_asked (action.Decline t) = []
death_asked (action.Expire t) = []
death_asked (action.Renew t) = []
death_asked (action.Remake t m) = []
death_asked (action.Spare t) = []
death_asked (action.Call t o) = []
death_asked (action.Locks t m n) = []
death_asked action.Phase = []

abbrev pub deaths_asked : List Command → List (ℕ × ℕ)
deaths_asked cs = flat_map (λ c. death_asked c.action) cs

-- of every script that is read: the deaths that its commands ask for, one command after the other, are those that its
-- `die` lines say, each of the thread that the line names, before the access that it gives
abbrev pub DeathsAreAsTold : Type 0
DeathsAreAsTold = (k : Mode) (bytes : List ℕ)
    → IfOk (script_read k bytes)
    (λ s. deaths_asked s.commands
    ≡ flat_map (λ text. die_in (threads_in (lines_of bytes)) (said text)) (lines_of bytes))
