-- What the lines of a script say of processes, told by their words.
use Rattle.std.specs.Prelude.{ℕ, ◌≡◌, ◌+◌, List, [], ◌∷◌, length, map, codes, IfOk, if◌then◌else◌}
use Rattle.std.specs.List.{flat_map, position_or_len}
use Rattle.std.specs.Str.{bytes_eq}
use Rattle.std.specs.Str.Parse.{digits_value}
use Rattle.memorymap.specs.Layouts.{one_process}
use Rattle.lines.specs.Lines.{lines_of, words_of}
use Rattle.script.specs.Forms.{is_silent}
use Rattle.script.specs.Scope.{Scope, IsWellFormed}
use Rattle.script.specs.Reading.{script_read}
use Rattle.script.specs.Playing.{first_state}
use Rattle.script.specs.declared.command.Mode.{Mode}
use Rattle.script.specs.declared.command.Action.{Action}
use Rattle.script.specs.declared.command.Action.TheVariants as action
use Rattle.script.specs.declared.command.Command.{Command}

-- the words of a line that isn't silent
abbrev pub said : List ℕ → List (List ℕ)
said text = if is_silent text then [] else words_of text

-- `process NAME BASE`: the name, and the base
abbrev pub process_in : List (List ℕ) → List (List ℕ × ℕ)
process_in (w ∷ p ∷ b ∷ []) = if bytes_eq w (codes "process") then (p, digits_value 10 b) ∷ [] else []
process_in ws = []

-- the processes that lines declare, in their order
abbrev pub processes_in : List (List ℕ) → List (List ℕ × ℕ)
processes_in lines = flat_map (λ text. process_in (said text)) lines

-- the number of the process with this name, from 1
abbrev pub number_among : List (List ℕ × ℕ) → List ℕ → ℕ
number_among processes p = position_or_len (λ x. bytes_eq p x.0) processes + 1

-- `thread NAME` and `thread NAME PROCESS`: the number of the thread's process, 0 where the line names none
abbrev pub member_in : List (List ℕ × ℕ) → List (List ℕ) → List ℕ
member_in processes (w ∷ t ∷ []) = if bytes_eq w (codes "thread") then 0 ∷ [] else []
member_in processes (w ∷ t ∷ p ∷ []) = if bytes_eq w (codes "thread") then number_among processes p ∷ [] else []
member_in processes ws = []

-- `killall PROCESS`: the number of the process
abbrev pub killall_in : List (List ℕ × ℕ) → List (List ℕ) → List ℕ
killall_in processes (w ∷ p ∷ []) = if bytes_eq w (codes "killall") then number_among processes p ∷ [] else []
killall_in processes ws = []

-- the process that an action kills, if it kills one
abbrev pub killed_by : Action → List ℕ
killed_by (action.KillAll p) = p ∷ []
killed_by (action.Begin t o) = []
killed_by (action.Step t n) = []
killed_by (action.Kill t) = []
killed_by (action.Go t) = []
killed_by (action.Leave t) = []
killed_by (action.Decline t) = []
killed_by (action.Expire t) = []
killed_by (action.Renew t) = []
killed_by (action.Remake t m) = []
killed_by (action.Spare t) = []
killed_by (action.Call t o) = []
killed_by (action.Locks t m n) = []
killed_by action.Phase = []
killed_by (action.Die t n) = []

abbrev pub killalls_of : List Command → List ℕ
killalls_of cs = flat_map (λ c. killed_by c.action) cs

-- the machine of this script is as its lines say: process 0 has base 0, and each declared process, in the order of
-- their lines, the base that its own line gives; each thread is of the process that its own line names, and of process
-- 0 where that names none; and the processes to be killed, one command after the other, are those that the `killall`
-- lines name
pub record IsAsTold (lines : List (List ℕ)) (s : Scope) : Type 0 where
  pub bases : (first_state s).layout.bases ≡ 0 ∷ map (λ p. p.1) (processes_in lines)
  pub threads : (first_state s).layout.processes ≡ flat_map (λ text. member_in (processes_in lines) (said text)) lines
  pub killalls : killalls_of s.commands ≡ flat_map (λ text. killall_in (processes_in lines) (said text)) lines

-- of every script that is read
abbrev pub ProcessesAreAsTold : Type 0
ProcessesAreAsTold = (k : Mode) (bytes : List ℕ) → IfOk (script_read k bytes) (IsAsTold (lines_of bytes))

-- a script that declares no process is of one process, which maps the words at 0: addresses are places
abbrev pub OneProcessWithoutALine : Type 0
OneProcessWithoutALine = (s : Scope) → IsWellFormed s → s.processes ≡ []
    → (first_state s).layout ≡ one_process (length s.threads) (length s.mutexes) (map (λ c. c.1.mutex) s.conditions)
