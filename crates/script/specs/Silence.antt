-- Silent lines say nothing.
use Rattle.std.specs.Prelude.{ℕ, ◌≡◌, ◌+◌, ◌<◌, true, List, ◌∷◌, ◌++◌, length, map, Result, Ok, Err}
use Rattle.script.specs.Forms.{is_silent}
use Rattle.script.specs.Scope.{Scope}
use Rattle.script.specs.Reading.{lines_read, nothing}
use Rattle.script.specs.declared.command.Command.{Command}
use Rattle.script.specs.declared.command.Mode.{Mode}
use Rattle.script.specs.declared.fault.Fault.{Fault}
use Rattle.script.specs.declared.fault.ScriptFault.{ScriptFault}
use Rattle.script.specs.Limits.{max_lines}

-- a command with its line left out
abbrev pub unplaced : Command → Command
unplaced c = record c { line = 0 }

-- a script with its lines left out
abbrev pub without_lines : Scope → Scope
without_lines s = record s { commands = map unplaced s.commands }

-- what was read, or why it was refused, with the lines left out
abbrev pub outcome : Result Scope ScriptFault → Result Scope Fault
outcome (Ok s) = Ok (without_lines s)
outcome (Err e) = Err e.fault

-- where there are fewer lines than may be, an empty line or a comment may be left out: the names and the commands
-- stay, or the fault; something stands after the line, if only the empty end of the text
abbrev pub SilentLinesSayNothing : Type 0
SilentLinesSayNothing = (k : Mode) (before after : List (List ℕ)) (line : List ℕ) →
    is_silent line ≡ true → 0 < length after → length before + length after < max_lines
    → outcome (lines_read 1 (nothing k) (before ++ line ∷ after)) ≡ outcome (lines_read 1 (nothing k) (before ++ after))
