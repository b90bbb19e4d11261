-- What things are called in a picture: as in the script, or by numbers.
use Rattle.std.specs.Prelude.{◌==◌, ◌&&◌, Bool, true, length, Option, Some, None}
use Rattle.script.specs.Scope.{Scope}
use Rattle.script.specs.Reading.{condition_names}
use Rattle.verdict.specs.declared.head.Head.{Head}
use Rattle.picture.specs.Names.{Called, nameless}

-- threads, mutexes and condition variables have the names that the script declares, in the order of its lines
abbrev pub called_in : Scope → Called
called_in s = record { threads = s.threads; mutexes = s.mutexes; conditions = condition_names s }

abbrev pub called_by : Option Scope → Called
called_by None = nameless
called_by (Some s) = called_in s

-- a run of the script begins as this trace does
abbrev pub begins_so : Scope → Head → Bool
begins_so s h = length s.threads == h.threads && length s.mutexes == h.mutexes && length s.conditions == h.conditions

abbrev pub is_like : Option Scope → Head → Bool
is_like None h = true
is_like (Some s) h = begins_so s h
