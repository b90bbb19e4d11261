-- A script that was read, as callers see it.
use Rattle.std.specs.Prelude.{map, string_bytes}
use Rattle.script.specs.Scope.{Scope, IsWellFormed}
use Rattle.script.specs.Seen.{entries_seen}
use Rattle.script.specs.declared.parsed.Script.TheInside.{Inside}

-- what it is written for, its names as bytes, and its commands
abbrev pub contents : Inside → Scope
contents s = record {
  mode = s.mode;
  processes = entries_seen s.processes.entries;
  threads = map string_bytes s.threads.keys;
  members = s.members.items;
  mutexes = map string_bytes s.mutexes.keys;
  conditions = entries_seen s.conditions.entries;
  commands = s.commands.items;
}

abbrev pub IsWhole : Inside → Type 0
IsWhole s = IsWellFormed (contents s)
