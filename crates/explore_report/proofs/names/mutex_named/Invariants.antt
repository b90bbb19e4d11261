use Rattle.std.proofs.Common.{◌≡◌, drop}
use Rattle.explore_report.specs.Patterns.{place_from, place_of}
use Rattle.explore_report.proofs.names.mutex_named.Given as goal

abbrev pub invariant-loop-mutex : goal.invariant-loop-mutex
invariant-loop-mutex l = place_from l.mutex (drop l.mutex l.script.mutexes) l.name ≡ place_of l.script.mutexes l.name
