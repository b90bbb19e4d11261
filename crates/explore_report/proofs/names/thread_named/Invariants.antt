use Rattle.std.proofs.Common.{◌≡◌, drop}
use Rattle.explore_report.specs.Patterns.{place_from, place_of}
use Rattle.explore_report.proofs.names.thread_named.Given as goal

abbrev pub invariant-loop-before : goal.invariant-loop-before
invariant-loop-before l = place_from l.before (drop l.before l.script.threads) l.name ≡ place_of l.script.threads l.name
