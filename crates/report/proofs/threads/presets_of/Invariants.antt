use Rattle.std.proofs.Common.{◌≡◌, take}
use Rattle.script.specs.Playing.{counters_of}
use Rattle.report.proofs.threads.presets_of.Given as goal

abbrev pub invariant-loop-condition : goal.invariant-loop-condition
invariant-loop-condition l = l.counters.items ≡ take l.condition (counters_of l.script)
