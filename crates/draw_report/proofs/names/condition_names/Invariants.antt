use Rattle.std.proofs.Common.{◌≡◌, map, take}
use Rattle.std.specs.Prelude.{string_bytes}
use Rattle.script.specs.Reading.{condition_names}
use Rattle.draw_report.proofs.names.condition_names.Given as goal

abbrev pub invariant-loop-condition : goal.invariant-loop-condition
invariant-loop-condition l = map string_bytes l.names.items ≡ take l.condition (condition_names l.script)
