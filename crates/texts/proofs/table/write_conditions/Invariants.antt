use Rattle.std.proofs.Common.{take, length, map}
use Rattle.std.specs.List.{concat, range_with_len}
use Rattle.std.specs.Io.KnownBytes.{Appends}
use Rattle.interleave.specs.Shown.{state_of}
use Rattle.texts.specs.Tables.{condition_line}
use Rattle.texts.proofs.table.write_conditions.Given as goal

abbrev pub invariant-loop-condition : goal.invariant-loop-condition
invariant-loop-condition g l = Appends (g.W.Write.contents l.initial.out) (g.W.Write.contents l.out) (concat (map (condition_line l.script (state_of l.machine)) (take l.condition (range_with_len 0 (length l.script.conditions)))))
