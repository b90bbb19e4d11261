use Rattle.std.proofs.Common.{take, length, map}
use Rattle.std.specs.List.{concat, range_with_len}
use Rattle.std.specs.Io.KnownBytes.{Appends}
use Rattle.interleave.specs.Shown.{state_of}
use Rattle.texts.specs.Tables.{mutex_line}
use Rattle.texts.proofs.table.write_mutexes.Given as goal

abbrev pub invariant-loop-mutex : goal.invariant-loop-mutex
invariant-loop-mutex g l = Appends (g.W.Write.contents l.initial.out) (g.W.Write.contents l.out) (concat (map (mutex_line l.script (state_of l.machine)) (take l.mutex (range_with_len 0 (length l.script.mutexes)))))
