use Rattle.std.proofs.Common.{take, length, map}
use Rattle.std.specs.List.{concat, range_with_len}
use Rattle.std.specs.Io.KnownBytes.{Appends}
use Rattle.interleave.specs.Shown.{state_of}
use Rattle.texts.specs.Tables.{thread_line}
use Rattle.texts.proofs.table.write_threads.Given as goal

abbrev pub invariant-loop-index : goal.invariant-loop-index
invariant-loop-index g l = Appends (g.W.Write.contents l.initial.out) (g.W.Write.contents l.out) (concat (map (thread_line l.script.threads (state_of l.machine) l.notes) (take l.index (range_with_len 1 (length l.script.threads)))))
