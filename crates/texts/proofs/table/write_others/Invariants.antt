use Rattle.std.proofs.Common.{◌≤◌, ◌-◌, take, drop, map}
use Rattle.std.specs.List.{concat}
use Rattle.std.specs.Io.KnownBytes.{Appends}
use Rattle.texts.specs.Tables.{comma_name}
use Rattle.texts.proofs.table.write_others.Given as goal

abbrev pub invariant-loop-place : goal.invariant-loop-place
invariant-loop-place g l = (1 ≤ l.place) × Appends (g.W.Write.contents l.initial.out) (g.W.Write.contents l.out) (concat (map (comma_name l.script.threads) (take (l.place - 1) (drop 1 l.queue))))
