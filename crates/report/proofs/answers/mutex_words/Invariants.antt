use Rattle.std.proofs.Common.{◌≡◌, map, take}
use Rattle.report.proofs.answers.mutex_words.Given as goal

abbrev pub invariant-loop-mutex : goal.invariant-loop-mutex
invariant-loop-mutex l = (map (λ m. m.name.now) l.lines.items ≡ take l.mutex l.script.mutexes) × (map (λ m. m.cell) l.lines.items ≡ take l.mutex l.answers.cells.items)
