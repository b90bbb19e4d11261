use Rattle.std.proofs.Common.{◌≡◌, map, take}
use Rattle.report.proofs.answers.condition_words.Given as goal

abbrev pub invariant-loop-condition : goal.invariant-loop-condition
invariant-loop-condition l = (map (λ c. c.name.now) l.lines.items ≡ take l.condition (map (λ c. c.0) l.script.conditions)) × (map (λ c. c.counter) l.lines.items ≡ take l.condition l.answers.counters.items)
