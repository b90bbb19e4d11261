use Rattle.std.proofs.Common.{◌≡◌, ◌<◌, ℕ, length, get_or}
use Rattle.memorymap.specs.Layouts.{counter_place}
use Rattle.ruledwords.specs.Passes.{last_layout, last_words}
use Rattle.report.proofs.threads.counters_of.Given as goal

abbrev pub invariant-loop-condition : goal.invariant-loop-condition
invariant-loop-condition l = (length l.counters.items ≡ l.condition) × ((q : ℕ) → q < l.condition → get_or l.counters.items q 0 ≡ get_or (last_words l.last) (counter_place (last_layout l.last) q) 0)
