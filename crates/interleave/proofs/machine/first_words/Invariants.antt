use Rattle.std.proofs.Common.{◌≡◌, ◌≤◌, map}
use Rattle.std.specs.List.{range_with_len}
use Rattle.memorymap.specs.Layouts.{words_of, first_word}
use Rattle.interleave.proofs.machine.first_words.Given as goal

abbrev pub invariant-loop-place : goal.invariant-loop-place
invariant-loop-place l = (l.place ≤ words_of l.layout) × (l.words.items ≡ map (first_word l.layout (λ c. 0)) (range_with_len 0 l.place))
