use Rattle.std.proofs.Common.{◌≡◌, take}
use Rattle.interleave.proofs.saved.same_words.Given as goal

abbrev pub invariant-loop-place : goal.invariant-loop-place
invariant-loop-place l = l.words.items ≡ take l.place l.memory
