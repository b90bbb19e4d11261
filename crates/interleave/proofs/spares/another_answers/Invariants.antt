use Rattle.std.proofs.Common.{◌≡◌, ℕ, false}
use Rattle.protocol.specs.Machine.{another_answers}
use Rattle.interleave.specs.Shown.{state_at}
use Rattle.interleave.specs.Steps.{SleepsInItsCall}
use Rattle.interleave.proofs.spares.another_answers.Given as goal

-- none of the threads so far answers
abbrev pub invariant-loop-index : goal.invariant-loop-index
invariant-loop-index l =
    ((t : ℕ) → SleepsInItsCall (state_at l.layout l.memory l.kernel l.threads.items) t)
    → another_answers (state_at l.layout l.memory l.kernel l.threads.items) l.thread l.mutex l.index ≡ false
