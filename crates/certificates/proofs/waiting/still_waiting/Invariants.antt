use Rattle.std.proofs.Common.{◌≡◌, reverse}
use Rattle.certificates.specs.Waiters.{waiters_to}
use Rattle.certificates.proofs.waiting.still_waiting.Given as goal

abbrev pub invariant-loop-before : goal.invariant-loop-before
invariant-loop-before l = l.found.items ≡ waiters_to l.before (reverse l.fn.steps)
