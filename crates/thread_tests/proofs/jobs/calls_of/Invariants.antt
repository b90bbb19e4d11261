use Rattle.std.proofs.Common.{◌≡◌, true, All}
use Rattle.condvar.specs.Ops.{is_in}
use Rattle.ruledwords.specs.Passes.{layout_of}
use Rattle.thread_tests.proofs.jobs.calls_of.Given as goal

abbrev pub invariant-loop-call : goal.invariant-loop-call
invariant-loop-call l = All (λ c. is_in (layout_of l.bench) c ≡ true) l.all.items
