use Rattle.std.proofs.Common.{◌≡◌, true, All}
use Rattle.condvar.specs.Ops.{is_in}
use Rattle.ruledwords.specs.Passes.{layout_of}
use Rattle.timings.proofs.calls.around.Given as goal

-- all calls so far are on what the bench has
abbrev pub invariant-loop-round : goal.invariant-loop-round
invariant-loop-round l = All (λ c. is_in (layout_of l.bench) c ≡ true) l.calls.items
