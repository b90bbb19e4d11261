use Rattle.std.proofs.Common.{◌≡◌, true, All}
use Rattle.condvar.specs.Ops.{is_in}
use Rattle.ruledwords.specs.Passes.{layout_of}
use Rattle.timings.proofs.calls.with_all.Given as goal

-- all calls so far are on what the bench has
abbrev pub invariant-loop-op : goal.invariant-loop-op
invariant-loop-op l = All (λ c. is_in (layout_of l.bench) c ≡ true) l.calls.items
