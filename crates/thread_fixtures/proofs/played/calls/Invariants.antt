use Rattle.std.specs.Prelude.{IfSome}
use Rattle.ruledwords.specs.Passes.{IsLive}
use Rattle.thread_fixtures.proofs.played.calls.Given as goal

abbrev pub invariant-loop-op : goal.invariant-loop-op
invariant-loop-op g l = IfSome l.pass (λ p. IsLive l.bench p)
