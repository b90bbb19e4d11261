use Rattle.std.proofs.Common.{◌≡◌, ℕ, [], subst, arith}
use Rattle.script.specs.Jobs.{AreCalls, lists_seen}
use Rattle.script.proofs.Phases.{none_yet, none_pushed}
use Rattle.script.proofs.gathering.no_calls.Goals as goal

pub loop-thread-init : goal.loop-thread-init
loop-thread-init c = rw c.new-calls.ensures.items none_yet

pub loop-thread-preserved : goal.loop-thread-preserved
loop-thread-preserved c = rw c.in_ok-push.ensures.items (none_pushed c.loop-thread._thread c.loop-thread.calls.items c.new.result c.new.ensures.items c.loop-thread.invariant)

pub returns : goal.returns
returns c =
    let all : c.loop-thread._thread ≡ c.args.threads = omega arith in
    subst (λ (n : ℕ). AreCalls n [] (lists_seen c.loop-thread.calls.items)) all c.loop-thread.invariant
