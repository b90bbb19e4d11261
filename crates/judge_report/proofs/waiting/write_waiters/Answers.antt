use Rattle.std.proofs.Common.{subst}
use Rattle.std.specs.Io.KnownBytes.{Appends}
use Rattle.streams.specs.Leaves.{AppendsFront}
use Rattle.streams.proofs.Writers.{goes_on, stops_at}
use Rattle.certificates.specs.declared.waiting.Waiter.{Waiter}
use Rattle.judge_report.specs.Texts.{waiter_text}
use Rattle.judge_report.proofs.waiting.write_waiters.Goals as goal

pub returns-in_err-write_waiter : goal.returns-in_err-write_waiter
returns-in_err-write_waiter g c =
    let front = subst (λ (w : Waiter). AppendsFront (g.W.Write.contents c.loop-waiter.out) (g.W.Write.contents c.write_waiter.new.out) (waiter_text c.args.lines.now w)) c.waiter-item.is c.in_err-write_waiter.ensures in
    stops_at (waiter_text c.args.lines.now) c.args.waiters.now c.loop-waiter.waiter-index c.waiter-item.result _ _ _ c.from_residual.result c.loop-waiter-test.true c.from_residual.ensures.0 c.loop-waiter.invariant front

pub loop-waiter-preserved : goal.loop-waiter-preserved
loop-waiter-preserved g c =
    let text = subst (λ (w : Waiter). Appends (g.W.Write.contents c.loop-waiter.out) (g.W.Write.contents c.write_waiter.new.out) (waiter_text c.args.lines.now w)) c.waiter-item.is c.in_ok-write_waiter.ensures in
    goes_on (waiter_text c.args.lines.now) c.args.waiters.now c.loop-waiter.waiter-index c.waiter-item.result _ _ _ c.loop-waiter-test.true c.loop-waiter.invariant text
