use Rattle.std.proofs.Common.{arith}
use Rattle.windows.proofs.Places.{reaches_step}
use Rattle.windows.proofs.going.go.Goals as goal

pub loop-at-preserved : goal.loop-at-preserved
loop-at-preserved c =
    let i = c.loop-at.invariant in
    record {
      sound = c.take.ensures.sound;
      within = omega (arith, c.loop-at-test.true);
      here = reaches_step c.args.steps.now c.loop-at.at c.index-steps-at.result c.loop-at.state c.take.new.state (omega (arith, c.loop-at-test.true, c.requires.within)) c.index-steps-at.is i.sound i.here c.in_ok-take.ensures.takes;
    }
