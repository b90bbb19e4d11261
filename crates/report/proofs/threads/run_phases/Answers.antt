use Rattle.report.proofs.Phases.{made_next, none_made}
use Rattle.report.proofs.threads.run_phases.Goals as goal

pub loop-phase-preserved : goal.loop-phase-preserved
loop-phase-preserved g c =
    made_next c.args.bench.now c.args.phases.now c.loop-phase.phase-index c.phase-item.result c.args.workers.items c.loop-phase.workers.items c.in_ok-workers.workers.items c.loop-phase.replies.items c.pass_phase.new.replies.items c.loop-phase-test.true c.phase-item.is
    c.loop-phase.invariant c.in_ok-workers.ensures

pub loop-phase-init : goal.loop-phase-init
loop-phase-init g c = none_made c.args.bench.now c.args.workers.items c.args.replies.now.items c.requires.live c.requires.as_many c.requires.empty
