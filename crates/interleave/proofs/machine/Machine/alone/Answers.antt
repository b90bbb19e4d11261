use Rattle.std.specs.Prelude.{replicate}
use Rattle.std.proofs.Common.{◌≡◌, ◌&&◌, ◌+◌, suc, ◌∙◌, ap, sym, subst, arith}
use Rattle.protocol.specs.declared.event.Event.TheVariants.{Step}
use Rattle.protocol.specs.Machine.{State, happens}
use Rattle.protocol.specs.Sleepers.{alone, RunsAlone}
use Rattle.protocol.specs.Headline.{NoReapedOwns}
use Rattle.interleave.specs.Shown.{state_of}
use Rattle.interleave.specs.Notes.{is_nothing}
use Rattle.interleave.proofs.Reaches.{reached_runs_alone, reached_reaped, alone-more, alone_layout, stays_fresh}
use Rattle.interleave.proofs.machine.Machine.alone.Goals as goal

pub returns-clause-runs_alone : goal.returns-clause-runs_alone
returns-clause-runs_alone c = subst RunsAlone (sym c.loop.invariant.state) (reached_runs_alone c.args.self.now (replicate c.loop.counter (Step c.args.thread)) c.reached.ensures)

pub loop-preserved : goal.loop-preserved
loop-preserved c =
    let s = state_of c.args.self.now in
    let more : suc c.loop.counter ≡ c.loop.counter + 1 = omega arith in
    let note : is_nothing c.step.result ≡ is_nothing (happens (alone s c.args.thread c.loop.counter) (Step c.args.thread)).note =
    ap is_nothing c.step.ensures.note ∙ ap (λ (z : State). is_nothing (happens z (Step c.args.thread)).note) c.loop.invariant.state in
    record {
      state = c.step.ensures.state ∙ ap (λ (z : State). (happens z (Step c.args.thread)).state) c.loop.invariant.state ∙ sym (alone-more s c.args.thread c.loop.counter) ∙ ap (alone s c.args.thread) more;
      fresh = c.step.ensures.fresh ∙ (λ i. c.loop.invariant.fresh i && note i) ∙ stays_fresh c.args.self.now c.args.thread c.loop.counter c.reached.ensures;
    }

pub returns-clause-layout : goal.returns-clause-layout
returns-clause-layout c = alone_layout c.args.self.now c.loop.machine c.args.thread c.loop.counter c.reached.ensures c.loop.invariant.state

pub returns-clause-state : goal.returns-clause-state
returns-clause-state c =
    let all : c.loop.counter ≡ c.args.n = omega arith in
    c.loop.invariant.state ∙ ap (alone (state_of c.args.self.now) c.args.thread) all

pub returns-clause-reaped : goal.returns-clause-reaped
returns-clause-reaped c = subst NoReapedOwns (sym c.loop.invariant.state) (reached_reaped c.args.self.now (replicate c.loop.counter (Step c.args.thread)) c.reached.ensures)
