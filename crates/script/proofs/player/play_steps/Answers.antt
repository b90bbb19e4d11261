use Rattle.std.proofs.Common.{refl, sym, append-nil, arith}
use Rattle.protocol.specs.declared.event.Event.TheVariants.{Step}
use Rattle.interleave.specs.Shown.{state_of}
use Rattle.std.proofs.lemmas.Result.{err_from_is_err_and}
use Rattle.script.proofs.Plays.{steps_more, steps_fail}
use Rattle.script.proofs.player.play_steps.Goals as goal

pub loop-done-init : goal.loop-done-init
loop-done-init c = (refl, sym (append-nil c.args.notes.now.items), omega (arith, c.requires))

pub returns-in_err-play_event : goal.returns-in_err-play_event
returns-in_err-play_event c =
    let p = err_from_is_err_and c.from_residual.result c.from_residual.ensures.1 in
    rw (p.1, p.2) (steps_fail (state_of c.args.machine.now) (state_of c.loop-done.machine) (state_of c.play_event.new.machine) c.args.notes.now.items c.loop-done.notes.items c.play_event.new.notes.items c.args.count c.loop-done._done (Step c.args.thread) c.in_err-play_event.field-0.0
    c.loop-done-test.true c.loop-done.invariant c.in_err-play_event.ensures)

pub loop-done-preserved : goal.loop-done-preserved
loop-done-preserved c = steps_more (state_of c.args.machine.now) (state_of c.loop-done.machine) (state_of c.play_event.new.machine) c.args.notes.now.items c.loop-done.notes.items c.play_event.new.notes.items c.loop-done._done (Step c.args.thread) c.loop-done.invariant c.in_ok-play_event.ensures
