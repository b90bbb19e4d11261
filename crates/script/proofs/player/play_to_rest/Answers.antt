use Rattle.std.proofs.Common.{arith, sym, ◌∙◌}
use Rattle.std.proofs.lemmas.Result.{err_from_is_err_and}
use Rattle.interleave.specs.Shown.{state_of}
use Rattle.script.proofs.Plays.{rests, rests_late, rest_more, rest_fails, begins_way}
use Rattle.script.proofs.player.play_to_rest.Goals as goal

pub loop-done-init : goal.loop-done-init
loop-done-init c = begins_way (state_of c.args.machine.now) c.args.notes.now.items c.args.thread c.requires

pub returns-then-not-is_going : goal.returns-then-not-is_going
returns-then-not-is_going c = rests (state_of c.args.machine.now) (state_of c.loop-done.machine) c.args.notes.now.items c.loop-done.notes.items c.args.thread c.loop-done._done c.loop-done.invariant (sym c.is_going.ensures ∙ c.if-not-is_going.true)

pub returns-in_err-play_event : goal.returns-in_err-play_event
returns-in_err-play_event c =
    let p = err_from_is_err_and c.from_residual.result c.from_residual.ensures.1 in
    rw (p.1, p.2) (rest_fails (state_of c.args.machine.now) (state_of c.loop-done.machine) (state_of c.play_event.new.machine) c.args.notes.now.items c.loop-done.notes.items c.play_event.new.notes.items c.args.thread c.loop-done._done c.in_err-play_event.field-0.0
    c.loop-done.invariant c.loop-done-test.true (sym c.is_going.ensures ∙ c.if-not-is_going.false) c.in_err-play_event.ensures)

pub loop-done-preserved : goal.loop-done-preserved
loop-done-preserved c = rest_more (state_of c.args.machine.now) (state_of c.loop-done.machine) (state_of c.play_event.new.machine) c.args.notes.now.items c.loop-done.notes.items c.play_event.new.notes.items c.args.thread c.loop-done._done c.loop-done.invariant c.loop-done-test.true (sym c.is_going.ensures ∙ c.if-not-is_going.false) c.in_ok-play_event.ensures

pub returns : goal.returns
returns c = rests_late (state_of c.args.machine.now) (state_of c.loop-done.machine) c.args.notes.now.items c.loop-done.notes.items c.args.thread c.loop-done._done c.loop-done.invariant (omega arith)
