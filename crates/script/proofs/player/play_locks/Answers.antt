use Rattle.std.proofs.Common.{arith}
use Rattle.std.proofs.lemmas.Result.{err_from_is_err_and}
use Rattle.interleave.specs.Shown.{state_of}
use Rattle.script.proofs.Plays.{locks_first, locks_room, locks_next, locks_fail, locks_last}
use Rattle.script.proofs.player.play_locks.Goals as goal

pub loop-next-init : goal.loop-next-init
loop-next-init c = locks_first (state_of c.args.machine.now) c.args.notes.now.items c.args.thread c.args.mutex c.args.count c.requires.few

pub play_call-requires : goal.play_call-requires
play_call-requires c = locks_room (state_of c.args.machine.now) (state_of c.loop-next.machine) c.args.notes.now.items c.loop-next.notes.items c.args.thread c.args.mutex c.args.count c.loop-next.next c.loop-next.invariant

pub returns-in_err-play_call : goal.returns-in_err-play_call
returns-in_err-play_call c =
    let p = err_from_is_err_and c.from_residual.result c.from_residual.ensures.1 in
    rw (p.1, p.2) (locks_fail (state_of c.args.machine.now) (state_of c.loop-next.machine) (state_of c.play_call.new.machine) c.args.notes.now.items c.loop-next.notes.items c.play_call.new.notes.items c.args.thread c.args.mutex c.args.count c.loop-next.next c.in_err-play_call.field-0.0
    c.loop-next.invariant c.loop-next-test.true c.in_err-play_call.ensures)

pub loop-next-preserved : goal.loop-next-preserved
loop-next-preserved c = locks_next (state_of c.args.machine.now) (state_of c.loop-next.machine) (state_of c.play_call.new.machine) c.args.notes.now.items c.loop-next.notes.items c.play_call.new.notes.items c.args.thread c.args.mutex c.args.count c.loop-next.next c.loop-next.invariant c.loop-next-test.true c.in_ok-play_call.ensures

pub returns : goal.returns
returns c = locks_last (state_of c.args.machine.now) (state_of c.loop-next.machine) c.args.notes.now.items c.loop-next.notes.items c.args.thread c.args.mutex c.args.count c.loop-next.next c.loop-next.invariant (omega arith)
