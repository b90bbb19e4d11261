use Rattle.std.proofs.Common.{[], ◌∷◌, subst}
use Rattle.protocol.specs.declared.event.Event.TheVariants.{Begin}
use Rattle.protocol.specs.Machine.{State, happens}
use Rattle.interleave.specs.Shown.{state_of}
use Rattle.script.specs.Playing.{Adds, going_on}
use Rattle.script.proofs.Plays.{then_adds}
use Rattle.script.proofs.player.play_call.Goals as goal

pub returns : goal.returns
returns c =
    let t = c.args.thread in
    let s = state_of c.args.machine.now in
    let s' = state_of c.play_event.new.machine in
    let s'' = state_of c.play_to_rest.new.machine in
    let ns = c.args.notes.now.items in
    let ns' = c.play_event.new.notes.items in
    let ns'' = c.play_to_rest.new.notes.items in
    let begun = c.in_ok-play_event.ensures in
    let rested = subst (λ (z : State). Adds s' s'' ns' ns'' (going_on z t) c.play_to_rest.result) begun.0 c.play_to_rest.ensures in
    then_adds s s' s'' ns ns' ns'' (Begin t c.args.op ∷ []) (going_on (happens s (Begin t c.args.op)).state t) c.play_to_rest.result begun rested
