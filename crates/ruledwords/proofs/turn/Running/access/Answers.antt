use Rattle.ruledwords.specs.Turns.{IsCallOf}
use Rattle.ruledwords.proofs.turn.Running.access.Goals as goal

pub invariant_of-result : goal.invariant_of-result
invariant_of-result c =
    let r = c.args.self in
    let of : IsCallOf c.args.words.now r.pass r.program = record { ready = r.ready; room = r.room; going = r.going; words = c.requires.words } in
    let on = (c.in-None.ensures of).0 in
    record { ready = on.ready; room = on.room; going = on.going }

pub returns-in-None : goal.returns-in-None
returns-in-None c =
    let r = c.args.self in
    let of : IsCallOf c.args.words.now r.pass r.program = record { ready = r.ready; room = r.room; going = r.going; words = c.requires.words } in
    let came = (c.in-None.ensures of).1 in
    record { words = came.0; turned = came.1; keeps = came.2; decided = came.3 }

pub returns-in-Some : goal.returns-in-Some
returns-in-Some c =
    let r = c.args.self in
    let of : IsCallOf c.args.words.now r.pass r.program = record { ready = r.ready; room = r.room; going = r.going; words = c.requires.words } in
    let came = c.in-Some.ensures of in
    record { words = came.0; turned = came.1; keeps = came.2; decided = came.3 }
