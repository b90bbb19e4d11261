use Rattle.std.proofs.Common.{◌≡◌, ◌+◌, ◌<◌, length, arith}
use Rattle.script.proofs.Phases.{call_pushed}
use Rattle.script.proofs.gathering.add_call.Goals as goal

pub returns-in_ok-push : goal.returns-in_ok-push
returns-in_ok-push c =
    let same = c.as_index-index.ensures in
    let len = c.len.ensures in
    let ok = c.args.calls.now.ok in
    let j = c.as_index-index.result in
    let inside : j < length c.args.calls.now.items = omega arith in
    let its : c.in-Call.thread ≡ j + 1 = omega arith in
    λ n cs h. call_pushed n j c.in-Call.thread cs c.args.command.now c.in-Call.call c.args.calls.now.items c.index_mut.result.now c.push.new.self inside c.index_mut.ensures.value c.in_ok-push.ensures.items its c.in-Call.is h
