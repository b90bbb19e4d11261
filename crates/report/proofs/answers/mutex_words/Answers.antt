use Rattle.std.proofs.Common.{◌≡◌, slice_index_or, subst, arith}
use Rattle.std.specs.Prelude.{slice_get, Some}
use Rattle.streams.proofs.Listed.{said_next, at_place}
use Rattle.report.proofs.answers.mutex_words.Goals as goal

pub loop-mutex-preserved : goal.loop-mutex-preserved
loop-mutex-preserved c =
    let cells = c.args.answers.now.cells.items in
    let lt = c.loop-mutex-test.true in
    let left : slice_get cells c.loop-mutex.mutex ≡ Some c.index.result.now = at_place cells c.loop-mutex.mutex c.index.result.now (let as_many = c.requires in let count = c.mutexes-mutexes.ensures.count in omega (arith, as_many, count, lt)) (subst (λ k. c.index.result.now ≡ slice_index_or cells k c.index.result.now) c.from.ensures c.index.ensures) in (
      said_next (λ m. m.name.now) c.args.script.now.mutexes c.loop-mutex.mutex c.loop-mutex.lines.items c.push.new.self.items _ c.mutex_name.ensures c.loop-mutex.invariant.0 c.in_ok-push.ensures.items,
      said_next (λ m. m.cell) cells c.loop-mutex.mutex c.loop-mutex.lines.items c.push.new.self.items _ left c.loop-mutex.invariant.1 c.in_ok-push.ensures.items,
    )
