use Rattle.std.proofs.Common.{◌≡◌, ◌+◌, length, arith}
use Rattle.interleave.specs.Shown.{state_of}
use Rattle.texts.specs.Tables.{mutex_line}
use Rattle.texts.proofs.Tables.{number_stops, number_goes_on, numbers_end}
use Rattle.texts.proofs.table.write_mutexes.Goals as goal

pub returns-in_err-write_mutex : goal.returns-in_err-write_mutex
returns-in_err-write_mutex g c =
    let count : c.mutexes-mutex-end.result ≡ length c.args.script.now.mutexes = c.mutexes-mutex-end.ensures.count in
    let same : c.loop-mutex.mutex ≡ 0 + c.loop-mutex.mutex = omega arith in
    number_stops (mutex_line c.args.script.now (state_of c.args.machine.now)) 0 (length c.args.script.now.mutexes) c.loop-mutex.mutex c.loop-mutex.mutex
    (g.W.Write.contents c.args.out.now) (g.W.Write.contents c.loop-mutex.out) (g.W.Write.contents c.write_mutex.new.out) c.from_residual.result
    (omega (arith, count, c.loop-mutex-test.true)) same c.from_residual.ensures.0 c.loop-mutex.invariant c.in_err-write_mutex.ensures

pub loop-mutex-preserved : goal.loop-mutex-preserved
loop-mutex-preserved g c =
    let count : c.mutexes-mutex-end.result ≡ length c.args.script.now.mutexes = c.mutexes-mutex-end.ensures.count in
    let same : c.loop-mutex.mutex ≡ 0 + c.loop-mutex.mutex = omega arith in
    number_goes_on (mutex_line c.args.script.now (state_of c.args.machine.now)) 0 (length c.args.script.now.mutexes) c.loop-mutex.mutex c.loop-mutex.mutex
    (g.W.Write.contents c.args.out.now) (g.W.Write.contents c.loop-mutex.out) (g.W.Write.contents c.write_mutex.new.out)
    (omega (arith, count, c.loop-mutex-test.true)) same c.loop-mutex.invariant c.in_ok-write_mutex.ensures

pub returns : goal.returns
returns g c =
    let count : c.mutexes-mutex-end.result ≡ length c.args.script.now.mutexes = c.mutexes-mutex-end.ensures.count in
    numbers_end (mutex_line c.args.script.now (state_of c.args.machine.now)) 0 (length c.args.script.now.mutexes) c.loop-mutex.mutex
    (g.W.Write.contents c.args.out.now) (g.W.Write.contents c.loop-mutex.out) (omega (arith, count, c.loop-mutex-test.false)) c.loop-mutex.invariant
