use Rattle.std.proofs.Common.{rules, ◌≡◌, ◌+◌, length, arith}
use Rattle.interleave.specs.Shown.{state_of}
use Rattle.texts.specs.Tables.{thread_line}
use Rattle.texts.proofs.Tables.{number_stops, number_goes_on, numbers_end}
use Rattle.texts.proofs.table.write_threads.Goals as goal

pub returns-in_err-write_thread : goal.returns-in_err-write_thread
returns-in_err-write_thread g c =
    let count : c.threads-threads.result ≡ length c.args.script.now.threads = c.threads-threads.ensures.count in
    let same : c.unwrap-thread.result ≡ 1 + c.loop-index.index = search rules in
    number_stops (thread_line c.args.script.now.threads (state_of c.args.machine.now) c.args.notes.now) 1 (length c.args.script.now.threads) c.loop-index.index c.unwrap-thread.result
    (g.W.Write.contents c.args.out.now) (g.W.Write.contents c.loop-index.out) (g.W.Write.contents c.write_thread.new.out) c.from_residual.result
    (omega (arith, count, c.loop-index-test.true)) same c.from_residual.ensures.0 c.loop-index.invariant c.in_err-write_thread.ensures

pub loop-index-preserved : goal.loop-index-preserved
loop-index-preserved g c =
    let count : c.threads-threads.result ≡ length c.args.script.now.threads = c.threads-threads.ensures.count in
    let same : c.unwrap-thread.result ≡ 1 + c.loop-index.index = search rules in
    number_goes_on (thread_line c.args.script.now.threads (state_of c.args.machine.now) c.args.notes.now) 1 (length c.args.script.now.threads) c.loop-index.index c.unwrap-thread.result
    (g.W.Write.contents c.args.out.now) (g.W.Write.contents c.loop-index.out) (g.W.Write.contents c.write_thread.new.out)
    (omega (arith, count, c.loop-index-test.true)) same c.loop-index.invariant c.in_ok-write_thread.ensures

pub returns : goal.returns
returns g c =
    let count : c.threads-threads.result ≡ length c.args.script.now.threads = c.threads-threads.ensures.count in
    numbers_end (thread_line c.args.script.now.threads (state_of c.args.machine.now) c.args.notes.now) 1 (length c.args.script.now.threads) c.loop-index.index
    (g.W.Write.contents c.args.out.now) (g.W.Write.contents c.loop-index.out) (omega (arith, count, c.loop-index-test.false)) c.loop-index.invariant
