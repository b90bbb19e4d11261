use Rattle.std.proofs.Common.{◌≡◌, ℕ, refl, ap, arith}
use Rattle.interleave.specs.Shown.{state_of}
use Rattle.memorymap.specs.Layouts.{Layout'}
use Rattle.posixmutex.specs.declared.object.Object.{Object}
use Rattle.protocol.specs.Headline.{seen}
use Rattle.explore_report.proofs.Played.{each_all, each_more}
use Rattle.explore_report.proofs.replaying.are_left.Goals as goal

pub loop-mutex-preserved : goal.loop-mutex-preserved
loop-mutex-preserved c =
    let same = ap (λ (l : Layout'). l.mutexes) c.layout.ensures.value in
    let last = c.mutexes-mutex-end.ensures.value in
    let below = c.loop-mutex-test.true in
    let here = c.from.ensures in
    each_more (λ (m : ℕ) (x : Object). seen (state_of c.args.machine.now) m ≡ x) c.args.mutexes.now c.loop-mutex.mutex c.from.result c.index-mutexes-from.result here (omega arith) c.index-mutexes-from.is (c.if-not-is_left.ensures.so refl) c.loop-mutex.invariant

pub returns-clause-so : goal.returns-clause-so
returns-clause-so c = λ e.
    let same = ap (λ (l : Layout'). l.mutexes) c.layout.ensures.value in
    let last = c.mutexes-mutex-end.ensures.value in
    let past = c.loop-mutex-test.false in
    each_all (λ (m : ℕ) (x : Object). seen (state_of c.args.machine.now) m ≡ x) c.args.mutexes.now c.loop-mutex.mutex (omega arith) c.loop-mutex.invariant
