use Rattle.std.proofs.Common.{◌≡◌, ℕ, ◌+◌, refl, sym, ap, subst, arith}
use Rattle.std.proofs.lemmas.Option.{slice_get_read}
use Rattle.std.proofs.Common.{length}
use Rattle.interleave.specs.Shown.{state_of}
use Rattle.memorymap.specs.Layouts.{Layout'}
use Rattle.outcomes.specs.declared.outcome.Ended.{Ended}
use Rattle.explore_report.specs.Replays.{HasEnded}
use Rattle.explore_report.proofs.Loops.{id_is}
use Rattle.explore_report.proofs.Played.{each_all, each_more}
use Rattle.explore_report.proofs.replaying.have_ended.Goals as goal

pub returns-then-not-branch-clause-only : goal.returns-then-not-branch-clause-only
returns-then-not-branch-clause-only c = λ all.
    let same = ap (λ (l : Layout'). l.threads) c.layout.ensures.value in
    let last = c.threads-before-end.ensures.value in
    let below = c.loop-before-test.true in
    let here = c.from.ensures in
    let ended = c.index-threads-from.result in
    let thread = id_is _ _ _ _ c.new.ensures c.unwrap-thread.ensures in
    let had : HasEnded (state_of c.args.machine.now) c.args.notes.now (c.from.result + 1) ended = all c.from.result ended (slice_get_read c.args.threads.now (length c.args.threads.now) c.from.result ended refl (omega arith) c.index-threads-from.is) in
    let id : c.from.result + 1 ≡ c.unwrap-thread.result = omega (arith, thread) in
    let yes = c.in_ok-has_ended.ensures.only (subst (λ (t : ℕ). HasEnded (state_of c.args.machine.now) c.args.notes.now t ended) id had) in
    let no = c.if-not-branch.true in
    cc

pub loop-before-preserved : goal.loop-before-preserved
loop-before-preserved c =
    let same = ap (λ (l : Layout'). l.threads) c.layout.ensures.value in
    let last = c.threads-before-end.ensures.value in
    let below = c.loop-before-test.true in
    let here = c.from.ensures in
    let thread = id_is _ _ _ _ c.new.ensures c.unwrap-thread.ensures in
    let ended = c.in_ok-has_ended.ensures.so c.if-not-branch.false in
    each_more (λ (i : ℕ) (e : Ended). HasEnded (state_of c.args.machine.now) c.args.notes.now (i + 1) e) c.args.threads.now c.loop-before.before c.from.result c.index-threads-from.result here (omega arith) c.index-threads-from.is
    (subst (λ (t : ℕ). HasEnded (state_of c.args.machine.now) c.args.notes.now t c.index-threads-from.result) thread ended) c.loop-before.invariant

pub returns-clause-so : goal.returns-clause-so
returns-clause-so c = λ e.
    let same = ap (λ (l : Layout'). l.threads) c.layout.ensures.value in
    let last = c.threads-before-end.ensures.value in
    let past = c.loop-before-test.false in
    each_all (λ (i : ℕ) (e : Ended). HasEnded (state_of c.args.machine.now) c.args.notes.now (i + 1) e) c.args.threads.now c.loop-before.before (omega arith) c.loop-before.invariant
