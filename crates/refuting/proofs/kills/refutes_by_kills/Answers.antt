use Rattle.std.proofs.Common.{List, ◌+◌, subst, sym, take, arith}
use Rattle.histories.specs.declared.entry.HistoryLine.{HistoryLine}
use Rattle.refuting.specs.Kills.{IsNeverDoomed}
use Rattle.refuting.proofs.Cases.{around, tail_is}
use Rattle.refuting.proofs.kills.refutes_by_kills.Goals as goal

pub returns-then-refuted : goal.returns-then-refuted
returns-then-refuted c = λ yes.
    let n = c.args.head.now.mutexes in
    let lines = c.args.lines.now in
    let at = c.loop-at.at in
    let t = c.in-Doom.thread in
    around n at t lines c.index-lines-at.result (omega (arith, c.loop-at-test.true)) (sym c.index-lines-at.is) c.in-Doom.is
    (subst (λ (rest : List HistoryLine). IsNeverDoomed n (take at lines) t rest) (tail_is (at + 1) lines) (c.in_ok-refuted.ensures c.if-refuted.true))
