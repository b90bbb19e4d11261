use Rattle.std.proofs.Common.{◌<◌, ◌≤◌, ◌+◌, length, sym, subst, arith}
use Rattle.refuting.proofs.Retelling.{Retelling, all_told, refused, retelling}
use Rattle.refuting.proofs.refuter.retold.Goals as goal
use Rattle.refuting.proofs.refuter.retold.Goals.{in-Some+in_ok-add, in_default}

pub loop-state-preserved : goal.loop-state-preserved
loop-state-preserved c =
    let m = c.args.mutex in
    let turn = c.args.turn in
    let ts = c.args.turns.now in
    let e = c.args.entry.now in
    let ss = c.args.states.now in
    let s = c.state-item.result in
    let at = c.loop-state.state-index in
    let rs = c.loop-state.after.items in
    let lt : at < length ss = omega (arith, c.loop-state-test.true) in
    elim c.match-told.branch [
      | in-Some+in_ok-add w ↦ subst (λ v. Retelling m turn ts e ss v.items (at + 1)) (sym w.after-is) (retelling m turn ts e ss rs w.add.new.states.items s s w.in-Some.told w.noted.result at c.loop-state.invariant lt (sym c.state-item.is) w.in-Some.ensures.1 w.noted.ensures.covers w.noted.ensures.notes w.in_ok-add.ensures.grows w.in_ok-add.ensures.covered)
      | in_default w ↦ subst (λ v. Retelling m turn ts e ss v.items (at + 1)) (sym w.after-is) (refused m turn ts e ss rs s s at c.loop-state.invariant lt (sym c.state-item.is) w.in_default.ensures)
    ]

pub returns-clause-retells : goal.returns-clause-retells
returns-clause-retells c =
    let le : length c.args.states.now ≤ c.loop-state.state-index = omega (arith, c.loop-state-test.false) in
    all_told c.args.mutex c.args.turn c.args.turns.now c.args.entry.now c.args.states.now c.loop-state.after.items c.close.new.states.items c.loop-state.state-index c.loop-state.invariant le c.in_ok-close.ensures.grows
