use Rattle.std.proofs.Common.{◌≡◌, ◌+◌, length, arith}
use Rattle.interleave.specs.Shown.{state_of}
use Rattle.texts.specs.Tables.{condition_line}
use Rattle.texts.proofs.Tables.{number_stops, number_goes_on, numbers_end}
use Rattle.texts.proofs.table.write_conditions.Goals as goal

pub returns-in_err-write_condition : goal.returns-in_err-write_condition
returns-in_err-write_condition g c =
    let count : c.conditions-condition-end.result ≡ length c.args.script.now.conditions = c.conditions-condition-end.ensures.count in
    let same : c.loop-condition.condition ≡ 0 + c.loop-condition.condition = omega arith in
    number_stops (condition_line c.args.script.now (state_of c.args.machine.now)) 0 (length c.args.script.now.conditions) c.loop-condition.condition c.loop-condition.condition
    (g.W.Write.contents c.args.out.now) (g.W.Write.contents c.loop-condition.out) (g.W.Write.contents c.write_condition.new.out) c.from_residual.result
    (omega (arith, count, c.loop-condition-test.true)) same c.from_residual.ensures.0 c.loop-condition.invariant c.in_err-write_condition.ensures

pub loop-condition-preserved : goal.loop-condition-preserved
loop-condition-preserved g c =
    let count : c.conditions-condition-end.result ≡ length c.args.script.now.conditions = c.conditions-condition-end.ensures.count in
    let same : c.loop-condition.condition ≡ 0 + c.loop-condition.condition = omega arith in
    number_goes_on (condition_line c.args.script.now (state_of c.args.machine.now)) 0 (length c.args.script.now.conditions) c.loop-condition.condition c.loop-condition.condition
    (g.W.Write.contents c.args.out.now) (g.W.Write.contents c.loop-condition.out) (g.W.Write.contents c.write_condition.new.out)
    (omega (arith, count, c.loop-condition-test.true)) same c.loop-condition.invariant c.in_ok-write_condition.ensures

pub returns : goal.returns
returns g c =
    let count : c.conditions-condition-end.result ≡ length c.args.script.now.conditions = c.conditions-condition-end.ensures.count in
    numbers_end (condition_line c.args.script.now (state_of c.args.machine.now)) 0 (length c.args.script.now.conditions) c.loop-condition.condition
    (g.W.Write.contents c.args.out.now) (g.W.Write.contents c.loop-condition.out) (omega (arith, count, c.loop-condition-test.false)) c.loop-condition.invariant
