use Rattle.interleave.specs.Shown.{state_of}
use Rattle.texts.specs.Tables.{mutex_lines, condition_lines}
use Rattle.streams.proofs.Writers.{ends_at_first, then_leaves}
use Rattle.texts.proofs.table.write_objects.Goals as goal

pub returns-in_err-write_mutexes : goal.returns-in_err-write_mutexes
returns-in_err-write_mutexes g c =
    let s = state_of c.args.machine.now in
    ends_at_first _ _ c.from_residual.result (mutex_lines c.args.script.now s) (condition_lines c.args.script.now s) c.from_residual.ensures.0 c.in_err-write_mutexes.ensures

pub returns : goal.returns
returns g c =
    let s = state_of c.args.machine.now in
    then_leaves _ _ _ c.write_conditions.result (mutex_lines c.args.script.now s) (condition_lines c.args.script.now s) c.in_ok-write_mutexes.ensures c.write_conditions.ensures
