use Rattle.std.proofs.Common.{arith}
use Rattle.lines.proofs.Numerals.{not_below}
use Rattle.explain.proofs.sought.is_below.Goals as goal

pub returns-in-Err : goal.returns-in-Err
returns-in-Err c = not_below c.args.digits.now c.args.count c.in-Err.field-0 c.requires (omega arith) c.in-Err.ensures.value.0
