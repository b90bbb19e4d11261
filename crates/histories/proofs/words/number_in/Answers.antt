use Rattle.std.proofs.Common.{arith}
use Rattle.histories.proofs.Numerals.{too_long}
use Rattle.histories.proofs.words.number_in.Goals as goal

pub returns-in_default-3 : goal.returns-in_default-3
returns-in_default-3 c = too_long c.args.digits.now c.args.low c.args.high c.in_default.field-0 c.requires (omega arith) (c.in_default.ensures.value.0)
