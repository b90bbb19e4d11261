use Rattle.std.proofs.Common.{arith}
use Rattle.streams.proofs.Readers.{takes_on}
use Rattle.streams.proofs.reading.read_below.Goals as goal

pub returns-in_err-part-clause-limit : goal.returns-in_err-part-clause-limit
returns-in_err-part-clause-limit g c = takes_on c.args.limit c.min-room.result _ _ _ c.loop-alloc.bytes.items c.loop-alloc.invariant.1 c.read_part.ensures.limit (omega (arith, c.min-room.ensures, c.loop-alloc.invariant.0))

pub returns-then-is_err-clause-limit : goal.returns-then-is_err-clause-limit
returns-then-is_err-clause-limit g c = takes_on c.args.limit c.min-room.result _ _ _ c.loop-alloc.bytes.items c.loop-alloc.invariant.1 c.read_part.ensures.limit (omega (arith, c.min-room.ensures, c.loop-alloc.invariant.0))
