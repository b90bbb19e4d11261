use Rattle.std.proofs.Common.{◌≤◌, ◌-◌, length}
use Rattle.std.specs.Io.KnownBytes.{Consumes}
use Rattle.streams.proofs.reading.read_below.Given as goal

abbrev pub invariant-loop-alloc : goal.invariant-loop-alloc
invariant-loop-alloc g l = (length l.bytes.items ≤ l.limit) × Consumes (g.R.Read.remaining l.initial.input) (g.R.Read.remaining l.input) l.bytes.items

abbrev pub decreases-loop-alloc : goal.decreases-loop-alloc
decreases-loop-alloc g l = l.limit - length l.bytes.items
