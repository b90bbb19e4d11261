use Rattle.std.proofs.Common.{◌≡◌, ◌≤◌, length, take}
use Rattle.std.specs.Io.KnownBytes.{Consumes}
use Rattle.streams.proofs.reading.fill.Given as goal

abbrev pub invariant-loop : goal.invariant-loop
invariant-loop g l = (length l.buf ≡ length l.initial.buf) × (l.at ≤ length l.buf) × Consumes (g.R.Read.remaining l.initial.input) (g.R.Read.remaining l.input) (take l.at l.buf)
