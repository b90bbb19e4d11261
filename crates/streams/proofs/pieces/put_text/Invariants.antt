use Rattle.std.proofs.Common.{◌≤◌, length, take}
use Rattle.std.specs.Io.KnownBytes.{Appends}
use Rattle.streams.proofs.pieces.put_text.Given as goal

abbrev pub invariant-loop : goal.invariant-loop
invariant-loop g l = (l.at ≤ length l.text) × Appends (g.W.Write.contents l.initial.out) (g.W.Write.contents l.out) (take l.at l.text)
