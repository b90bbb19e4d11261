use Rattle.std.proofs.Common.{◌≡◌, ◌++◌}
use Rattle.std.specs.List.{repeat}
use Rattle.std.specs.Prelude.{string_bytes}
use Rattle.picture.proofs.pieces.fill.Given as goal

abbrev pub invariant-loop-time : goal.invariant-loop-time
invariant-loop-time l = string_bytes l.text ≡ string_bytes l.initial.text ++ repeat l._time l.piece
