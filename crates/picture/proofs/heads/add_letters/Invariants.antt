use Rattle.std.proofs.Common.{◌≡◌, ◌++◌}
use Rattle.std.specs.Prelude.{string_bytes}
use Rattle.picture.specs.Pieces.{each}
use Rattle.picture.specs.Heads.{letter}
use Rattle.picture.proofs.heads.add_letters.Given as goal

abbrev pub invariant-loop-index : goal.invariant-loop-index
invariant-loop-index l = string_bytes l.text ≡ string_bytes l.initial.text ++ each (letter l.sheet.names.now l.sheet.extent l.place) l.index
