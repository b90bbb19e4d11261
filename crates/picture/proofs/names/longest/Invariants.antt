use Rattle.std.proofs.Common.{◌≡◌, drop, map}
use Rattle.std.specs.Prelude.{string_bytes}
use Rattle.picture.specs.Names.{longest_of}
use Rattle.picture.proofs.names.longest.Given as goal

abbrev pub invariant-loop-name : goal.invariant-loop-name
invariant-loop-name l = longest_of l.fn.most (map string_bytes l.names) ≡ longest_of l.most (map string_bytes (drop l.name-index l.names))
