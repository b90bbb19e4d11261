use Rattle.std.proofs.Common.{◌≡◌, map}
use Rattle.std.specs.List.{range_with_len}
use Rattle.script.specs.Deaths.{death_of}
use Rattle.script.proofs.gathering.dies_of.Given as goal

abbrev pub invariant-loop-earlier : goal.invariant-loop-earlier
invariant-loop-earlier l = l.dies.items ≡ map (λ t. death_of t l.commands) (range_with_len 1 l.earlier)
