use Rattle.std.proofs.Common.{◌≡◌, map}
use Rattle.std.specs.List.{range_with_len}
use Rattle.protocol.specs.Headline.{seen}
use Rattle.outcomes.specs.Kept.{position_in}
use Rattle.outcomes.proofs.reading.seen_mutexes.Given as goal

abbrev pub invariant-loop-mutex : goal.invariant-loop-mutex
invariant-loop-mutex l = l.mutexes.items ≡ map (seen (position_in l.plan.layout l.kept).state) (range_with_len 0 l.mutex)
