use Rattle.std.proofs.Common.{◌≡◌, drop}
use Rattle.outcomes.specs.Plans.{next_among}
use Rattle.outcomes.proofs.next.next_among.Given as goal

-- the items that were passed are skipped
abbrev pub invariant-loop-index : goal.invariant-loop-index
invariant-loop-index l = next_among l.last l.at (drop l.at l.items) ≡ next_among l.last l.index (drop l.index l.items)
