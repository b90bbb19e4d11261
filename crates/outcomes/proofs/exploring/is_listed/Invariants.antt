use Rattle.std.proofs.Common.{take}
use Rattle.outcomes.specs.Outcomes.{IsListed, outcome_in}
use Rattle.outcomes.proofs.exploring.is_listed.Given as goal

abbrev pub invariant-loop-witnessed : goal.invariant-loop-witnessed
invariant-loop-witnessed l = IsListed (outcome_in l.outcome) (take l.witnessed-index l.found) → ⊥
