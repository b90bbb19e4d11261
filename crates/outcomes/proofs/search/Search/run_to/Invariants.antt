use Rattle.std.proofs.Common.{◌<◌, length}
use Rattle.std.specs.Prelude.{reverse}
use Rattle.outcomes.specs.Positions.{Position}
use Rattle.outcomes.specs.Runs.{IsRun}
use Rattle.outcomes.specs.Searches.{IsAt}
use Rattle.outcomes.proofs.search.Search.run_to.Given as goal

-- the events so far lead from here to the place
abbrev pub invariant-loop-from : goal.invariant-loop-from
invariant-loop-from l = record {
  here : l.here < length l.self.reached.items;
  run : (q p : Position) → IsAt l.plan.layout l.self.reached.items l.here q → IsAt l.plan.layout l.self.reached.items l.place p → IsRun l.plan q (reverse l.events.items) p;
}

abbrev pub decreases-loop-from : goal.decreases-loop-from
decreases-loop-from l = l.here
