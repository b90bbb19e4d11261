use Rattle.std.proofs.Common.{◌≡◌, ◌≤◌, ◌-◌, true, false, length}
use Rattle.outcomes.specs.Positions.{first}
use Rattle.outcomes.specs.Outcomes.{AreWitnessed, AreDifferent}
use Rattle.outcomes.specs.Searches.{AreReached, IsAt}
use Rattle.outcomes.proofs.Closing.{IsClosed, IsRead}
use Rattle.outcomes.proofs.exploring.search_through.Given as goal

abbrev pub invariant-loop-complete : goal.invariant-loop-complete
invariant-loop-complete g l = record {
  layout : l.search.machine.layout ≡ l.plan.layout;
  limit : l.search.limit ≡ l.limit;
  reached : AreReached l.plan l.search.reached.items;
  few : length l.search.reached.items ≤ l.limit;
  done : l.done ≤ length l.search.reached.items;
  first : l.complete ≡ true → IsAt l.plan.layout l.search.reached.items 0 (first l.plan);
  closed : l.complete ≡ true → IsClosed l.plan l.search.reached.items l.done;
  read : IsRead l.plan l.search.reached.items l.done l.outcomes.items;
  sound : AreWitnessed l.plan l.outcomes.items;
  once : AreDifferent l.outcomes.items;
  full : l.complete ≡ false → length l.search.reached.items ≡ l.limit;
}

abbrev pub decreases-loop-complete : goal.decreases-loop-complete
decreases-loop-complete g l = l.limit - l.done
