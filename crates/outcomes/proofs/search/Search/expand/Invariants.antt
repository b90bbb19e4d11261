use Rattle.std.proofs.Common.{◌≡◌, ◌≤◌, length}
use Rattle.outcomes.specs.Positions.{Position}
use Rattle.outcomes.specs.Searches.{AreReached, AreThreads, Grows, IsAt}
use Rattle.outcomes.proofs.search.Search.expand.Given as goal

abbrev pub invariant-loop-before : goal.invariant-loop-before
invariant-loop-before l = record {
  layout : l.self.machine.layout ≡ l.plan.layout;
  limit : l.self.limit ≡ l.initial.self.limit;
  reached : AreReached l.plan l.self.reached.items;
  few : length l.self.reached.items ≤ l.self.limit;
  grows : Grows l.initial.self.reached.items l.self.reached.items;
  tried : (p : Position) → IsAt l.plan.layout l.initial.self.reached.items l.place p → AreThreads l.plan p l.initial.self.limit l.self.reached.items l.before l.on l.room;
}
