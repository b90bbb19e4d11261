use Rattle.std.proofs.Common.{◌≤◌, reverse, take}
use Rattle.certificates.specs.Walks.{HasRoom, IsBehind}
use Rattle.certificates.proofs.walk.walked.Given as goal

abbrev pub invariant-loop-step : goal.invariant-loop-step
invariant-loop-step l = record {
  room : HasRoom l.walk;
  few : l.walk.lines ≤ l.step-index;
  behind : IsBehind (reverse (take l.step-index l.steps)) l.walk;
}
