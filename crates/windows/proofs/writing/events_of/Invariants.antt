use Rattle.std.proofs.Common.{◌≡◌, ◌≤◌, take}
use Rattle.windows.specs.Texts.{steps_count}
use Rattle.windows.proofs.writing.events_of.Given as goal

abbrev pub invariant-loop-step : goal.invariant-loop-step
invariant-loop-step l = record {
  count : l.events ≡ steps_count (take l.step-index l.steps);
  few : l.events ≤ l.step-index;
}
