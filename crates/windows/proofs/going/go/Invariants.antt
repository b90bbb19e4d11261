use Rattle.std.proofs.Common.{◌≤◌}
use Rattle.certificates.specs.States.{IsSound}
use Rattle.windows.specs.Places.{Reaches, told}
use Rattle.windows.proofs.going.go.Given as goal

abbrev pub invariant-loop-at : goal.invariant-loop-at
invariant-loop-at l = record {
  sound : IsSound l.state;
  within : l.at ≤ l.to;
  here : Reaches l.state (told l.at l.steps);
}
