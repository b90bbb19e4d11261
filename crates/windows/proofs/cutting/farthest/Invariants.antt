use Rattle.std.proofs.Common.{◌≤◌, ◌<◌, length}
use Rattle.std.specs.Prelude.{IfSome}
use Rattle.certificates.specs.States.{IsSound}
use Rattle.windows.proofs.cutting.farthest.Given as goal

abbrev pub invariant-loop-at : goal.invariant-loop-at
invariant-loop-at l = record {
  sound : IsSound l.state;
  begun : l.from ≤ l.at;
  few : l.lines ≤ l.at;
  behind : IfSome l.found (λ to. l.from < to);
  inside : IfSome l.found (λ to. to ≤ length l.steps);
}
