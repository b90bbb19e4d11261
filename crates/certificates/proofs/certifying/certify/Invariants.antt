use Rattle.std.proofs.Common.{◌≤◌, length, reverse, take}
use Rattle.certificates.specs.States.{IsSound}
use Rattle.certificates.specs.Certificates.{entries}
use Rattle.certificates.proofs.Standing.{Stands}
use Rattle.certificates.proofs.certifying.certify.Given as goal

abbrev pub invariant-loop-step : goal.invariant-loop-step
invariant-loop-step l = record {
  sound : IsSound l.state;
  within : l.shown ≤ length l.history;
  stands : Stands l.head.mutexes (reverse (take l.shown (entries l.history))) (reverse (take l.step-index l.steps)) l.state;
}
