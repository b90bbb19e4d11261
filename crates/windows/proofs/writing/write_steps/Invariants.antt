use Rattle.std.proofs.Common.{◌≡◌, ◌≤◌, take}
use Rattle.std.specs.Io.KnownBytes.{Appends}
use Rattle.windows.specs.Texts.{steps_count, steps_lines}
use Rattle.windows.proofs.writing.write_steps.Given as goal

abbrev pub invariant-loop-step : goal.invariant-loop-step
invariant-loop-step g l = record {
  text : Appends (g.W.Write.contents l.initial.out) (g.W.Write.contents l.out) (steps_lines (take l.step-index l.steps));
  count : l.events ≡ steps_count (take l.step-index l.steps);
  few : l.events ≤ l.step-index;
}
