use Rattle.std.proofs.Common.{◌≡◌, take}
use Rattle.judge_report.specs.Traces.{lines_of}
use Rattle.judge_report.proofs.tracing.lines_of.Given as goal

abbrev pub invariant-loop-step : goal.invariant-loop-step
invariant-loop-step l = l.lines.items ≡ lines_of (take l.step-index l.steps)
