use Rattle.std.proofs.Common.{◌≡◌, ◌++◌, drop, None}
use Rattle.explore_report.specs.Witnesses.{events_text}
use Rattle.explore_report.proofs.witness.add_events.Given as goal

abbrev pub invariant-loop-event : goal.invariant-loop-event
invariant-loop-event l = l.text.items ++ events_text l.script l.left (drop l.event-index l.events) ≡ l.initial.text.items ++ events_text l.script None l.events
