use Rattle.std.proofs.Common.{take}
use Rattle.script.specs.Jobs.{AreCalls, lists_seen}
use Rattle.script.proofs.gathering.phase_of.Given as goal

abbrev pub invariant-loop-command : goal.invariant-loop-command
invariant-loop-command l = AreCalls l.threads (take l.command-index l.commands) (lists_seen l.calls.items)
