use Rattle.std.proofs.Common.{◌≡◌, [], take}
use Rattle.script.specs.Deaths.{deaths_by}
use Rattle.script.proofs.deaths.death_of.Given as goal

abbrev pub invariant-loop-command : goal.invariant-loop-command
invariant-loop-command l = deaths_by l.thread (take l.command-index l.commands) ≡ []
