use Rattle.interleave.specs.Shown.{state_of}
use Rattle.script.specs.Playing.{first_state}
use Rattle.script.proofs.Plays.{IsAmid}
use Rattle.script.proofs.player.play_commands.Given as goal

abbrev pub invariant-loop-command : goal.invariant-loop-command
invariant-loop-command l = IsAmid (first_state l.script) l.script.commands (state_of l.machine) l.notes.items l.command-index
