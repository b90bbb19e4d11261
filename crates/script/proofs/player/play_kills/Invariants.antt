use Rattle.interleave.specs.Shown.{state_of}
use Rattle.script.proofs.Killing.{IsKilling}
use Rattle.script.proofs.player.play_kills.Given as goal

abbrev pub invariant-loop-earlier : goal.invariant-loop-earlier
invariant-loop-earlier l = IsKilling (state_of l.initial.machine) (state_of l.machine) l.initial.notes.items l.notes.items l.process l.earlier
