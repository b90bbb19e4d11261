use Rattle.interleave.specs.Shown.{state_of}
use Rattle.script.proofs.Plays.{IsOnTheWay}
use Rattle.script.proofs.player.play_to_rest.Given as goal

abbrev pub invariant-loop-done : goal.invariant-loop-done
invariant-loop-done l = IsOnTheWay (state_of l.initial.machine) (state_of l.machine) l.initial.notes.items l.notes.items l.thread l._done
