use Rattle.interleave.specs.Shown.{state_of}
use Rattle.script.proofs.Plays.{IsLocking}
use Rattle.script.proofs.player.play_locks.Given as goal

abbrev pub invariant-loop-next : goal.invariant-loop-next
invariant-loop-next l = IsLocking (state_of l.initial.machine) (state_of l.machine) l.initial.notes.items l.notes.items l.thread l.mutex l.count l.next
