use Rattle.std.proofs.Common.{Ok}
use Rattle.std.specs.Prelude.{replicate}
use Rattle.protocol.specs.declared.event.Event.TheVariants.{Step}
use Rattle.interleave.specs.Shown.{state_of}
use Rattle.script.specs.Playing.{Adds}
use Rattle.script.proofs.player.play_steps.Given as goal

abbrev pub invariant-loop-done : goal.invariant-loop-done
invariant-loop-done l = Adds (state_of l.initial.machine) (state_of l.machine) l.initial.notes.items l.notes.items (replicate l._done (Step l.thread)) (Ok tt)
