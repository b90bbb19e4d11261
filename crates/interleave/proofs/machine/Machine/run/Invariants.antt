use Rattle.std.proofs.Common.{◌≡◌, ◌≤◌, ◌&&◌, length, take, vec_len, vec_capacity}
use Rattle.protocol.specs.Machine.{run, notes}
use Rattle.interleave.specs.Notes.{are_nothing}
use Rattle.interleave.specs.Shown.{state_of}
use Rattle.interleave.proofs.machine.Machine.run.Given as goal

abbrev pub invariant-loop-event : goal.invariant-loop-event
invariant-loop-event l =
    (vec_len l.notes ≡ l.event-index) × (length l.events ≤ vec_capacity l.notes)
    × (state_of l.self ≡ run (state_of l.initial.self) (take l.event-index l.events))
    × (l.notes.items ≡ notes (state_of l.initial.self) (take l.event-index l.events))
    × (l.self.fresh ≡ (l.initial.self.fresh && are_nothing l.notes.items))
