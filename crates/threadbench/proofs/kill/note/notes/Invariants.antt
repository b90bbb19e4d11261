use Rattle.std.proofs.Common.{◌≡◌, ◌≤◌, vec_len, vec_capacity}
use Rattle.threadbench.specs.Notes.{AreNotes}
use Rattle.threadbench.proofs.kill.note.notes.Given as goal
use Rattle.lockword.specs.Threads.{most_threads}

abbrev pub invariant-loop-before : goal.invariant-loop-before
invariant-loop-before l = (vec_len l.notes ≡ l.before) × (most_threads ≤ vec_capacity l.notes) × AreNotes l.notes.items
