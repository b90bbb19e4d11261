-- The notes of kills.
use Rattle.std.specs.Prelude.{ℕ, ◌≡◌, ◌+◌, List, Some, slice_get}
use Rattle.threadbench.specs.declared.kill.note.Note.{Note}

-- a note for each thread, in the order of their ids
abbrev pub AreNotes : List Note → Type 0
AreNotes notes = (i : ℕ) (n : Note) → slice_get notes i ≡ Some n → n.thread ≡ i + 1
