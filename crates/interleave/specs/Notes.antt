-- Notes of events that couldn't apply.
use Rattle.std.specs.Prelude.{Bool, true, false, ◌&&◌, List, [], ◌∷◌}
use Rattle.protocol.specs.declared.note.Note.{Note}
use Rattle.protocol.specs.declared.note.Note.TheVariants.{Nothing}

abbrev pub is_nothing : Note → Bool
is_nothing Nothing = true
is_nothing n = false

-- each of the notes says that its event couldn't apply
abbrev pub are_nothing : List Note → Bool
are_nothing [] = true
are_nothing (n ∷ ns) = is_nothing n && are_nothing ns
