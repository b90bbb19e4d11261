-- The forms of a command line.
use Rattle.std.specs.Prelude.{ℕ, List, [], ◌∷◌, Option, Some, None, if◌then◌else◌}
use Rattle.explain.specs.declared.asking.Form.{Form}
use Rattle.explain.specs.declared.asking.Form.TheVariants.{File, Usage}
use Rattle.streams.specs.Words.{is_file_word}

-- an explanation of the file of this name; or the usage
abbrev pub Asked : Type 0
Asked = Option (List ℕ)

-- what the words of a command line ask for, of which the first is the program's name
abbrev pub asked_of : List (List ℕ) → Asked
asked_of [] = None
asked_of (program ∷ []) = None
asked_of (program ∷ file ∷ []) = if is_file_word file then Some file else None
asked_of (program ∷ a ∷ b ∷ ws) = None

-- what a form says
abbrev pub asked_by : Form → Asked
asked_by (File file) = Some file.now
asked_by Usage = None
