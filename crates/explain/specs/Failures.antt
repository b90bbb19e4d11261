-- What the program says on standard error.
use Rattle.std.specs.Prelude.{ℕ, List, [], ◌∷◌, codes}
use Rattle.std.specs.List.{concat}
use Rattle.explain.specs.declared.failures.Failure.{Failure}
use Rattle.explain.specs.declared.failures.Failure.TheVariants.{Usage, CannotRead, CannotWrite, OutOfMemory}

-- why a file of this name wasn't explained
abbrev pub failure_text : List ℕ → Failure → List ℕ
failure_text file Usage = concat (codes "usage: rfx-explain FILE\n" ∷ [])
failure_text file CannotRead = concat (codes "rfx-explain: cannot read " ∷ file ∷ codes "\n" ∷ [])
failure_text file CannotWrite = concat (codes "rfx-explain: cannot write\n" ∷ [])
failure_text file OutOfMemory = concat (codes "rfx-explain: out of memory\n" ∷ [])

-- the exit status after it
abbrev pub failure_status : Failure → ℕ
failure_status Usage = 2
failure_status CannotRead = 1
failure_status CannotWrite = 1
failure_status OutOfMemory = 1
