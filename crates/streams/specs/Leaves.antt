-- What a writer holds after a text was written, or after a write failed.
use Rattle.std.specs.Prelude.{ℕ, List, take, Option, Result, MatchResult}
use Rattle.std.specs.Io.KnownBytes.{Appends}

-- what the writer holds grew by a beginning of the text
abbrev pub AppendsFront : Option (List ℕ) → Option (List ℕ) → List ℕ → Type 0
AppendsFront old new text = (k : ℕ) × Appends old new (take k text)

-- it grew by all of the text at Ok, and by a beginning of it at Err
abbrev pub Leaves : {X E : Type 0} → Option (List ℕ) → Option (List ℕ) → Result X E → List ℕ → Type 0
Leaves old new r text = MatchResult r (λ _. Appends old new text) (λ _. AppendsFront old new text)
