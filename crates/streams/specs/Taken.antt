-- What a reader has left after some of its bytes were taken.
use Rattle.std.specs.Prelude.{ℕ, ◌≤◌, List, length, Option}
use Rattle.std.specs.Io.KnownBytes.{Consumes}

-- how many bytes memory is asked for at a time while a file is read: as many as a reader with a buffer keeps. So what
-- is asked for grows with the file, and a short one needs no room for the longest
abbrev pub part_bytes : ℕ
part_bytes = 8192

-- at most this many bytes were taken from the reader
abbrev pub TakesAtMost : ℕ → Option (List ℕ) → Option (List ℕ) → Type 0
TakesAtMost limit had left = (bytes : List ℕ) × Consumes had left bytes × (length bytes ≤ limit)
