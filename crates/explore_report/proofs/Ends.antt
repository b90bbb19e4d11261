-- What is known where something was said, or wasn't.
use Rattle.std.proofs.Common.{◌≡◌, ◌≤◌, ℕ, List, [], ◌++◌, length, Option, Result, Ok, Err, refl, subst}
use Rattle.std.specs.Result.{OnOk}
use Rattle.std.specs.Io.KnownBytes.{Appends, Keeps}
use Rattle.streams.specs.Leaves.{AppendsFront, Leaves}
use Rattle.streams.proofs.Writers.{Appends-kept, whole_is_front}
use Rattle.explore_report.specs.Kept.{IsWritten}

-- whatever came of a text and of what was done then, a beginning of it stands, if that kept it
pub leaves_is_front : {X E : Type 0} (a b c : Option (List ℕ)) (r : Result X E) (text : List ℕ) → Leaves a b r text → Keeps b c → AppendsFront a c text
leaves_is_front a b c (Ok x) text h k = whole_is_front a c text (Appends-kept a b c text h k)
leaves_is_front a b c (Err e) text h k = (h.0, Appends-kept a b c _ h.1 k)

-- a file that was made and filled is written
pub written_so : {X E : Type 0} (Makes Fills : List ℕ → Option (List ℕ) → Type 0) (name text : List ℕ) (made filled : Option (List ℕ)) (r : Result X E) → Makes name made → Appends made filled text → OnOk r (Fills name filled) → OnOk r (IsWritten Makes Fills name text)
written_so Makes Fills name text made filled (Ok x) makes all fills = record { made = made; filled = filled; makes = makes; fills = fills; all = all }
written_so Makes Fills name text made filled (Err e) makes all fills = tt
