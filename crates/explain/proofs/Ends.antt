-- What is known where an explanation was written, or wasn't.
use Rattle.std.proofs.Common.{◌≡◌, ◌≤◌, ℕ, List, length, Option, Result, Ok, Err, subst}
use Rattle.std.specs.Io.KnownBytes.{Consumes, IsAtEnd, Keeps}
use Rattle.streams.specs.Leaves.{AppendsFront, Leaves}
use Rattle.streams.proofs.Writers.{Appends-kept, whole_is_front}
use Rattle.verdict.specs.Limits.{max_bytes}
use Rattle.explain.specs.declared.failures.Failure.{Failure}
use Rattle.explain.specs.Served.{Comes, FailsTelling, Serves, Tells}

-- whatever came of a text and of what was done then, a beginning of it stands, if that kept it
pub leaves_is_front : {X E : Type 0} (a b c : Option (List ℕ)) (r : Result X E) (text : List ℕ) → Leaves a b r text → Keeps b c → AppendsFront a c text
leaves_is_front a b c (Ok x) text h k = whole_is_front a c text (Appends-kept a b c text h k)
leaves_is_front a b c (Err e) text h k = (h.0, Appends-kept a b c _ h.1 k)

-- what is said of all that a reader had
pub serves : (file : List ℕ) (had left old new : Option (List ℕ)) (bytes seen : List ℕ) (status : ℕ) → seen ≡ bytes → Consumes had left bytes → (length bytes ≤ max_bytes → IsAtEnd left) → Tells file seen old new status → Serves file had left old new status
serves file had left old new bytes seen status same taken end tells = (bytes, (taken, (end, subst (λ (bs : List ℕ). Tells file bs old new status) same tells)))

-- what came of it
pub comes : (file : List ℕ) (had left old new : Option (List ℕ)) (bytes seen : List ℕ) (f : Failure) → seen ≡ bytes → Consumes had left bytes → (length bytes ≤ max_bytes → IsAtEnd left) → FailsTelling file seen old new f → Comes file had left old new f
comes file had left old new bytes seen f same taken end fails = (bytes, (taken, (end, subst (λ (bs : List ℕ). FailsTelling file bs old new f) same fails)))
