-- The words that scripts and traces write for operations.
--
-- *Operation's word.* What scripts and traces write for an operation, and the operation that a text is read as, a death
-- too; the law `operations_are_read_back`.
use Rattle.std.specs.Prelude.{ℕ, ◌≡◌, List, [], ◌∷◌, Option, Some, find, codes}
use Rattle.std.specs.Str.{bytes_eq}
use Rattle.posixmutex.specs.declared.point.Operation.{Operation}
use Rattle.posixmutex.specs.declared.point.Operation.TheVariants.{Lock, TryLock, TimedLock, Unlock, Consistent}
use Rattle.posixmutex.specs.declared.point.Operation.TheVariants.{Wait, TimedWait, Signal, Broadcast, Death, Reinit}

abbrev pub operation_word : Operation → List ℕ
operation_word Lock = codes "lock"
operation_word TryLock = codes "trylock"
operation_word TimedLock = codes "timedlock"
operation_word Unlock = codes "unlock"
operation_word Consistent = codes "consistent"
operation_word Wait = codes "wait"
operation_word TimedWait = codes "timedwait"
operation_word Signal = codes "signal"
operation_word Broadcast = codes "broadcast"
operation_word Death = codes "death"
operation_word Reinit = codes "reinit"

-- every operation
abbrev pub all_operations : List Operation
all_operations =
    Lock ∷ TryLock ∷ TimedLock ∷ Unlock ∷ Consistent ∷ Wait ∷ TimedWait ∷ Signal ∷ Broadcast ∷ Death ∷ Reinit ∷ []

-- the operation that has this word
unfoldable pub operation_of : List ℕ → Option Operation
operation_of text = find (λ op. bytes_eq (operation_word op) text) all_operations

-- an operation's word is read as that operation, and no other text is
pub record OperationsAreReadBack : Type 0 where
  pub back : (op : Operation) → operation_of (operation_word op) ≡ Some op
  pub only : (text : List ℕ) (op : Operation) → operation_of text ≡ Some op → text ≡ operation_word op
