-- Where an unlock stands that has released its mutex.
use Rattle.std.specs.Prelude.{◌≡◌, ◌≢◌, ℕ, Option, Some, None, false, true}
use Rattle.lockword.specs.Cells.{fields_of}
use Rattle.lockword.specs.declared.reply.Reply.TheVariants.{OK}
use Rattle.mutex.specs.declared.phase.Phase.{Phase}
use Rattle.mutex.specs.declared.phase.Phase.TheVariants.{AtCell, Clearing}
use Rattle.mutex.specs.declared.row.Row.{Row}
use Rattle.mutex.specs.declared.row.Row.TheVariants.{Unlock, Ended}
use Rattle.mutex.specs.declared.unlock.UnlockRow.TheVariants.{Wake}
use Rattle.ruledwords.specs.declared.pass.Card.{Card}
use Rattle.ruledwords.specs.declared.turn.Wakes.{Wakes}
use Rattle.ruledwords.specs.declared.turn.Wakes.TheVariants.{Nobody, One, All}
use Rattle.posixmutex.specs.declared.object.Object.{Object}
use Rattle.posixmutex.specs.Objects.{fresh, Run}
use Rattle.ruledwords.specs.Cards.{at}
use Rattle.ruledwords.specs.Changes.{ChangedNothing, ChangedOnce}

-- where an unlock stands that has released its mutex, and has them to wake: before its wake, or before its entry is
-- cleared
abbrev pub owing_at : Wakes → Phase
owing_at Nobody = Clearing OK
owing_at One = AtCell (Unlock (Wake false))
owing_at All = AtCell (Unlock (Wake true))

-- it is there, or it has not freed its mutex yet, or not ended so
abbrev pub OwesThere : Phase → Option Wakes → Type 0
OwesThere f (Some v) = f ≡ owing_at v
OwesThere f None = (v : Wakes) → f ≢ owing_at v

-- after its release an unlock has found a word that said its thread was the owner
abbrev pub FoundOwn : Row → ℕ → ℕ → Type 0
FoundOwn (Unlock (Wake a)) t v = (fields_of v).owner ≡ t
FoundOwn (Ended OK) t v = (fields_of v).owner ≡ t
FoundOwn r t v = Unit {0}

-- the thread saw the mutex whose cell is at q become unusable where the word that it found last said that an owner
-- died, and stay usable where it didn't
abbrev pub IsSpoiltAsFound : ℕ → Card → Type 0
IsSpoiltAsFound q d = (o : Object) → Run fresh (at d.seen q) o → o.unusable ≡ (fields_of d.last).died

-- an unlock that began at the card c has changed its mutex's cell never yet, or after its release once, and that last
-- of all; what that left of the mutex is as the word was that it found
abbrev pub ChangesThere : Row → Card → ℕ → Card → Type 0
ChangesThere (Unlock (Wake a)) c q d = ChangedOnce c q d × IsSpoiltAsFound q d
ChangesThere (Ended OK) c q d = ChangedOnce c q d × IsSpoiltAsFound q d
ChangesThere r c q d = ChangedNothing c q d
