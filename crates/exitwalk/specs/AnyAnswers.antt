-- What a walk does whatever it is answered.
use Rattle.std.specs.Prelude.{ℕ, ◌≡◌, ◌+◌, ◌≤◌, true, Option, Some, None, List, [], ◌∷◌, length}
use Rattle.posixmutex.specs.Objects.{held_limit}
use Rattle.stepprograms.specs.declared.access.Access.{Access}
use Rattle.stepprograms.specs.declared.access.Access.TheVariants.{Load, Exchange, Wake}
use Rattle.stepprograms.specs.declared.access.Answer.{Answer}
use Rattle.stepprograms.specs.declared.access.Answer.TheVariants.{Value, Exchanged, Changed}
use Rattle.stepprograms.specs.Accesses.{address_of, IsAnswerOf}
use Rattle.exitwalk.specs.declared.row.Row.{Row}
use Rattle.exitwalk.specs.declared.row.Row.TheVariants.{LoadFirst, LoadNext, Ended}
use Rattle.exitwalk.specs.Words.{owner_in, has_waiters, died_word}
use Rattle.exitwalk.specs.Walks.{row_access, row_after, IsGoing}

-- where a walk stands after some answers, whatever they are
abbrev pub reached : ℕ → ℕ → Row → List Answer → Row
reached t h r [] = r
reached t h r (a ∷ answers) = reached t h (row_after t h r a) answers

abbrev pub loads_entry : Row → ℕ
loads_entry (LoadNext r) = 1
loads_entry r = 0

-- how many entries it loaded for them
abbrev pub entry_loads : ℕ → ℕ → Row → List Answer → ℕ
entry_loads t h r [] = 0
entry_loads t h r (a ∷ answers) = loads_entry r + entry_loads t h (row_after t h r a) answers

abbrev pub IsExchange : Access → Type 0
IsExchange (Exchange at old new) = Unit {0}
IsExchange x = ⊥

-- the word that was reported to an access
abbrev pub told : Access → Answer → Option ℕ
told (Load at) (Value v) = Some v
told (Exchange at old new) (Changed v) = Some v
told x a = None

-- an exchange is asked for directly after an access at its place that told of the word expected there, whose owner is
-- the dead thread; the word is to say that its owner died, and nothing else is to change in it
pub record Asks (t : ℕ) (before : Access) (a : Answer) (at old new : ℕ) : Type 0 where
  pub place : address_of before ≡ at
  pub given : told before a ≡ Some old
  pub owner : owner_in old ≡ t
  pub change : new ≡ died_word old

-- a wake is asked for directly after the exchange that marked a word with waiters, or after an access that told of a
-- word without owner
abbrev pub WakesFor : Access → Answer → Type 0
WakesFor (Exchange at old new) Exchanged = has_waiters old ≡ true
WakesFor (Exchange at old new) (Changed v) = owner_in v ≡ 0
WakesFor (Load at) (Value v) = owner_in v ≡ 0
WakesFor x a = ⊥

-- Whatever a walk is answered:
-- it ends after 10,247 accesses at most, of which 2,048 at most load an entry of the list;
-- each exchange has its reason in the answer before it, so a word that is treated is loaded first, and then exchanged
-- at most twice, three exchanges never following one another; each wake has its reason there too, and is of one
-- sleeper; an answer that isn't one of its access, a fault among them, is the end.
pub record AnyAnswersEnd : Type 0 where
  pub ends : (t h : ℕ) (answers : List Answer) → 10247 ≤ length answers → reached t h LoadFirst answers ≡ Ended
  pub loads : (t h : ℕ) (answers : List Answer) → entry_loads t h LoadFirst answers ≤ held_limit
  pub asks : (t h : ℕ) (r : Row) (a : Answer) (at old new : ℕ) → row_access h (row_after t h r a) ≡ Exchange at old new
      → Asks t (row_access h r) a at old new
  pub twice : (t h : ℕ) (r : Row) (a b : Answer) → IsExchange (row_access h r)
      → IsExchange (row_access h (row_after t h r a)) → IsExchange (row_access h (row_after t h (row_after t h r a) b))
      → ⊥
  pub wakes : (t h : ℕ) (r : Row) (a : Answer) (at n : ℕ) → row_access h (row_after t h r a) ≡ Wake at n
      → (address_of (row_access h r) ≡ at) × (n ≡ 1) × WakesFor (row_access h r) a
  pub faults : (t h : ℕ) (r : Row) (a : Answer) → IsGoing r → ¬ IsAnswerOf (row_access h r) a
      → row_after t h r a ≡ Ended
