-- What accesses do to words, and which words are a list's.
use Rattle.std.specs.Prelude.{ℕ, ◌≡◌, ◌≢◌, ◌==◌, List, if◌then◌else◌, ◌⊎◌}
use Rattle.stepprograms.specs.declared.access.Access.{Access}
use Rattle.stepprograms.specs.declared.access.Access.TheVariants.{Load, Store}
use Rattle.stepprograms.specs.declared.access.Answer.{Answer}
use Rattle.stepprograms.specs.declared.access.Answer.TheVariants.{Value, Stored}
use Rattle.stepprograms.specs.Accesses.{address_of, changed, answer_at}
use Rattle.memorymap.specs.Chains.{previous_place, IsAmong}

-- the words with a value at a place
abbrev pub put : (ℕ → ℕ) → ℕ → ℕ → ℕ → ℕ
put w at v p = if p == at then v else w p

-- what an access answers on such words, and the words that it leaves
abbrev pub answer_on : Access → (ℕ → ℕ) → Answer
answer_on a w = answer_at a (w (address_of a))

abbrev pub after : Access → (ℕ → ℕ) → ℕ → ℕ
after a w p = if p == address_of a then changed a (w p) else w p

-- a load is answered by a value, and a store by its being made
abbrev pub IsAnswerOf : Access → Answer → Type 0
IsAnswerOf (Load at) (Value v) = Unit {0}
IsAnswerOf (Store at v) Stored = Unit {0}
IsAnswerOf a x = ⊥

-- a place of a list: the head's first word, or one of the two words of an entry
abbrev pub IsOn : ℕ → List ℕ → ℕ → Type 0
IsOn h es p = (p ≡ h) ⊎ (x : ℕ) × IsAmong x es × ((p ≡ x) ⊎ (p ≡ previous_place x))

-- words that are the same at a list's places
abbrev pub Agree : ℕ → List ℕ → (ℕ → ℕ) → (ℕ → ℕ) → Type 0
Agree h es v w = (p : ℕ) → IsOn h es p → w p ≡ v p

-- at a list's places the words w are what the access makes of v; elsewhere anybody may have written
pub record Makes (a : Access) (h : ℕ) (es : List ℕ) (v w : ℕ → ℕ) : Type 0 where
  pub changes : w (address_of a) ≡ changed a (v (address_of a))
  pub keeps : (p : ℕ) → IsOn h es p → p ≢ address_of a → w p ≡ v p
