-- A walk that is run over words that nobody else changes.
use Rattle.std.specs.Prelude.{ℕ, zero, suc, Bool, true, false, List, [], ◌∷◌, ◌++◌, if◌then◌else◌}
use Rattle.stepprograms.specs.declared.access.Access.{Access}
use Rattle.stepprograms.specs.declared.access.Access.TheVariants.{Wake}
use Rattle.stepprograms.specs.declared.access.Answer.{Answer}
use Rattle.stepprograms.specs.declared.access.Answer.TheVariants.{Count, Fault}
use Rattle.stepprograms.specs.Accesses.{address_of, changed, answer_at}
use Rattle.exitwalk.specs.declared.row.Row.{Row}
use Rattle.exitwalk.specs.declared.row.Row.TheVariants.{LoadFirst, Ended}
use Rattle.exitwalk.specs.Words.{put}
use Rattle.exitwalk.specs.Walks.{row_access, row_after}
use Rattle.exitwalk.specs.Meanings.{Effect, untouched}

-- where a walk stands, and what it has done
pub record Course : Type 0 where
  pub row : Row
  pub effect : Effect

-- what is answered where the address is valid; a wake wakes as many sleepers as there are, whatever their number
abbrev pub answered : (List ℕ → ℕ) → Effect → Access → Answer
answered sleepers s (Wake at n) = Count (sleepers s.wakes)
answered sleepers s a = answer_at a (s.words (address_of a))

abbrev pub wakes_after : List ℕ → Access → List ℕ
wakes_after wakes (Wake at n) = wakes ++ (at ∷ [])
wakes_after wakes a = wakes

-- what an access leaves where its address is valid
abbrev pub made : Effect → Access → Effect
made s a =
    record { words = put s.words (address_of a) (changed a (s.words (address_of a))); wakes = wakes_after s.wakes a }

abbrev pub answer_of : (ℕ → Bool) → (List ℕ → ℕ) → Effect → Access → Answer
answer_of valid sleepers s a = if valid (address_of a) then answered sleepers s a else Fault

abbrev pub effect_of : (ℕ → Bool) → Effect → Access → Effect
effect_of valid s a = if valid (address_of a) then made s a else s

abbrev pub has_ended : Row → Bool
has_ended Ended = true
has_ended r = false

-- a walk's next access, if it hasn't ended
abbrev pub step : (ℕ → Bool) → (List ℕ → ℕ) → ℕ → ℕ → Course → Course
step valid sleepers t h c =
    if has_ended c.row then c
    else record {
      row = row_after t h c.row (answer_of valid sleepers c.effect (row_access h c.row));
      effect = effect_of valid c.effect (row_access h c.row);
    }

-- this many accesses
unfoldable pub run : (ℕ → Bool) → (List ℕ → ℕ) → ℕ → ℕ → ℕ → Course → Course
run valid sleepers t h zero c = c
run valid sleepers t h (suc n) c = run valid sleepers t h n (step valid sleepers t h c)

-- from the first access on
abbrev pub outset : (ℕ → ℕ) → Course
outset words = record { row = LoadFirst; effect = untouched words }
