-- What two fates of a thread said, one of which is a note that others write.
use Rattle.std.proofs.Common.{◌≡◌, ◌⊎◌, inl, inr, ℕ, ◌+◌, sym, subst, arith}
use mathlib.Core.Logic.{dite}
use native.Mathlib.Decide.{ℕ_discrete}
use Rattle.ruledwords.specs.Fates.{Heeds}
use Rattle.ruledwords.specs.Outcomes.{stops_in}
use Rattle.ruledwords.specs.Stretches.{stops_stretching}
use Rattle.ruledwords.specs.declared.turn.Outcome.{Outcome}
use Rattle.ruledwords.specs.declared.turn.Outcome.TheVariants as outcome
use Rattle.ruledwords.specs.declared.turn.Stretch.{Stretch}
use Rattle.ruledwords.specs.declared.turn.Turn.{Turn}
use Rattle.ruledwords.specs.declared.turn.Turn.TheVariants as turn
use Rattle.threadbench.specs.Calls.{IsHeeded, stretch_of}

-- the note alone was asked
pub heeds_note : (f n n' k : ℕ) → n' ≡ n + k → Heeds f f n n' k
heeds_note f n n' k told = record { fate = omega arith; note = omega (arith, told); once = omega (arith, told) }

-- they said so as often as that
pub heeds_as : (f f' n n' k j : ℕ) → k ≡ j → Heeds f f' n n' k → Heeds f f' n n' j
heeds_as f f' n n' k j same heeded = subst (λ (z : ℕ). Heeds f f' n n' z) same heeded

-- an access in which nobody dies: neither said so
pub heeds_onward : (f f' n n' : ℕ) (t : Turn) (s : Stretch) → s ≡ stretch_of t → Heeds f f' n n' 0 → Heeds f f' n n' (stops_stretching s)
heeds_onward f f' n n' (turn.Goes q) s is heeded = subst (λ (z : Stretch). Heeds f f' n n' (stops_stretching z)) (sym is) heeded
heeds_onward f f' n n' (turn.Lives b x) s is heeded = subst (λ (z : Stretch). Heeds f f' n n' (stops_stretching z)) (sym is) heeded

-- what the call's fate says of it
pub is_heeded : (f f' n n' : ℕ) (o : Outcome) → Heeds f f' n n' (stops_in o) → IsHeeded f f' o
is_heeded f f' n n' (outcome.Lives b r) heeded = let x = heeded.fate in let y = heeded.note in let once = heeded.once in omega (arith, x, y, once)
is_heeded f f' n n' (outcome.Dead d) heeded =
    let x = heeded.fate in
    let y = heeded.note in
    let once = heeded.once in
    dite (ℕ_discrete f' f) (λ same. inr same) (λ other. inl (omega (arith, x, y, once, other)))

-- a fate that was recorded once where it stops, and else never
pub is_heeded_alone : (f f' : ℕ) (o : Outcome) → f' ≡ f + stops_in o → IsHeeded f f' o
is_heeded_alone f f' (outcome.Lives b r) told = omega (arith, told)
is_heeded_alone f f' (outcome.Dead d) told = inl told

-- a fate that let the thread go on, and what a call returned then
pub heeded_after : (f g f' : ℕ) (o : Outcome) → g ≡ f + 0 → IsHeeded g f' o → IsHeeded f f' o
heeded_after f g f' o same heeded = let e : g ≡ f = omega (arith, same) in subst (λ (n : ℕ). IsHeeded n f' o) e heeded

pub heeded_in : (f g f' : ℕ) → g ≡ f → (f' ≡ g + 1) ⊎ (f' ≡ g) → (f' ≡ f + 1) ⊎ (f' ≡ f)
heeded_in f g f' same told = subst (λ (n : ℕ). (f' ≡ n + 1) ⊎ (f' ≡ n)) same told
