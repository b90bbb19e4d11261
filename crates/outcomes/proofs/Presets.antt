-- Counters that are set one after the other.
use Rattle.std.proofs.Common.{◌≡◌, ℕ, ◌+◌, ◌<◌, ◌≤◌, Bool, true, false, List, length, take, refl, sym, ap, ◌∙◌, arith}
use Rattle.std.specs.Prelude.{if◌then◌else◌, nat_lt, slice_index}
use mathlib.Core.Path.{fun_ext}
use Rattle.std.proofs.lemmas.Grind.{common_steps}
use Rattle.std.proofs.lemmas.Bool.Decides.{nat_tests}
use Rattle.memorymap.specs.Layouts.{Layout', counter_place}
use Rattle.protocol.specs.Machine.{State, start, put}
use Rattle.protocol.proofs.Puts.{by_put}
use Rattle.interleave.proofs.Reaches.{first_word-set}
use Rattle.outcomes.specs.declared.plan.Plan.{Plan}
use Rattle.outcomes.specs.Plans.{preset_of, first_state}

-- those of the condition variables below k are set
abbrev pub preset_below : Plan → ℕ → ℕ → ℕ
preset_below plan k c = if nat_lt c k then preset_of plan c else 0

abbrev pub IsPreset : Plan → State → ℕ → Type 0
IsPreset plan now k = now ≡ start plan.layout (preset_below plan k)

none_set : (plan : Plan) → (λ c. 0) ≡ preset_below plan 0
none_set plan = fun_ext (λ c. let never : nat_lt c 0 ≡ false = grind (arith, nat_tests) in ap (λ (b : Bool). if b then preset_of plan c else 0) (sym never))

set_one : (plan : Plan) (k c : ℕ) → put (preset_below plan k) k (preset_of plan k) c ≡ preset_below plan (k + 1) c
set_one plan k c = by_put (λ (x : ℕ). x ≡ preset_below plan (k + 1) c) (preset_below plan k) k (preset_of plan k) c
    (λ same. let below : nat_lt c (k + 1) ≡ true = grind (arith, nat_tests) in ap (preset_of plan) (sym same) ∙ sym (ap (λ (b : Bool). if b then preset_of plan c else 0) below))
    (λ apart. let test : nat_lt c k ≡ nat_lt c (k + 1) = grind (arith, nat_tests) in ap (λ (b : Bool). if b then preset_of plan c else 0) test)

-- after its end a list reads as 0
get_or-beyond : (xs : List ℕ) (i : ℕ) → length xs ≤ i → slice_index xs i ≡ 0
get_or-beyond xs i h = grind (arith, common_steps)

length_front : (xs : List ℕ) (n : ℕ) → length (take n xs) ≤ n
length_front xs n = grind (arith, common_steps)

all_set : (plan : Plan) (k : ℕ) → length plan.layout.conditions ≤ k → preset_below plan k ≡ preset_of plan
all_set plan k most = fun_ext (λ c. go c (nat_lt c k) refl)
  where
    go : (c : ℕ) (b : Bool) → nat_lt c k ≡ b → (if b then preset_of plan c else 0) ≡ preset_of plan c
    go c true e = refl
    go c false e =
        let high : k ≤ c = grind (arith, nat_tests) in
        let few = length_front plan.presets.items (length plan.layout.conditions) in
        sym (get_or-beyond (take (length plan.layout.conditions) plan.presets.items) c (omega arith))

-- what a preset is, read from the list
pub preset_read : (plan : Plan) (k x : ℕ) → k < length plan.layout.conditions → x ≡ slice_index plan.presets.items k → x ≡ preset_of plan k
preset_read plan k x lt is = is ∙ read plan.presets.items (length plan.layout.conditions) lt
  where
    read : (xs : List ℕ) (n : ℕ) → k < n → slice_index xs k ≡ slice_index (take n xs) k
    read xs n lt = grind (arith, common_steps)

pub preset_first : (plan : Plan) (now : State) → now ≡ start plan.layout (λ c. 0) → IsPreset plan now 0
preset_first plan now h = h ∙ ap (start plan.layout) (none_set plan)

pub preset_next : (plan : Plan) (now next : State) (l : Layout') (k x : ℕ) → IsPreset plan now k → k < length plan.layout.conditions → x ≡ preset_of plan k → now.layout ≡ l → next ≡ record now { words = put now.words (counter_place l k) x } → IsPreset plan next (k + 1)
preset_next plan now next l k x so_far lt value of set_now =
    let laid_out : l ≡ plan.layout = sym of ∙ ap (λ (z : State). z.layout) so_far in
    set_now ∙ (λ i. record (so_far i) { words = put (so_far i).words (counter_place (laid_out i) k) (value i) })
    ∙ ap (λ (ws : ℕ → ℕ). record (start plan.layout (preset_below plan k)) { words = ws }) (fun_ext (first_word-set plan.layout (preset_below plan k) k (preset_of plan k) lt))
    ∙ ap (start plan.layout) (fun_ext (set_one plan k))

pub preset_last : (plan : Plan) (now : State) (k : ℕ) → length plan.layout.conditions ≤ k → IsPreset plan now k → now ≡ first_state plan
preset_last plan now k most h = h ∙ ap (start plan.layout) (all_set plan k most)
