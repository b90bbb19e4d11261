use Rattle.std.proofs.Common.{◌≡◌, ℕ, zero, suc, ◌<◌, ◌≤◌, List, [], ◌∷◌, ◌++◌, length, map, take, get_or, slice_get, Some, refl, sym, ap, ◌∙◌, arith}
use Rattle.std.specs.Option.{option_map}
use Rattle.std.proofs.lemmas.List.{take_more}
use Rattle.script.specs.Playing.{counters_of}
use Rattle.script.specs.declared.command.Condition.{Condition}
use Rattle.script.proofs.Names.{length-map_of}
use Rattle.report.proofs.threads.presets_of.Goals as goal

counter_at : (cs : List (List ℕ × Condition)) (k : ℕ) (x : Condition) → option_map (λ c. c.1) (slice_get cs k) ≡ Some x → get_or (map (λ c. c.1.counter) cs) k 0 ≡ x.counter
counter_at [] k x h = absurd cc
counter_at (c ∷ cs) zero x h = let same : c.1 ≡ x = cc in ap (λ (y : Condition). y.counter) same
counter_at (c ∷ cs) (suc k) x h = counter_at cs k x h

all_taken : (xs : List ℕ) (n : ℕ) → length xs ≤ n → take n xs ≡ xs
all_taken [] zero most = refl
all_taken [] (suc n) most = refl
all_taken (x ∷ xs) zero most = absurd (omega (arith, most))
all_taken (x ∷ xs) (suc n) most = ap (λ (ys : List ℕ). x ∷ ys) (all_taken xs n (omega (arith, most)))

pub loop-condition-preserved : goal.loop-condition-preserved
loop-condition-preserved c =
    let s = c.args.script.now in
    let k = c.loop-condition.condition in
    let count = c.conditions-condition-end.ensures.count in
    let below = c.loop-condition-test.true in
    let inside : k < length s.conditions = omega arith in
    c.in_ok-push.ensures.items ∙ (λ i. c.loop-condition.invariant i ++ sym (counter_at s.conditions k c.condition.result c.condition.ensures) i ∷ []) ∙ sym (take_more (counters_of s) k 0 (omega (arith, inside, length-map_of (λ x. x.1.counter) s.conditions)))

pub returns : goal.returns
returns c =
    let s = c.args.script.now in
    let count = c.conditions-condition-end.ensures.count in
    let over = c.loop-condition-test.false in
    let most : length s.conditions ≤ c.loop-condition.condition = omega arith in
    c.loop-condition.invariant ∙ all_taken (counters_of s) c.loop-condition.condition (omega (arith, most, length-map_of (λ x. x.1.counter) s.conditions))
