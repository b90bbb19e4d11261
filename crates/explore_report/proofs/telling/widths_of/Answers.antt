use Rattle.std.proofs.Common.{◌∙◌, ap, sym, map, ℕ, List, [], ◌∷◌, ◌++◌, arith}
use Rattle.std.specs.List.{range_with_len}
use Rattle.std.proofs.lemmas.List.FromFn.{map-range_with_len_more}
use Rattle.explore_report.specs.Texts.{widest}
use Rattle.explore_report.proofs.telling.widths_of.Goals as goal

pub loop-column-preserved : goal.loop-column-preserved
loop-column-preserved c =
    let f : ℕ → ℕ = λ i. widest c.args.script.now i 0 (map (λ w. w.now) c.args.outcomes.now) in
    c.in_ok-push.ensures.items ∙ ap (λ (l : List ℕ). l ++ c.in_ok-width_of.field-0 ∷ []) c.loop-column.invariant ∙ ap (λ (n : ℕ). map f (range_with_len 0 c.loop-column.column) ++ n ∷ []) c.in_ok-width_of.ensures ∙ sym (map-range_with_len_more f 0 c.loop-column.column c.loop-column.column (omega arith))
