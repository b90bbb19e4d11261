use Rattle.std.proofs.Common.{arith, ◌∙◌, sym, ap, [], ◌∷◌, ◌++◌, ℕ, List, map}
use Rattle.std.specs.List.{range_with_len}
use Rattle.std.proofs.lemmas.List.FromFn.{map-range_with_len_more}
use Rattle.memorymap.specs.Layouts.{first_word}
use Rattle.interleave.proofs.machine.first_words.Goals as goal

pub loop-place-preserved : goal.loop-place-preserved
loop-place-preserved c =
    let f = first_word c.args.layout.now (λ k. 0) in
    let before = map f (range_with_len 0 c.loop-place.place) in
    (omega arith, c.in_ok-push.ensures.items ∙ ap (λ (ws : List ℕ). ws ++ c.first_word.result ∷ []) c.loop-place.invariant.1 ∙ ap (λ (w : ℕ). before ++ w ∷ []) c.first_word.ensures ∙ sym (map-range_with_len_more f 0 c.loop-place.place c.loop-place.place (omega arith)))
