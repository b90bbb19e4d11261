use Rattle.std.proofs.Common.{◌∙◌, ap, sym, map, ℕ, ◌+◌, List, [], ◌∷◌, ◌++◌, arith}
use Rattle.std.specs.List.{flat_map, range_with_len}
use Rattle.std.proofs.lemmas.List.{map-append}
use Rattle.std.proofs.lemmas.List.FromFn.{map-range_with_len_more}
use Rattle.explore_report.specs.Plans.{items_in, items_of, said_by}
use Rattle.explore_report.proofs.Loops.{id_is}
use Rattle.explore_report.proofs.planning.all_items.Goals as goal

pub loop-before-preserved : goal.loop-before-preserved
loop-before-preserved c =
    let said = said_by c.args.explored.now in
    let t = id_is _ _ _ _ c.new.ensures c.unwrap-thread.ensures in
    let items = c.in_ok-items.ensures ∙ ap (λ ks. flat_map (items_in ks c.unwrap-thread.result) c.commands.result.now) c.deref.ensures.value ∙ ap (λ cs. flat_map (items_in said.kinds c.unwrap-thread.result) cs) c.commands.ensures.value ∙ ap (λ (u : ℕ). items_of said u) t in
    ap (map (λ v. v.items)) c.in_ok-push.ensures.items ∙ map-append _ _ _ ∙ ap (λ l. l ++ c.in_ok-items.items.items ∷ []) c.loop-before.invariant ∙ ap (λ x. map (λ i. items_of said (i + 1)) (range_with_len 0 c.loop-before.before) ++ x ∷ []) items ∙ sym (map-range_with_len_more (λ i. items_of said (i + 1)) 0 c.loop-before.before c.loop-before.before (omega arith))
