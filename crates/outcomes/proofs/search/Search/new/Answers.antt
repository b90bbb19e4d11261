use Rattle.std.proofs.Common.{◌≡◌, ◌∙◌, ap, sym, refl, None, List, ◌++◌, ◌∷◌, []}
use Rattle.std.specs.Prelude.{slice_get}
use Rattle.outcomes.specs.declared.search.Reached.{Reached}
use Rattle.outcomes.proofs.Moves.{comparable}
use Rattle.outcomes.proofs.Reaching.{more_reached}
use Rattle.outcomes.proofs.Storing.{as_many, held}
use Rattle.outcomes.proofs.search.Search.new.Goals as goal

pub store-requires-clause-comparable : goal.store-requires-clause-comparable
store-requires-clause-comparable c = comparable c.args.plan.now c.in_ok-kept.kept c.in_ok-kept.ensures.kept

pub store-requires-clause-long : goal.store-requires-clause-long
store-requires-clause-long c = as_many c.args.plan.now c.in_ok-kept.kept c.in_ok-kept.ensures.kept

pub returns-clause-reached : goal.returns-clause-reached
returns-clause-reached c =
    let one : Reached = record { stored = c.in_ok-stored.stored; digest = c.digests_of-digests.result.position; by = None } in
    let is : c.add.new.list.items ≡ [] ++ one ∷ [] = c.in_ok-add.ensures ∙ ap (λ (rs : List Reached). rs ++ one ∷ []) c.new-reached.ensures.items in
    more_reached c.args.plan.now [] c.add.new.list.items one is (λ i x h. absurd cc) (c.in_ok-kept.kept, c.in_ok-kept.ensures.kept, c.in_ok-stored.ensures) (refl, sym (held c.args.plan.now.layout c.in_ok-stored.stored c.in_ok-kept.kept c.in_ok-stored.ensures ∙ c.in_ok-kept.ensures.first))

pub returns-clause-first : goal.returns-clause-first
returns-clause-first c = λ some.
    let one : Reached = record { stored = c.in_ok-stored.stored; digest = c.digests_of-digests.result.position; by = None } in
    let is : c.add.new.list.items ≡ one ∷ [] = c.in_ok-add.ensures ∙ ap (λ (rs : List Reached). rs ++ one ∷ []) c.new-reached.ensures.items in
    record { one = one; there = ap (λ (rs : List Reached). slice_get rs 0) is; is = held c.args.plan.now.layout c.in_ok-stored.stored c.in_ok-kept.kept c.in_ok-stored.ensures ∙ c.in_ok-kept.ensures.first }
