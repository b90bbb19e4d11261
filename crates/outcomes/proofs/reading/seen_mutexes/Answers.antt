use Rattle.std.proofs.Common.{◌≡◌, ◌<◌, ◌≤◌, ◌∙◌, ◌++◌, ◌∷◌, [], ℕ, ap, sym, arith, subst}
use Rattle.std.specs.Prelude.{slice_index}
use Rattle.std.specs.Option.{SomeIff}
use Rattle.std.proofs.lemmas.List.FromFn.{map-range_with_len_more}
use Rattle.lockword.specs.Cells.{Fields, fields_of}
use Rattle.lockword.specs.Threads.{most_threads}
use Rattle.memorymap.specs.Layouts.{cell_place}
use Rattle.protocol.specs.Headline.{seen}
use Rattle.outcomes.specs.Kept.{position_in}
use Rattle.outcomes.proofs.Moves.{owner_fits, seen_is}
use Rattle.outcomes.proofs.reading.seen_mutexes.Goals as goal

pub overflow_cast-owner : goal.overflow_cast-owner
overflow_cast-owner c =
    let plan = c.args.plan.now in
    let m = c.loop-mutex.mutex in
    let first : c.cell-place.result ≤ c.cell-place.result = omega arith in
    let word : c.in-Some.word.now ≡ slice_index c.args.kept.now.saved.words.items (cell_place plan.layout m) = c.in-Some.ensures.lookup.4 first 0 ∙ (λ i. slice_index (c.deref.ensures.value i) (c.cell-place.ensures.value i)) in
    let inside : m < plan.layout.mutexes = (let n = c.mutexes-count.ensures.value in let lt = c.loop-mutex-test.true in omega arith) in
    let small = owner_fits plan c.args.kept.now c.requires m inside in
    let is : c.owner.result ≡ (fields_of (slice_index c.args.kept.now.saved.words.items (cell_place plan.layout m))).owner = c.owner.ensures.value ∙ ap (λ (f : Fields). f.owner) (c.new-cell.ensures ∙ ap fields_of word) in
    omega arith

pub loop-mutex-preserved : goal.loop-mutex-preserved
loop-mutex-preserved c =
    let plan = c.args.plan.now in
    let m = c.loop-mutex.mutex in
    let s = (position_in plan.layout c.args.kept.now).state in
    let first : c.cell-place.result ≤ c.cell-place.result = omega arith in
    let word : c.in-Some.word.now ≡ slice_index c.args.kept.now.saved.words.items (cell_place plan.layout m) = c.in-Some.ensures.lookup.4 first 0 ∙ (λ i. slice_index (c.deref.ensures.value i) (c.cell-place.ensures.value i)) in
    let inside : m < plan.layout.mutexes = (let n = c.mutexes-count.ensures.value in let lt = c.loop-mutex-test.true in omega arith) in
    let owner = subst (λ (o : ℕ). SomeIff c.new.result ((1 ≤ o) × (o ≤ most_threads)) o) c.owner.ensures.value c.new.ensures in
    let one = seen_is plan c.args.kept.now c.requires m c.in-Some.word.now c.new-cell.result c.new.result c.owner_died.result c.unusable.result inside word c.new-cell.ensures owner c.owner_died.ensures c.unusable.ensures in
    c.in_ok-push.ensures.items ∙ (λ i. c.loop-mutex.invariant i ++ one i ∷ []) ∙ sym (map-range_with_len_more (seen s) 0 m m (omega arith))
