use Rattle.std.proofs.Common.{◌≡◌, ℕ, ◌+◌, length, refl, sym, ap, ◌∙◌, arith}
use Rattle.std.specs.Prelude.{slice_index}
use Rattle.std.proofs.Math.ListN.{replicate, length-replicate}
use Rattle.posixmutex.specs.Objects.{fresh}
use Rattle.verdict.specs.declared.stage.Stage.TheVariants.{Resting}
use Rattle.verdict.specs.Judges.{object_at, stage_at}
use Rattle.verdict.proofs.Owners.{all_alike, none_counted}
use Rattle.verdict.proofs.judge.Judge.new.Goals as goal

pub returns : goal.returns
returns c =
    let stages = c.in_ok-vec.ensures.items_if_clones_equal (λ y e. e) in
    let held = c.in_ok-vec-2.ensures.items_if_clones_equal (λ y e. e) in
    let objects = c.in_ok-vec-3.ensures.items_if_clones_equal (λ y e. e) in
    let begun = c.in_ok-vec-4.ensures.items_if_clones_equal (λ y e. e) in
    let freed = c.in_ok-vec-5.ensures.items_if_clones_equal (λ y e. e) in
    let free = ap (λ xs. object_at xs) objects ∙ ap (λ o. object_at (replicate c.from-mutexes.result o)) c.new-2.ensures in
    let each : (m : ℕ) → object_at c.in_ok-vec-3.field-0.items m ≡ fresh = λ m. ap (λ g. g m) free ∙ all_alike _ fresh m in
    let many = ap length stages ∙ length-replicate _ _ in
    let counts = ap length held ∙ length-replicate _ _ in
    let few = ap length objects ∙ length-replicate _ _ in
    record {
      head = refl;
      place = c.new.ensures;
      stages = λ t. ap (λ xs. stage_at xs t) stages ∙ all_alike _ Resting t;
      objects = each;
      begun = λ t. ap (λ xs. slice_index xs t) begun ∙ all_alike _ 0 t;
      freed = λ m. ap (λ xs. slice_index xs m) freed ∙ all_alike _ 0 m;
      each_stage = many ∙ ap (λ n. n + 1) c.from-threads.ensures;
      each_object = few ∙ c.from-mutexes.ensures;
      sound = record {
        few = omega (arith, few, c.from-mutexes.ensures);
        each_held = counts ∙ sym many;
        each_begun = ap length begun ∙ length-replicate _ _ ∙ sym many;
        each_freed = ap length freed ∙ length-replicate _ _ ∙ sym few;
        counted = none_counted _ _ (λ t. ap (λ xs. slice_index xs t) held ∙ all_alike _ 0 t) each;
      };
    }
