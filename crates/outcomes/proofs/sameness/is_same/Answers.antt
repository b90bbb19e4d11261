use Rattle.std.proofs.Common.{◌∙◌, ap, sym, subst}
use Rattle.outcomes.specs.declared.stored.Scene.{Scene}
use Rattle.outcomes.specs.Comparisons.{AreComparable}
use Rattle.outcomes.specs.Kept.{places_in}
use Rattle.outcomes.specs.Stored.{places_among, threads_in}
use Rattle.outcomes.proofs.Moves.{comparable}
use Rattle.outcomes.proofs.sameness.is_same.Goals as goal

pub returns : goal.returns
returns c = λ same plan kept.
    let scene = c.is_scene.ensures c.if-not-is_scene.false in
    let are = subst AreComparable (sym c.deref-5.ensures.value) (comparable plan c.args.kept.now kept) in
    let standings = c.are_standings.ensures same are in
    record {
      words = ap (λ (s : Scene). s.words.items) (sym c.deref.ensures) ∙ scene.0 ∙ c.deref-2.ensures.value;
      sleepers = ap (λ (s : Scene). s.sleepers.items) (sym c.deref.ensures) ∙ scene.1 ∙ c.deref-3.ensures.value;
      threads = ap threads_in (sym c.deref-4.ensures.value) ∙ standings.0 ∙ c.deref-5.ensures.value;
      phase = c.if-stored-kept.false;
      places = ap places_among (sym c.deref-4.ensures.value) ∙ standings.1 ∙ ap places_in c.lives.ensures;
    }
