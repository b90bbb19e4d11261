use Rattle.std.proofs.Common.{◌≡◌, ◌∷◌, ◌+◌, ◌<◌, false, length, take, reverse, sym, ap, subst, ◌∙◌, arith}
use Rattle.facts.specs.Facts.{decision_of}
use Rattle.explain.specs.Spoiling.{Recalls, spoils}
use Rattle.explain.proofs.Earlier.{length_so_far, one_newer}
use Rattle.explain.proofs.Recalling.{none_at_all, none_more, spoils_here}
use Rattle.explain.proofs.spoiling.first_spoiling.Goals as goal

pub loop-index-preserved : goal.loop-index-preserved
loop-index-preserved c =
    let es = c.args.lines.now in
    let i = c.loop-index.index in
    let e = c.index-lines-index.result in
    let earlier = reverse (take i es) in
    let kept = c.loop-index.invariant in
    let below : i < length es = c.loop-index-test.true in
    let newer = one_newer es i e below ∙ ap (λ a. a ∷ earlier) (sym c.index-lines-index.is) in
    let line : i + 2 ≡ length earlier + 2 = omega (arith, length_so_far es i (omega arith)) in
    let here : spoils earlier (decision_of e.fact) ≡ false = c.in_default.ensures earlier kept.recalls in
    record {
      threads = c.take.ensures.waits ∙ kept.threads;
      mutexes = c.take.ensures.deaths ∙ kept.mutexes;
      recalls = subst (Recalls c.take.new.self) (sym newer) (c.take.ensures.recalls earlier line kept.recalls);
      none_yet = none_more es i (spoils_here es i e below c.index-lines-index.is ∙ here) kept.none_yet;
    }

pub returns-clause-first : goal.returns-clause-first
returns-clause-first c = none_at_all c.args.lines.now c.loop-index.index c.loop-index-test.false c.loop-index.invariant.none_yet
