use Rattle.std.proofs.Common.{◌≡◌, ◌++◌, ◌∷◌, [], ◌+◌, List, reverse, take, sym, ap, subst, ◌∙◌, arith}
use Rattle.std.proofs.lemmas.List.{take_all, take_more}
use Rattle.histories.specs.declared.entry.Entry.{Entry}
use Rattle.certificates.specs.Walks.{IsBehind}
use Rattle.certificates.proofs.Following.{few_more, follows, starts}
use Rattle.certificates.proofs.Standing.{one_more}
use Rattle.certificates.proofs.walk.walked.Goals as goal

pub loop-step-init : goal.loop-step-init
loop-step-init c = record {
  room = c.in_ok-walk.ensures.room;
  few = omega (arith, c.in_ok-walk.ensures.lines);
  behind = starts c.in_ok-walk.walk c.in_ok-walk.ensures;
}

pub loop-step-preserved : goal.loop-step-preserved
loop-step-preserved c =
    let i = c.loop-step.invariant in
    let steps = c.args.steps.now in
    let at = c.loop-step.step-index in
    let e = c.step-item.result in
    let one : take (at + 1) steps ≡ take at steps ++ e ∷ [] = take_more steps at e (omega arith) ∙ ap (λ y. take at steps ++ y ∷ []) (sym c.step-item.is) in
    record {
      room = c.take.ensures.room;
      few = omega (arith, i.few, few_more c.loop-step.walk e c.take.new.self c.take.ensures.walks);
      behind = subst (λ (es : List Entry). IsBehind es c.take.new.self) (sym (one_more steps at e one)) (follows (reverse (take at steps)) e c.loop-step.walk c.take.new.self i.behind c.take.ensures.walks);
    }

pub returns-clause-behind : goal.returns-clause-behind
returns-clause-behind c = subst (λ (es : List Entry). IsBehind (reverse es) c.loop-step.walk) (take_all c.loop-step.step-index c.args.steps.now c.loop-step-test.false) c.loop-step.invariant.behind
