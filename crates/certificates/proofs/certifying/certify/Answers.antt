use Rattle.std.proofs.Common.{◌≡◌, ◌++◌, ◌∷◌, [], ◌+◌, ◌<◌, true, length, reverse, take, sym, ap, subst, ◌∙◌, arith}
use Rattle.std.specs.List.{slice_get}
use Rattle.std.proofs.lemmas.List.{take_more, length-map}
use Rattle.certificates.specs.Certificates.{Takes, entries}
use Rattle.certificates.proofs.Standing.{Stands, begins, shown_within, turns, within_next}
use Rattle.certificates.proofs.certifying.certify.Goals as goal

pub loop-step-init : goal.loop-step-init
loop-step-init c = record {
  sound = c.in_ok-state.ensures.sound;
  within = omega arith;
  stands = begins c.args.head.now c.in_ok-state.state c.in_ok-state.ensures;
}

pub loop-step-preserved : goal.loop-step-preserved
loop-step-preserved c =
    let i = c.loop-step.invariant in
    let n = c.args.head.now.mutexes in
    let hs = c.args.history.now in
    let xs = entries hs in
    let steps = c.args.steps.now in
    let at = c.loop-step.step-index in
    let shown = c.loop-step.shown in
    let e = c.step-item.result in
    let tells = c.in-Some.tells in
    let after = c.take.new.state in
    let x : Takes c.loop-step.state (slice_get xs shown) e tells after = subst (λ o. Takes c.loop-step.state o e tells after) c.entry_at.ensures c.in-Some.ensures.takes in
    let one : take (at + 1) steps ≡ take at steps ++ e ∷ [] = take_more steps at e (omega arith) ∙ ap (λ y. take at steps ++ y ∷ []) (sym c.step-item.is) in
    let more : tells ≡ true → shown < length xs = λ yes. shown_within xs shown e c.loop-step.state after (subst (λ b. Takes c.loop-step.state (slice_get xs shown) e b after) yes x) in
    let many : length xs ≡ length hs = length-map hs (λ l. l.entry) in
    let within = within_next tells shown (length xs) more (omega (arith, many, i.within)) in
    record {
      sound = c.take.ensures.sound;
      within = omega (arith, within, many, c.behind-shown.ensures);
      stands = subst (λ k. Stands n (reverse (take k xs)) (reverse (take (at + 1) steps)) after) (sym c.behind-shown.ensures) (turns n xs steps shown at e tells c.loop-step.state after i.sound one x i.stands);
    }
