use Rattle.std.proofs.Common.{◌≡◌, ◌∙◌, ℕ, ◌+◌, ◌-◌, ◌<◌, length, take, set, Some, sym, subst, arith}
use Rattle.std.specs.Prelude.{option_map, slice_get}
use Rattle.std.proofs.lemmas.List.{length-set}
use Rattle.script.specs.Playing.{layout_of}
use Rattle.script.proofs.Firsts.{base_more}
use Rattle.script.proofs.layout.bases_of.Goals as goal

pub loop-earlier-preserved : goal.loop-earlier-preserved
loop-earlier-preserved c =
    let s = c.args.script.now in
    let k = c.loop-earlier.earlier in
    let bs = c.loop-earlier.bases in
    let few = c.processes-earlier-end.ensures.well_formed.within.processes_at_most in
    let count = c.processes-earlier-end.ensures.count in
    let below = c.loop-earlier-test.true in
    let inside : k < length s.processes = omega arith in
    let long = c.loop-earlier.invariant.1 in
    let place : k + 1 - 1 ≡ k = omega arith in
    let is = subst (λ (j : ℕ). option_map (λ p. p.1) (slice_get s.processes j) ≡ Some c.base.result) place c.base.ensures in
    subst (λ (i : ℕ). (take (k + 1 + 1) (set bs i c.base.result) ≡ take (k + 1 + 1) (layout_of s).bases) × (length (set bs i c.base.result) ≡ 8)) (sym c.from.ensures)
    (base_more s bs k c.base.result is inside (omega arith) c.loop-earlier.invariant.0, length-set bs (k + 1) c.base.result ∙ long)
