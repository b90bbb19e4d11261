use Rattle.std.proofs.Common.{◌≡◌, ◌≤◌, ℕ, List, ◌∙◌, ap, subst}
use Rattle.std.specs.Prelude.{slice_index_or}
use Rattle.std.specs.List.{Contains}
use Rattle.std.proofs.lemmas.List.Elements.{Contains-get_or}
use Rattle.interleave.specs.Shown.{Shown}
use Rattle.interleave.proofs.machine.Machine.sleepers.Goals as goal

pub returns-clause-known : goal.returns-clause-known
returns-clause-known c = λ k d lt.
    let t : ℕ = slice_index_or c.sleepers.result k d in
    let known = c.sleepers.ensures.sound.known c.args.place t (subst (λ (xs : List ℕ). Contains xs t) c.sleepers.ensures.value (Contains-get_or c.sleepers.result k d lt)) in
    let count : c.self.inside.kernel.threads ≡ c.args.self.now.layout.threads = c.self.invariant.kernel ∙ ap (λ (v : Shown). v.layout.threads) c.self.view_is in
    (known.0, subst (λ (n : ℕ). t ≤ n) count known.1)
