use Rattle.std.proofs.Common.{ℕ, ◌≡◌, ◌≤◌, ◌∙◌, refl, subst, arith}
use Rattle.std.proofs.lemmas.List.{take-replicate}
use Rattle.lockword.specs.Threads.{most_threads}
use Rattle.memorymap.specs.Refusals.{Lays}
use Rattle.memorymap.proofs.Processes.{lays_one}
use Rattle.memorymap.proofs.layout.Layout.up_to.Goals as goal

pub returns : goal.returns
returns c =
    let threads = c.from-threads.result in
    let given : threads ≡ c.args.last = c.from-threads.ensures ∙ c.get.ensures.value in
    let few : threads ≤ most_threads = omega (arith, c.from-threads.ensures, c.get.ensures.last) in
    subst (λ (t : ℕ). Lays most_threads t c.args.mutexes c.args.conditions.now c.over.result) given
    (lays_one most_threads threads c.args.mutexes c.args.conditions.now _ _ c.over.result (take-replicate threads most_threads 0 few) refl c.over.ensures)
