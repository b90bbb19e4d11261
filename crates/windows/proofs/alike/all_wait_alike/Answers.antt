use Rattle.std.proofs.Common.{◌≡◌, ℕ, ◌≤◌, length, ⊎_elim, subst, arith}
use Rattle.std.proofs.lemmas.Bool.{cases_lt}
use Rattle.windows.specs.Places.{WaitsAlike}
use Rattle.windows.proofs.Places.{no_thread}
use Rattle.windows.proofs.alike.all_wait_alike.Goals as goal

pub loop-id-preserved : goal.loop-id-preserved
loop-id-preserved c = λ t lt. ⊎_elim (λ less. c.loop-id.invariant t less)
    (λ more.
    let same : c.loop-id.id ≡ t = omega (arith, lt, more) in
    subst (WaitsAlike c.args.a.now c.args.b.now) same (c.waits_alike.ensures c.if-not-waits_alike.false))
    (cases_lt t c.loop-id.id)

pub returns : goal.returns
returns c = λ h t. ⊎_elim (λ less. c.loop-id.invariant t less)
    (λ more.
    let past : length c.args.a.now.phases.items ≤ t = omega (arith, c.len-id-end.ensures, c.loop-id-test.false, more) in
    no_thread c.args.a.now c.args.b.now t past)
    (cases_lt t c.loop-id.id)
