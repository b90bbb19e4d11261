use Rattle.std.proofs.Common.{ℕ, ◌≡◌, ◌+◌, length, subst, arith}
use Rattle.refuting.specs.Kills.{AreNever}
use Rattle.refuting.proofs.Cases.{never_doomed, one_more}
use Rattle.refuting.proofs.kills.refutes_doom.Goals as goal

pub kills-preserved : goal.kills-preserved
kills-preserved c = (
  omega (arith, c.kills-test.true),
  one_more c.args.head.now.mutexes c.args.before.now c.args.rest.now c.args.thread c.kills.count c.kills.invariant.1 (c.in_ok-here.ensures c.if-not-here.false),
)

pub returns : goal.returns
returns c = λ yes.
    let n = c.args.head.now.mutexes in
    let before = c.args.before.now in
    let rest = c.args.rest.now in
    let t = c.args.thread in
    let few = c.kills.invariant.0 in
    let end : c.kills.count ≡ length rest = omega (arith, c.kills-test.false, few) in
    never_doomed n before rest t (c.in_ok-without.ensures c.if-not-without.false)
    (subst (λ (k : ℕ). AreNever n before rest t (k + 1)) end (one_more n before rest t c.kills.count c.kills.invariant.1 (c.in_ok-last.ensures yes)))
