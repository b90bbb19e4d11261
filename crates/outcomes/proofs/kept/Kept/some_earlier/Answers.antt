use Rattle.std.proofs.Common.{◌≡◌, ◌&&◌, ℕ, suc, true, sym, ◌∙◌, subst, arith}
use Rattle.protocol.specs.Machine.{is_idle}
use Rattle.outcomes.specs.Positions.{is_earlier, next_call}
use Rattle.outcomes.specs.Kept.{position_in}
use Rattle.outcomes.proofs.Lists.{one_earlier}
use Rattle.outcomes.proofs.kept.Kept.some_earlier.Goals as goal

pub returns-then-is_earlier : goal.returns-then-is_earlier
returns-then-is_earlier c =
    let plan = c.args.plan.now in
    let p = position_in plan.layout c.args.self.now in
    let i = c.loop-before.before in
    let id : c.in-Some.thread ≡ suc i = (let e = c.in-Some.ensures.1 in omega arith) in
    let one : (is_idle (p.state.threads (suc i)).stage && is_earlier c.args.phase (next_call plan p.places (suc i))) ≡ true =
    subst (λ (t : ℕ). (is_idle (p.state.threads t).stage && is_earlier c.args.phase (next_call plan p.places t)) ≡ true) id (sym c.is_earlier.ensures ∙ c.if-is_earlier.true) in
    sym (one_earlier plan p c.args.phase i plan.layout.threads (let n = c.threads-before-end.ensures.value in let below = c.loop-before-test.true in omega arith) one)
