use Rattle.std.proofs.Common.{ap, subst}
use Rattle.std.specs.Prelude.{ℕ, Bool, if◌then◌else◌}
use Rattle.ruledwords.specs.declared.pass.Words.{Words}
use Rattle.ruledwords.specs.declared.turn.Stretch.TheVariants as stretch
use Rattle.ruledwords.specs.Stretches.{Stretches}
use Rattle.ruledwords.specs.Turns.{IsTurnOf, Keeps, KeepsDecided}
use Rattle.ruledwords.proofs.Fates.{heeds_on}
use Rattle.threadbench.proofs.Heeding.{heeds_as, heeds_onward}
use Rattle.threadbench.proofs.Turning.{dies_there, onward, stretched_on}
use Rattle.threadbench.proofs.bench.Bench.turn.Goals as goal

pub returns-in-Lives-clause-stretches : goal.returns-in-Lives-clause-stretches
returns-in-Lives-clause-stretches g c =
    subst (λ (w : Words). Stretches w c.args.running (stretch.Lives c.in-Lives.pass c.in-Lives.reply)) c.self.view_is c.in-Lives.ensures.stretches

pub returns-in-Dead-clause-stretches : goal.returns-in-Dead-clause-stretches
returns-in-Dead-clause-stretches g c =
    subst (λ (w : Words). Stretches w c.args.running (stretch.Dead c.in-Dead.pass)) c.self.view_is c.in-Dead.ensures.stretches

pub returns-then-either_stops-clause-stretches : goal.returns-then-either_stops-clause-stretches
returns-then-either_stops-clause-stretches g c =
    let w = c.args.self.now in
    let next = c.in-Goes.next in
    let came = subst (λ (w : Words). Stretches w c.args.running (stretch.Goes c.in-Goes.next)) c.self.view_is c.in-Goes.ensures.stretches in
    stretched_on w c.args.running next (stretch.Dead c.die.result) came (dies_there w next c.die.result c.die.ensures.card c.die.ensures.words c.die.ensures.died)

pub returns-in-Wait-clause-stretches : goal.returns-in-Wait-clause-stretches
returns-in-Wait-clause-stretches g c =
    let w = c.args.self.now in
    let came = subst (λ (w : Words). Stretches w c.args.running (stretch.Goes c.in-Goes.next)) c.self.view_is c.in-Goes.ensures.stretches in
    stretched_on w c.args.running c.in-Goes.next c.wait_on_cell.result came c.wait_on_cell.ensures.stretches

pub returns-in-Wake-clause-stretches : goal.returns-in-Wake-clause-stretches
returns-in-Wake-clause-stretches g c =
    let w = c.args.self.now in
    let next = c.in-Goes.next in
    let came = subst (λ (w : Words). Stretches w c.args.running (stretch.Goes c.in-Goes.next)) c.self.view_is c.in-Goes.ensures.stretches in
    stretched_on w c.args.running next c.onward.result came (onward w next c.wake.result c.onward.result c.onward.ensures c.wake.ensures.words c.wake.ensures.keeps c.wake.ensures.decided)

pub returns-in-Trim-clause-stretches : goal.returns-in-Trim-clause-stretches
returns-in-Trim-clause-stretches g c =
    let w = c.args.self.now in
    let next = c.in-Goes.next in
    let came = subst (λ (w : Words). Stretches w c.args.running (stretch.Goes c.in-Goes.next)) c.self.view_is c.in-Goes.ensures.stretches in
    stretched_on w c.args.running next c.onward-in-Trim.result came (onward w next c.trim.result c.onward-in-Trim.result c.onward-in-Trim.ensures c.trim.ensures.words c.trim.ensures.keeps c.trim.ensures.decided)

pub returns-in_default-clause-stretches : goal.returns-in_default-clause-stretches
returns-in_default-clause-stretches g c =
    let w = c.args.self.now in
    let next = c.in-Goes.next in
    let came = subst (λ (w : Words). Stretches w c.args.running (stretch.Goes c.in-Goes.next)) c.self.view_is c.in-Goes.ensures.stretches in
    let there = subst (λ (w : Words). IsTurnOf w c.access.result) c.self.view_is c.access.ensures.words in
    let keeps = subst (λ (w : Words). Keeps w next c.access.result) c.self.view_is c.access.ensures.keeps in
    let decided = subst (λ (w : Words). KeepsDecided w next c.access.result) c.self.view_is c.access.ensures.decided in
    stretched_on w c.args.running next c.onward-in_default.result came (onward w next c.access.result c.onward-in_default.result c.onward-in_default.ensures there keeps decided)

pub returns-in_default-clause-fate : goal.returns-in_default-clause-fate
returns-in_default-clause-fate g c =
    let asked = heeds_as _ _ _ _ _ 0 (ap (λ (b : Bool). if◌then◌else◌ {A = ℕ} b 1 0) c.if-either_stops.false) c.either_stops.ensures in
    heeds_onward _ _ _ _ c.access.result c.onward-in_default.result c.onward-in_default.ensures (heeds_on _ _ _ _ _ _ _ c.in-Goes.ensures.fate asked)
