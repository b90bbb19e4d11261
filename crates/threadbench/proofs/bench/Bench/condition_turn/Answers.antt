use Rattle.std.proofs.Common.{ap}
use Rattle.std.specs.Prelude.{ℕ, Bool, if◌then◌else◌}
use Rattle.ruledwords.proofs.Fates.{heeds_on}
use Rattle.threadbench.proofs.Heeding.{heeds_as, heeds_note}
use Rattle.threadbench.proofs.bench.Bench.condition_turn.Goals as goal

pub returns-then-either_stops-clause-comes : goal.returns-then-either_stops-clause-comes
returns-then-either_stops-clause-comes g c = λ a cl u. c.die.ensures.died c.args.self.now a cl u

pub returns-then-either_stops-clause-fate : goal.returns-then-either_stops-clause-fate
returns-then-either_stops-clause-fate g c = heeds_as _ _ _ _ _ 1 (ap (λ (b : Bool). if◌then◌else◌ {A = ℕ} b 1 0) c.if-either_stops.true) c.either_stops.ensures

pub returns-in-Wait-clause-fate : goal.returns-in-Wait-clause-fate
returns-in-Wait-clause-fate g c =
    let asked = heeds_as _ _ _ _ _ 0 (ap (λ (b : Bool). if◌then◌else◌ {A = ℕ} b 1 0) c.if-either_stops.false) c.either_stops.ensures in
    heeds_on _ _ _ _ _ _ _ asked (heeds_note _ _ _ _ c.wait_on_counter.ensures.note)
