use Rattle.std.proofs.Common.{◌<◌, ◌≤◌, Option, length, arith, refl, ◌≡◌, ◌∙◌, sym, ap, ℕ}
use Rattle.std.specs.Prelude.{slice_index, unwrap_or, option_map}
use denote.Bor.{Bor}
use Rattle.interleave.specs.Shown.{state_of}
use Rattle.outcomes.proofs.Presets.{preset_first, preset_next, preset_last, preset_read}
use Rattle.outcomes.proofs.first.preset_all.Goals as goal
use Rattle.outcomes.proofs.first.preset_all.Goals.{in-Some, in-None}

pub loop-condition-init : goal.loop-condition-init
loop-condition-init c = (preset_first c.args.plan.now (state_of c.args.machine.now) c.requires.starts, c.requires.fresh)

pub loop-condition-preserved : goal.loop-condition-preserved
loop-condition-preserved c =
    let plan = c.args.plan.now in
    let k = c.loop-condition.condition in
    let below : k < length plan.layout.conditions = (let n = c.conditions-condition-end.ensures.value in let lt = c.loop-condition-test.true in omega arith) in
    let first : c.from.result ≤ c.from.result = omega arith in
    let read : unwrap_or (option_map (λ x. x.now) c.get.result) 0 ≡ slice_index plan.presets.items k = c.get.ensures.lookup.4 first 0 ∙ (λ i. slice_index (c.deref.ensures.value i) (c.from.ensures i)) in
    let value : c.match-get.value ≡ slice_index plan.presets.items k = elim c.match-get.branch [
      | in-Some w ↦ w.value-is ∙ sym (ap (λ (r : Option (Bor ℕ)). unwrap_or (option_map (λ x. x.now) r) 0) w.in-Some.is) ∙ read
      | in-None w ↦ w.value-is ∙ sym (ap (λ (r : Option (Bor ℕ)). unwrap_or (option_map (λ x. x.now) r) 0) w.in-None.is) ∙ read
    ] in
    (preset_next plan (state_of c.loop-condition.machine) (state_of c.preset.new.self) c.loop-condition.machine.layout k c.match-get.value c.loop-condition.invariant.0 below (preset_read plan k c.match-get.value below value) refl c.preset.ensures.state, c.preset.ensures.fresh)

pub returns : goal.returns
returns c = let count = c.conditions-condition-end.ensures.value in let over = c.loop-condition-test.false in preset_last c.args.plan.now (state_of c.loop-condition.machine) c.loop-condition.condition (omega arith) c.loop-condition.invariant.0
