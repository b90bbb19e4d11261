use Rattle.std.proofs.Common.{◌≡◌, true}
use Rattle.interleave.specs.Shown.{state_of}
use Rattle.outcomes.proofs.Presets.{IsPreset}
use Rattle.outcomes.proofs.first.preset_all.Given as goal

abbrev pub invariant-loop-condition : goal.invariant-loop-condition
invariant-loop-condition l = IsPreset l.plan (state_of l.machine) l.condition × (l.machine.fresh ≡ true)
