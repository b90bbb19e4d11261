use Rattle.std.proofs.Common.{◌≡◌, true}
use Rattle.interleave.specs.Shown.{state_of}
use Rattle.script.proofs.Firsts.{IsPreset}
use Rattle.script.proofs.player.preset_all.Given as goal

abbrev pub invariant-loop-condition : goal.invariant-loop-condition
invariant-loop-condition l = IsPreset l.script (state_of l.machine) l.condition × (l.machine.fresh ≡ true)
