use Rattle.std.proofs.Common.{◌<◌, length, refl, arith}
use Rattle.interleave.specs.Shown.{state_of}
use Rattle.script.proofs.Firsts.{preset_first, preset_next, preset_last}
use Rattle.script.proofs.player.preset_all.Goals as goal

pub loop-condition-init : goal.loop-condition-init
loop-condition-init c = (preset_first c.args.script.now (state_of c.args.machine.now) c.requires.starts, c.requires.fresh)

pub loop-condition-preserved : goal.loop-condition-preserved
loop-condition-preserved c =
    let s = c.args.script.now in
    let count = c.conditions-condition-end.ensures.count in
    let below = c.loop-condition-test.true in
    let inside : c.loop-condition.condition < length s.conditions = omega arith in
    (preset_next s (state_of c.loop-condition.machine) (state_of c.preset.new.self) c.loop-condition.machine.layout c.loop-condition.condition c.condition.result c.loop-condition.invariant.0 inside c.condition.ensures refl c.preset.ensures.state, c.preset.ensures.fresh)

pub returns : goal.returns
returns c =
    let count = c.conditions-condition-end.ensures.count in
    let over = c.loop-condition-test.false in
    preset_last c.args.script.now (state_of c.loop-condition.machine) c.loop-condition.condition (omega arith) c.loop-condition.invariant.0
