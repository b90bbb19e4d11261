use Rattle.std.proofs.Common.{◌∙◌, ap}
use Rattle.memorymap.specs.Layouts.{Layout'}
use Rattle.protocol.specs.Machine.{start}
use Rattle.outcomes.proofs.first.first_machine.Goals as goal

pub preset_all-requires-clause-starts : goal.preset_all-requires-clause-starts
preset_all-requires-clause-starts c = c.in_ok-machine.ensures.start ∙ ap (λ (l : Layout'). start l (λ k. 0)) c.copy.ensures
