use Rattle.std.proofs.Common.{subst}
use Rattle.std.specs.Mem.Slots.{slots_items}
use Rattle.cachelines.specs.Closings.{words_at}
use Rattle.atomic_table.specs.Table.{Final}
use Rattle.memorymap.specs.Layouts.{Layout'}
use Rattle.ruledwords.specs.Passes.{presets_of}
use Rattle.ruledwords.specs.Rules.{Kept}
use Rattle.ruledwords.proofs.Hands.{ends_alone}
use Rattle.ruledwords.proofs.pass.Words.ended_alone.Goals as goal

pub returns-clause-ends : goal.returns-clause-ends
returns-clause-ends c =
    let w = c.args.self in
    let words = words_at c.close-closed.result in
    let slots = slots_items c.close-closed.result.closed.slots in
    ends_alone w.layout (presets_of w) words slots (subst (λ (k : Layout'). Final (Kept k (presets_of w)) words slots) w.key c.close-closed.ensures.last)
