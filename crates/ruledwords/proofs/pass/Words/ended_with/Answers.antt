use Rattle.std.proofs.Common.{subst}
use Rattle.std.specs.Mem.Slots.{slots_items}
use Rattle.cachelines.specs.Closings.{words_at}
use Rattle.atomic_table.specs.Table.{Final, Seen}
use Rattle.memorymap.specs.Layouts.{Layout'}
use Rattle.ruledwords.specs.Passes.{presets_of}
use Rattle.ruledwords.specs.Rules.{Kept}
use Rattle.ruledwords.proofs.Hands.{ends}
use Rattle.ruledwords.proofs.pass.Words.ended_with.Goals as goal

pub returns-clause-ends : goal.returns-clause-ends
returns-clause-ends c =
    let w = c.args.self in
    let words = words_at c.close_with-last.result in
    let slots = slots_items c.close_with-last.result.closed.slots in
    ends w.layout (presets_of w) c.args.seat.id c.args.seat.me.0 words slots
    (subst (λ (k : Layout'). Final (Seen (Kept k (presets_of w)) c.args.seat.id c.args.seat.me.0) words slots) w.key c.close_with-last.ensures.last)
