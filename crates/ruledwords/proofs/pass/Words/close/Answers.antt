use Rattle.std.proofs.Common.{List, [], ◌∷◌, subst}
use Rattle.atomic_table.specs.Table.{Final, Seen}
use Rattle.std.specs.Mem.Slots.{slots_items}
use Rattle.cachelines.specs.Closings.{words_at}
use Rattle.memorymap.specs.Layouts.{Layout'}
use Rattle.ruledwords.specs.declared.pass.Card.{Card}
use Rattle.ruledwords.specs.Rules.{card_of, Kept}
use Rattle.ruledwords.specs.Passes.{presets_of}
use Rattle.ruledwords.proofs.Hands.{ends}
use Rattle.ruledwords.proofs.pass.Words.close.Goals as goal

pub returns-clause-ends : goal.returns-clause-ends
returns-clause-ends g c = let last = c.close_with-closed.ensures.last in
    ends c.args.self.layout (presets_of c.args.self) c.args.pass.seat.id (card_of c.args.pass.seat.me.0 ∷ []) (words_at c.close_with-closed.result) _
    (subst (λ (z : Layout' × List Card). Final (Seen (Kept z.0 (presets_of c.args.self)) c.args.pass.seat.id z.1) (words_at c.close_with-closed.result) (slots_items c.close_with-closed.result.closed.slots))
    (λ i. (c.args.self.key i, (c.args.pass.one i).0)) last)
