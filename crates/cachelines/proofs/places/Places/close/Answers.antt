use Rattle.std.specs.Mem.Slots.{slots_items}
use Rattle.cachelines.proofs.Spread.{final_spread}
use Rattle.cachelines.proofs.places.Places.close.Goals as goal

pub returns-clause-last : goal.returns-clause-last
returns-clause-last g c =
    let key = c.args.self.table.shared.key in
    final_spread (g.P.PlaceRule.how_many key) c.args.self.count (g.P.PlaceRule.holds key) (slots_items c.close-closed.result.words) (slots_items c.close-closed.result.slots) c.requires c.close-closed.ensures.values.2
