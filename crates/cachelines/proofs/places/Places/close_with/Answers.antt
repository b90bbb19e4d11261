use Rattle.std.specs.Mem.Slots.{slots_items}
use Rattle.cachelines.proofs.Spread.{final_seen}
use Rattle.cachelines.proofs.places.Places.close_with.Goals as goal

pub returns-clause-last : goal.returns-clause-last
returns-clause-last g c =
    let key = c.args.self.table.shared.key in
    final_seen (g.P.PlaceRule.how_many key) c.args.self.count c.args.seat.id (g.P.PlaceRule.holds key) c.args.seat.me.0 (slots_items c.close_with-closed.result.words) (slots_items c.close_with-closed.result.slots)
    c.requires.all c.close_with-closed.ensures.values.2
