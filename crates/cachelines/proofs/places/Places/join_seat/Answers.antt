use Rattle.std.proofs.Common.{arith}
use Rattle.cachelines.proofs.Spread.{joins_spread}
use Rattle.cachelines.proofs.places.Places.join_seat.Goals as goal

pub join_seat-requires : goal.join_seat-requires
join_seat-requires g c = (c.requires.step.0, c.requires.step.1, c.requires.step.2, let wide = c.args.self.now.wide in omega arith, joins_spread _ _ _ _ _ _ _ _ c.requires.step.3)
