use Rattle.std.proofs.Common.{arith}
use Rattle.cachelines.proofs.Spread.{splits_spread}
use Rattle.cachelines.proofs.places.Places.split_seat.Goals as goal

pub split_seat-requires : goal.split_seat-requires
split_seat-requires g c = (c.requires.step.0, let wide = c.args.self.now.wide in omega arith, splits_spread _ _ _ _ _ _ c.requires.step.1)
