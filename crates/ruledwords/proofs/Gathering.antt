-- Seats that come together.
use Rattle.std.proofs.Common.{◌≡◌, List, Option, None, Some, IfSome}
use Rattle.atomic_table.specs.declared.shared.Seat.{Seat}
use Rattle.ruledwords.specs.declared.pass.Card.{Card}
use Rattle.ruledwords.specs.declared.pass.Words.{Words}
use Rattle.ruledwords.specs.Gathered.{HaveCome}

-- the seat is one of these words
pub at_home : (w : Words) (cards : List Card) (s : Option (Seat (Unit {0}) (List Card))) → HaveCome w cards s → IfSome s (λ z. z.table_id ≡ w.places.table.shared.table_id)
at_home w cards None come = tt
at_home w cards (Some s) come = come.0
