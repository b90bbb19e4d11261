-- The one seat that the seats of passes become where they meet.
use Rattle.std.specs.Prelude.{◌≡◌, List, [], Option, None, Some}
use Rattle.atomic_table.specs.declared.shared.Seat.{Seat}
use Rattle.ruledwords.specs.declared.pass.Card.{Card}
use Rattle.ruledwords.specs.declared.pass.Words.{Words}

-- one seat of these words has the cards, or there are none
abbrev pub HaveCome : Words → List Card → Option (Seat (Unit {0}) (List Card)) → Type 0
HaveCome w cards None = cards ≡ []
HaveCome w cards (Some s) = (s.table_id ≡ w.places.table.shared.table_id) × (s.me ≡ (cards, []))
