-- Positions as the search keeps them.
use Rattle.std.specs.Prelude.{◌≡◌, List, map, length}
use Rattle.memorymap.specs.Layouts.{Layout'}
use Rattle.interleave.specs.Saved.{saved_state, WasReached}
use Rattle.outcomes.specs.declared.plan.Plan.{Plan}
use Rattle.outcomes.specs.declared.kept.Life.{Life}
use Rattle.outcomes.specs.declared.kept.Kept.{Kept}
use Rattle.outcomes.specs.Positions.{Place, Position}

abbrev pub place_in : Life → Place
place_in life = record { at = life.at; replies = life.replies.items }

abbrev pub places_in : List Life → List Place
places_in lives = map place_in lives

-- the position that is kept, of a plan with this layout
abbrev pub position_in : Layout' → Kept → Position
position_in l k = record { state = saved_state l k.saved; phase = k.phase; places = places_in k.lives.value.items }

-- its machine's state was reached, and it knows how far each thread has come
pub record IsKept (plan : Plan) (k : Kept) : Type 0 where
  pub saved : WasReached plan.layout k.saved
  pub lives : length k.lives.value.items ≡ plan.layout.threads
