-- What is kept of each pass while all of them meet, and their seats are one.
use Rattle.std.specs.Prelude.{◌≡◌, ℕ, Bool, true, false, Some, List, slice_get}
use Rattle.ruledwords.specs.declared.away.Away.{Away}
use Rattle.ruledwords.specs.declared.pass.Card.{Card}
use Rattle.ruledwords.specs.declared.pass.EitherPass.{EitherPass}
use Rattle.ruledwords.specs.declared.pass.EitherPass.TheVariants.{First, Second}
use Rattle.ruledwords.specs.declared.pass.Words.{Words}
use Rattle.ruledwords.specs.Seen.{held}

module _ {A B : Type 0} where
  abbrev pub away_of : EitherPass A B → Away
  away_of (First p) = record { thread = p.thread; held = p.held; is_first = true; few = p.few }
  away_of (Second p) = record { thread = p.thread; held = p.held; is_first = false; few = p.few }

  abbrev pub IsAt : Words → EitherPass A B → Type 0
  IsAt w (First p) = p.seat.table_id ≡ w.places.table.shared.table_id
  IsAt w (Second p) = p.seat.table_id ≡ w.places.table.shared.table_id

abbrev pub kind_of : Away → Bool
kind_of a = a.is_first

-- each of these cards is of the thread that is away
abbrev pub AreTheirs : List Away → List Card → Type 0
AreTheirs aways cards = (i : ℕ) (a : Away) (c : Card) → slice_get aways i ≡ Some a → slice_get cards i ≡ Some c
    → (c.thread ≡ a.thread) × (a.held ≡ held c)
