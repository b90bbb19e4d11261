-- What legal traces promise where no thread lives again: as much as where an id belongs to one thread.
use Rattle.std.specs.Prelude.{ℕ, ◌≡◌, false, List, ◌∷◌, ◌++◌, reverse}
use Rattle.posixmutex.specs.declared.object.Object.{Object}
use Rattle.posixmutex.specs.Histories.{Legal, opening}
use Rattle.facts.specs.declared.fact.Fact.TheVariants.{Kill}
use Rattle.facts.specs.declared.fact.Line.{Line}
use Rattle.facts.specs.Facts.{is_renewal}
use Rattle.facts.specs.Lives.{own, Life}
use Rattle.facts.specs.Orders.{Each}
use Rattle.verdict.specs.Explained.{decisions, Buries, Explains}

-- each thread has one life; and at each kill all that is recorded after it is of this life; the lines stand newest
-- first, and n is the number of mutexes
pub record LivesOnce (n : ℕ) (told : List Line) : Type 0 where
  pub one_life : (t : ℕ) → Life t (own t (reverse told))
  pub deaths_told : (newer earlier : List Line) (i t : ℕ)
      → told ≡ newer ++ (record { event = i; fact = Kill t }) ∷ earlier →
      (held : ℕ → Object) × Legal n opening (decisions (reverse earlier)) held × Buries t n held newer

-- lines that explain themselves, of which none tells that a thread lives again
abbrev pub WithoutRenewalsAsBefore : Type 0
WithoutRenewalsAsBefore =
    (n : ℕ) (told : List Line) → Explains n told → Each (λ e. is_renewal e.fact ≡ false) told → LivesOnce n told
