-- How the lines of a trace follow each other.
use Rattle.std.specs.Prelude.{◌≡◌, ◌<◌, ◌≤◌, true, false, List, [], ◌∷◌}
use Rattle.facts.specs.declared.fact.Line.{Line}
use Rattle.facts.specs.Facts.{thread_of, decides, is_passive, is_kill}

-- how line b may be after line a, near or far: the numbers of events never fall, and those of points and deaths
-- rise; an event is one thread's, whomever it wakes or moves; and a kill is an event of its own
pub record Later (a b : Line) : Type 0 where
  pub never_falls : a.event ≤ b.event
  pub decisions_rise : decides a.fact ≡ true → decides b.fact ≡ true → a.event < b.event
  pub one_thread : a.event ≡ b.event → is_passive a.fact ≡ false → is_passive b.fact ≡ false
      → thread_of a.fact ≡ thread_of b.fact
  pub kill_before : is_kill a.fact ≡ true → a.event < b.event
  pub kill_behind : is_kill b.fact ≡ true → a.event < b.event

abbrev pub Each : (Line → Type 0) → List Line → Type 0
Each P [] = Unit {0}
Each P (l ∷ ls) = P l × Each P ls

-- lines in the order in which they were recorded: each may stand before each one that follows it
abbrev pub Orderly : List Line → Type 0
Orderly [] = Unit {0}
Orderly (l ∷ ls) = Each (Later l) ls × Orderly ls
