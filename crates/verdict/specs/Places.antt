-- What the checker keeps of the newest event.
use Rattle.std.specs.Prelude.{ℕ, ◌≡◌, ◌≢◌, ◌<◌, ◌==◌, ◌⊎◌, Bool, true, false}
use Rattle.std.specs.Prelude.{◌&&◌, ◌||◌, Option, Some, None, if◌then◌else◌}
use Rattle.facts.specs.declared.fact.Fact.{Fact}
use Rattle.facts.specs.declared.fact.Line.{Line}
use Rattle.verdict.specs.declared.place.Place.{Place}
use Rattle.facts.specs.Facts.{thread_of, decides, is_passive, is_kill}
use Rattle.verdict.specs.declared.misfit.Misfit.{Misfit}
use Rattle.verdict.specs.declared.misfit.Misfit.TheVariants.{EventFalls, AnothersEvent}
use Rattle.verdict.specs.declared.misfit.Misfit.TheVariants.{EventDecided, KillShares, EventKilled}

-- before the first line
abbrev pub nowhere : Place
nowhere = record { event = 0; thread = None; decided = false; killed = false }

-- the event's thread, where it is known, is the fact's, unless somebody else's event did it
abbrev pub Admits : Option ℕ → Fact → Type 0
Admits None f = Unit {0}
Admits (Some t) f = is_passive f ≡ false → thread_of f ≡ t

-- the newest event may have a further line
pub record Shares (p : Place) (f : Fact) : Type 0 where
  pub admits : Admits p.thread f
  pub killed : p.killed ≡ false
  pub kills : is_kill f ≡ false
  pub decides : decides f ≡ true → p.decided ≡ false

-- the entry is of a later event, or of the same and goes with its other lines
abbrev pub Stands : Place → Line → Type 0
Stands p e = (p.event < e.event) ⊎ ((p.event ≡ e.event) × Shares p e.fact)

-- why it isn't of the newest event's thread
abbrev pub IsAnothers : Misfit → Option ℕ → Fact → Type 0
IsAnothers (AnothersEvent t) caller f = (caller ≡ Some t) × (is_passive f ≡ false) × (thread_of f ≢ t)
IsAnothers m caller f = ⊥

-- why the newest event has no such further line
abbrev pub ClashesHere : Misfit → Place → Fact → Type 0
ClashesHere EventKilled p f = p.killed ≡ true
ClashesHere KillShares p f = (p.killed ≡ false) × (is_kill f ≡ true)
ClashesHere EventDecided p f = (p.decided ≡ true) × (decides f ≡ true)
ClashesHere m p f = IsAnothers m p.thread f

-- why the entry may not are there
abbrev pub Clashes : Misfit → Place → Line → Type 0
Clashes (EventFalls n) p e = (n ≡ p.event) × (e.event < n)
Clashes m p e = (p.event ≡ e.event) × ClashesHere m p e.fact

abbrev pub caller : Bool → Option ℕ → Fact → Option ℕ
caller same t f = if is_passive f then (if same then t else None) else Some (thread_of f)

abbrev pub placed : Place → Line → Place
placed p e = record {
  event = e.event;
  thread = caller (p.event == e.event) p.thread e.fact;
  decided = decides e.fact || ((p.event == e.event) && p.decided);
  killed = is_kill e.fact;
}
