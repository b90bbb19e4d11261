-- Runs of a plan, and when one is over.
--
-- *Over.* A run is over where no thread can begin a call, none can make a step, and no time limit can come, if the plan
-- asks for time limits. Kills, leaves and spared wakes don't keep a run from being over.
use Rattle.std.specs.Prelude.{◌≡◌, List, [], ◌∷◌}
use Rattle.protocol.specs.declared.event.Event.{Event}
use Rattle.protocol.specs.declared.event.Event.TheVariants.{Begin, Step, Expire}
use Rattle.outcomes.specs.declared.plan.Plan.{Plan}
use Rattle.outcomes.specs.Positions.{Position}
use Rattle.outcomes.specs.Events.{MayCome, after}

-- the events may come one after the other, from one position on, and lead to another
abbrev pub IsRun : Plan → Position → List Event → Position → Type 0
IsRun plan p [] q = p ≡ q
IsRun plan p (e ∷ es) q = MayCome plan p e × IsRun plan (after plan p e) es q

-- a run goes on by such an event
abbrev pub GoesOn : Event → Type 0
GoesOn (Begin t o) = Unit {0}
GoesOn (Step t) = Unit {0}
GoesOn (Expire t) = Unit {0}
GoesOn e = ⊥

abbrev pub IsOver : Plan → Position → Type 0
IsOver plan p = (e : Event) → GoesOn e → MayCome plan p e → ⊥
