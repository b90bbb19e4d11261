-- Which line may be after the lines before it.
--
-- *Fits.* Which line may be after the lines before it: in the order of events (`Later`), as its thread's calls,
-- sleep and death allow, and as the mutex's object allows; a call is out of time only where another thread owned its
-- mutex since it began (`MayTimeOut`); who is reaped owns nothing.
use Rattle.std.specs.Prelude.{ℕ, ◌≡◌, ◌≢◌, ◌<◌, true, false, Option, Some, None, List, [], ◌∷◌, ◌++◌}
use Rattle.posixmutex.specs.declared.object.Object.{Object}
use Rattle.posixmutex.specs.declared.point.Decision.{Decision}
use Rattle.posixmutex.specs.Objects.{Does}
use Rattle.posixmutex.specs.Histories.{held_by}
use Rattle.facts.specs.declared.fact.Begun.{Begun}
use Rattle.facts.specs.declared.fact.Fact.{Fact}
use Rattle.facts.specs.declared.fact.Fact.TheVariants.{Begin, Kill, Point, Death, Sleep}
use Rattle.facts.specs.declared.fact.Fact.TheVariants.{Wake, Move, Return, Reap, Renew}
use Rattle.facts.specs.declared.fact.Line.{Line}
use Rattle.facts.specs.Lives.{Complete, Beginning}
use Rattle.facts.specs.Chances.{MayTimeOut}
use Rattle.facts.specs.Facts.{thread_of, decision_of}
use Rattle.facts.specs.Orders.{Later, Each}
use Rattle.verdict.specs.Earlier.{told_of, call_in, points_in, is_asleep, is_killed, is_reaped}
use Rattle.verdict.specs.Earlier.{objects_after, chances_behind}

-- what may be recorded of a thread of which the facts so far are recorded: one clause for each kind of line
abbrev pub FitsThread : List Fact → Fact → Type 0
FitsThread fs (Begin t c) = (call_in fs ≡ None) × (is_killed fs ≡ false)
FitsThread fs (Kill t) = is_killed fs ≡ false
FitsThread fs (Point d) = (is_asleep fs ≡ false)
    × ((k : Begun) × (call_in fs ≡ Some k) × (d.mutex ≡ k.mutex)
    × Beginning k.operation (points_in fs ++ (d.operation, d.reply) ∷ []))
FitsThread fs (Death t m) = (is_killed fs ≡ true) × (is_reaped fs ≡ false)
FitsThread fs (Sleep t q) = (is_asleep fs ≡ false) × ((k : Begun) × (call_in fs ≡ Some k))
FitsThread fs (Wake t) = is_asleep fs ≡ true
FitsThread fs (Move t m) = is_asleep fs ≡ true
FitsThread fs (Return t x) =
    (is_asleep fs ≡ false) × ((k : Begun) × (call_in fs ≡ Some k) × Complete k.operation (points_in fs) x)
FitsThread fs (Reap t) = (is_killed fs ≡ true) × (is_reaped fs ≡ false)
FitsThread fs (Renew t) = is_reaped fs ≡ true

-- the mutex's object allows the step; n is the number of mutexes
abbrev pub Allows : ℕ → (ℕ → Object) → Option Decision → Type 0
Allows n os None = Unit {0}
Allows n os (Some d) = (new : Object) × Does (held_by d.thread os n) (os d.mutex) d.thread d.operation d.reply new

-- a point tells of a time limit only where another thread owned its mutex at some moment since the call began
abbrev pub IsDue : List Line → Fact → Type 0
IsDue earlier (Point d) = MayTimeOut d.thread d.mutex (chances_behind d.thread d.mutex earlier) (Point d)
IsDue earlier f = Unit {0}

-- who is reaped owns nothing
abbrev pub OwnsNothing : ℕ → (ℕ → Object) → Fact → Type 0
OwnsNothing n os (Reap t) = (m : ℕ) → m < n → (os m).owner ≢ Some t
OwnsNothing n os f = Unit {0}

-- a line may be after the earlier ones
pub record Fits (n : ℕ) (earlier : List Line) (e : Line) : Type 0 where
  pub in_order : Each (λ a. Later a e) earlier
  pub of_thread : FitsThread (told_of (thread_of e.fact) earlier) e.fact
  pub allowed : Allows n (objects_after earlier) (decision_of e.fact)
  pub due : IsDue earlier e.fact
  pub reaped : OwnsNothing n (objects_after earlier) e.fact
