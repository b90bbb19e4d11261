-- What passes come to know where all of them meet.
--
-- *All meet.* Passes of some threads that met know one legal history of each mutex, which begins with what each had
-- seen and has of each of their threads just its own points, and the changes of each word likewise, of which threads of
-- the layout made those that one of them hadn't known of. Nothing else that they know changes, and each is of the kind
-- that it was.
--
-- *After a meeting.* Where two have met, the points of each call that one of them makes then stand after all that the
-- other had seen of the mutex.
use Rattle.std.specs.Prelude.{◌≡◌, ℕ, Bool, true, false, Some, List, [], ◌++◌, map, slice_get, All}
use mathlib.Core.List.{IsPrefix}
use Rattle.posixmutex.specs.declared.object.Object.{Object}
use Rattle.posixmutex.specs.declared.point.Point.{Point}
use Rattle.facts.specs.Lives.{Act}
use Rattle.ruledwords.specs.declared.pass.Card.{Card}
use Rattle.ruledwords.specs.declared.pass.Change.{Change}
use Rattle.ruledwords.specs.declared.pass.EitherPass.{EitherPass}
use Rattle.ruledwords.specs.declared.pass.EitherPass.TheVariants.{First, Second}
use Rattle.ruledwords.specs.declared.pass.Words.{Words}
use Rattle.ruledwords.specs.Cards.{at}
use Rattle.ruledwords.specs.Changes.{changes_at, AreBehindFirst, Tied}
use Rattle.ruledwords.specs.Lists.{StaysSo}
use Rattle.ruledwords.specs.Passes.{card, layout_of, IsPassOf}
use Rattle.ruledwords.specs.Rules.{At, Sat}
use Rattle.ruledwords.specs.Seen.{by, points_of, Joined, Leaves, Saw}

-- these histories of mutexes and these changes of words begin with what the card has of them, and have of its thread
-- just its own points and changes. The histories are legal; and the changes of a word, except for the first, are by
-- threads that there are, as are all that the card hasn't
pub record ComesToKnow (seen : List (List Point)) (changes : List (List Change)) (c : Card) : Type 0 where
  pub legal : (p : ℕ) → (o : Object) × Leaves c.threads p (at seen p) o
  pub begins : (p : ℕ) → IsPrefix (at c.seen p) (at seen p)
  pub own : (p : ℕ) → by c.thread (at seen p) ≡ by c.thread (at c.seen p)
  pub tied : Tied c.threads changes c.thread c.changes
  pub authors : (p : ℕ) → AreBehindFirst c.threads (changes_at changes p)

-- what the card knows after the meeting
abbrev pub behind_meeting : List (List Point) → List (List Change) → Card → Card
behind_meeting seen changes c = record c { seen = seen; changes = changes }

-- threads with these cards met: all of them know one history of each mutex, and the same changes of each word
pub record KnowAll (cs ds : List Card) : Type 0 where
  pub seen : List (List Point)
  pub changes : List (List Change)
  pub each : All (ComesToKnow seen changes) cs
  pub after : ds ≡ map (behind_meeting seen changes) cs

-- a load by a seat that has all cards
abbrev pub met_all : At → Sat → ℕ → Sat → Type 0
met_all st me r me' = (cs : List Card) → me ≡ (cs, []) → (ds : List Card) × (me' ≡ (ds, [])) × KnowAll cs ds

module _ {A B : Type 0} where
  -- what the pass knows
  abbrev pub card_in : EitherPass A B → Card
  card_in (First p) = card p
  card_in (Second p) = card p

  abbrev pub is_first : EitherPass A B → Bool
  is_first (First p) = true
  is_first (Second p) = false

  abbrev pub IsEitherOf : Words → EitherPass A B → Type 0
  IsEitherOf w (First p) = IsPassOf w p
  IsEitherOf w (Second p) = IsPassOf w p

  -- passes of these words met, and are what they were
  pub record HaveMet (w : Words) (ps qs : List (EitherPass A B)) : Type 0 where
    pub kinds : map is_first qs ≡ map is_first ps
    pub know : KnowAll (map card_in ps) (map card_in qs)
    pub of : All (IsEitherOf w) qs
    pub lists : (i : ℕ) (c d : Card) → slice_get (map card_in ps) i ≡ Some c → slice_get (map card_in qs) i ≡ Some d
        → StaysSo (layout_of w) c d

-- ---- calls after a meeting

-- thread t saw these points of its own at p, as the call's that it made after a meeting, and they stand after all
-- that a thread had seen of the mutex that came to the meeting with the card c
pub record StandsBehind (c : Card) (t p : ℕ) (acts : List Act) (e : Card) : Type 0 where
  pub before : List Point
  pub behind : List Point
  pub all : at e.seen p ≡ before ++ behind
  pub first : IsPrefix (at c.seen p) before
  pub own : by t behind ≡ points_of t p acts

-- where two have met, each call that one of them makes then stands after all calls that the other had made
abbrev pub MeetingsOrderCalls : Type 0
MeetingsOrderCalls = (c d c' d' e : Card) (p : ℕ) (acts : List Act) → Joined c d c' d'
    → (Saw d' p acts e → StandsBehind c d.thread p acts e) × (Saw c' p acts e → StandsBehind d c.thread p acts e)
