-- Accesses of a call that are made one after the other, where the call stands.
--
-- *Stretches.* Accesses of a call that are made one after the other, where it stands: wherever it began, and whatever
-- it was decided, it is under way still, or has replied, or its thread died in it, as an access by itself would have
-- it. An unlock that goes on still tells of the word that its release found; and it ends with OK only where that word
-- said that nobody waits: whoever waits is owed a wake, which is no such access.
use Rattle.std.specs.Prelude.{◌≡◌, ℕ, Result, Ok, Err}
use Rattle.lockword.specs.declared.reply.Reply.{Reply}
use Rattle.lockword.specs.declared.reply.Reply.TheVariants.{OK}
use Rattle.mutex.specs.declared.call.Call.{Call}
use Rattle.mutex.specs.Standings.{Whole}
use Rattle.mutex.specs.Whole.{whole_access}
use Rattle.memorymap.specs.Layouts.{cell_place}
use Rattle.ruledwords.specs.declared.pass.Card.{Card}
use Rattle.ruledwords.specs.declared.pass.Words.{Words}
use Rattle.ruledwords.specs.declared.pass.Pass.{Pass}
use Rattle.ruledwords.specs.declared.pass.Live.{Live}
use Rattle.ruledwords.specs.declared.step.End.{End}
use Rattle.ruledwords.specs.declared.step.End.TheVariants as end
use Rattle.ruledwords.specs.declared.turn.Running.{Running}
use Rattle.ruledwords.specs.declared.turn.Stretch.{Stretch}
use Rattle.ruledwords.specs.declared.turn.Stretch.TheVariants as stretch
use Rattle.ruledwords.specs.declared.turn.Turn.TheVariants.{Goes, Lives}
use Rattle.ruledwords.specs.Outcomes.{FreesAlone}
use Rattle.ruledwords.specs.Passes.{card, layout_of, IsDying}
use Rattle.ruledwords.specs.Releases.{IsReleasing, StaysReleasing}
use Rattle.ruledwords.specs.Turns.{running_call, running_of, running_pass, EndsIn, GoesOn, GoesOnDecided, HasDied}
use Rattle.ruledwords.specs.Turns.{HasSeenTheSame, IsCallOf, IsDecided, IsOneStep, IsRunningOf, IsUnderWay, StaysIn}
use Rattle.ruledwords.specs.Turns.{TrimsNone, Turned}

-- a call on mutex m that was decided, with the reply x at the card c, is at p, with the pass a
abbrev pub IsDecidedIn : Words → ℕ → Card → Reply → Pass Live → Whole → Type 0
IsDecidedIn w m c x a p = (of : IsCallOf w a p) × IsDecided w m c x (running_of w a p of)

abbrev pub StaysDecided : Words → Pass Live → Whole → Pass Live → Whole → Type 0
StaysDecided w a p b q = (m : ℕ) (c : Card) (x : Reply) → IsDecidedIn w m c x a p → IsDecidedIn w m c x b q

-- a call that was at p with the pass a is at q now, with the pass b: wherever it began, and whatever it was
-- decided; and an unlock tells of the word that its release found. Its thread has made no trim
abbrev pub ComesOn : Words → Pass Live → Whole → Pass Live → Whole → Type 0
ComesOn w a p b q = IsCallOf w b q × StaysIn w a p b q × StaysDecided w a p b q × StaysReleasing w a p b q
    × TrimsNone (card a) (card b)

-- an unlock that was at p with the pass a has replied so, and its pass is b: with OK only where nobody was to be
-- woken
abbrev pub EndsAlone : Words → Pass Live → Whole → Pass Live → Reply → Type 0
EndsAlone w a p b y = (x : Pass Live) (m : ℕ) → IsReleasing w x m a p → y ≡ OK
    → FreesAlone (card x) (cell_place (layout_of w) m) (card b)

-- its thread died in it, or it replied
abbrev pub ComesToEnd : Words → Pass Live → Whole → Pass Live → End → Type 0
ComesToEnd w a p b end.Stopped = (q : Whole) × ComesOn w a p b q
ComesToEnd w a p b (end.Replied y) = EndsIn w a p b (end.Replied y)
    × ((m : ℕ) (c : Card) (x : Reply) → IsDecidedIn w m c x a p → GoesOnDecided w m c x (Lives b y))
    × EndsAlone w a p b y × TrimsNone (card a) (card b)

-- an access was made, or the call stays at its section, or it ended
abbrev pub StepsOn : Words → Pass Live → Whole → Pass Live → Whole → Result Unit End → Type 0
StepsOn w a p b q (Ok u) = ComesOn w a p b q
StepsOn w a p b q (Err e) = ComesToEnd w a p b e

-- where it goes on and wasn't at a section, it went one access on
abbrev pub StepsOnce : Words → Pass Live → Whole → Pass Live → Whole → Result Unit End → Type 0
StepsOnce w a p b q (Ok u) = IsOneStep (whole_access p) → (of : IsCallOf w a p)
    → (on : IsCallOf w b q) × Turned (layout_of w) p a (Goes (running_of w b q on))
StepsOnce w a p b q (Err e) = Unit {0}

-- this many accesses were made
abbrev pub StepsTo : Words → Pass Live → Whole → Pass Live → Result Whole End → Type 0
StepsTo w a p b (Ok q) = ComesOn w a p b q
StepsTo w a p b (Err e) = ComesToEnd w a p b e

-- ---- as the crates above see it

-- a call that began at the pass a has come to this
abbrev pub StretchesFrom : Words → Pass Live → Call → Stretch → Type 0
StretchesFrom w a call (stretch.Goes r) = IsUnderWay w a call r
StretchesFrom w a call (stretch.Lives b x) = GoesOn w a call (Lives b x)
StretchesFrom w a call (stretch.Dead d) = HasDied w a call d

-- a call on mutex m that was decided, with the reply x at the card c, has come to this
abbrev pub StretchesDecided : Words → ℕ → Card → Reply → Stretch → Type 0
StretchesDecided w m c x (stretch.Goes r) = IsDecided w m c x r
StretchesDecided w m c x (stretch.Lives b y) = GoesOnDecided w m c x (Lives b y)
StretchesDecided w m c x (stretch.Dead d) = IsDying w d × HasSeenTheSame (cell_place (layout_of w) m) c (card d)

-- one that goes on is a call on these words
abbrev pub GoesOnThere : Words → Stretch → Type 0
GoesOnThere w (stretch.Goes r) = IsRunningOf w r
GoesOnThere w s = Unit {0}

-- by accesses that were made one after the other a running call has come to this: wherever it began, and whatever it
-- was decided
abbrev pub Stretches : Words → Running → Stretch → Type 0
Stretches w r s =
    GoesOnThere w s × ((a : Pass Live) (call : Call) → IsUnderWay w a call r → StretchesFrom w a call s)
    × ((m : ℕ) (c : Card) (x : Reply) → IsDecided w m c x r → StretchesDecided w m c x s)

-- what the call knows besides, that was at p with the pass a: an unlock that goes on tells of the word that its
-- release found, by which it owes a wake; where it replied OK, nobody was to be woken. Its thread has made no trim
abbrev pub StretchesAlone : Words → Pass Live → Whole → Stretch → Type 0
StretchesAlone w a p (stretch.Goes r) =
    StaysReleasing w a p (running_pass r) (running_call r) × TrimsNone (card a) (card (running_pass r))
StretchesAlone w a p (stretch.Lives b y) = EndsAlone w a p b y × TrimsNone (card a) (card b)
StretchesAlone w a p (stretch.Dead d) = TrimsNone (card a) (card d)

-- how often its thread was told to stop
abbrev pub stops_stretching : Stretch → ℕ
stops_stretching (stretch.Goes r) = 0
stops_stretching (stretch.Lives b x) = 0
stops_stretching (stretch.Dead d) = 1
