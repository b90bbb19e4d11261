-- What locks and unlocks come to in one straight line.
--
-- *A straight line.* Accesses of a lock or an unlock that nobody crosses: it replies, or its thread died in it, as an
-- access by itself would have it; or it was crossed, and what the access was answered at which it left its line leads on
-- from there, by its rows. That answer is the last word that its thread has found; and the call stands where this one
-- answer leads and no further, so a wake that is owed then is still to be made. An unlock replies OK in its line only
-- where its release found that nobody waits.
use Rattle.std.specs.Prelude.{◌≡◌, ◌⊎◌, ℕ, Result, Ok, Err, MatchBool, nat_le}
use Rattle.lockword.specs.declared.reply.Reply.{Reply}
use Rattle.lockword.specs.declared.reply.Reply.TheVariants.{OK, XHELD}
use Rattle.stepprograms.specs.declared.access.Answer.{Answer}
use Rattle.stepprograms.specs.declared.access.Answer.TheVariants.{Changed, Value}
use Rattle.stepprograms.specs.Accesses.{answer_at}
use Rattle.memorymap.specs.Layouts.{cell_place}
use Rattle.posixmutex.specs.Objects.{held_limit}
use Rattle.mutex.specs.declared.call.Call.{Call}
use Rattle.mutex.specs.declared.call.Call.TheVariants as call
use Rattle.mutex.specs.declared.phase.Phase.{Phase}
use Rattle.mutex.specs.declared.phase.Phase.TheVariants as phase
use Rattle.mutex.specs.Standings.{Whole}
use Rattle.mutex.specs.Whole.{whole_access, whole_led, whole_moved, IsUnderWay as IsInProgress, PhaseKnows}
use Rattle.ruledwords.specs.declared.pass.Words.{Words}
use Rattle.ruledwords.specs.declared.pass.Pass.{Pass}
use Rattle.ruledwords.specs.declared.pass.Live.{Live}
use Rattle.ruledwords.specs.declared.step.End.{End}
use Rattle.ruledwords.specs.declared.step.End.TheVariants as end
use Rattle.ruledwords.specs.declared.turn.Turn.{Turn}
use Rattle.ruledwords.specs.declared.turn.Turn.TheVariants.{Lives}
use Rattle.ruledwords.specs.declared.uncrossed.Line.{Line}
use Rattle.ruledwords.specs.declared.uncrossed.Crossed.{Crossed}
use Rattle.ruledwords.specs.declared.uncrossed.Crossed.TheVariants as crossed
use Rattle.ruledwords.specs.declared.uncrossed.Crossing.{Crossing}
use Rattle.ruledwords.specs.declared.uncrossed.Straight.{Straight}
use Rattle.ruledwords.specs.declared.uncrossed.Straight.TheVariants as straight
use Rattle.ruledwords.specs.InLine.{loading_lock, loading_unlock, releasing, stands, taking, RepliesOk}
use Rattle.ruledwords.specs.Outcomes.{FreesAlone}
use Rattle.ruledwords.specs.Passes.{card, layout_of}
use Rattle.ruledwords.specs.Releases.{IsReleasing}
use Rattle.ruledwords.specs.Seen.{held}
use Rattle.ruledwords.specs.Stretches.{ComesOn, ComesToEnd}
use Rattle.ruledwords.specs.Turns.{GoesOn, HasDied, IsIn, Onward, TrimsNone}

-- where it stood that left its line
abbrev pub crossed_phase : Crossed → Phase
crossed_phase (crossed.Locking n) = loading_lock
crossed_phase (crossed.Meeting c n) = taking c
crossed_phase (crossed.Unlocking n) = loading_unlock
crossed_phase (crossed.Releasing n) = releasing

-- and what it was answered there
abbrev pub crossed_answer : Crossed → Answer
crossed_answer (crossed.Locking n) = Value n
crossed_answer (crossed.Meeting c n) = Changed n
crossed_answer (crossed.Unlocking n) = Value n
crossed_answer (crossed.Releasing n) = Value n

-- where that leads
abbrev pub crossed_call : Line → Crossed → Whole
crossed_call l x =
    whole_moved (stands l (crossed_phase x)) (whole_led (stands l (crossed_phase x)) (crossed_answer x))

-- it is what the access answers there that finds this word
abbrev pub IsAnswered : Line → Crossed → ℕ → Type 0
IsAnswered l x n = crossed_answer x ≡ answer_at (whole_access (stands l (crossed_phase x))) n

-- accesses were made in the call p that left its line there
pub record Crosses (w : Words) (a : Pass Live) (p : Whole) (b : Pass Live) (l : Line) (x : Crossed) : Type 0 where
  pub knows : PhaseKnows (crossed_phase x)
  pub found : IsAnswered l x (card b).last
  pub trims : TrimsNone (card a) (card b)
  pub goes : IsInProgress (crossed_call l x).phase → ComesOn w a p b (crossed_call l x)
  pub ends : (y : Reply) → (crossed_call l x).phase ≡ phase.Ended y → ComesToEnd w a p b (end.Replied y)

-- or it ended in them, with OK where it replied
abbrev pub ComesAcross : Words → Pass Live → Whole → Pass Live → Line → Result Crossed End → Type 0
ComesAcross w a p b l (Ok x) = Crosses w a p b l x
ComesAcross w a p b l (Err e) = ComesToEnd w a p b e × RepliesOk e

-- ---- as the crates above see it

abbrev pub crossing_call : Crossing → Whole
crossing_call x = crossed_call x.line x.at

-- a call that began at the pass a has left its line: it is under way, or has replied. What it was answered last tells the
-- last word that its thread has found, which has made no trim
pub record CrossedFrom (w : Words) (a : Pass Live) (call : Call) (x : Crossing) : Type 0 where
  pub knows : PhaseKnows (crossed_phase x.at)
  pub found : IsAnswered x.line x.at (card x.pass).last
  pub trims : TrimsNone (card a) (card x.pass)
  pub goes : IsInProgress (crossing_call x).phase → IsIn w a call x.pass (crossing_call x)
  pub ends : (y : Reply) → (crossing_call x).phase ≡ phase.Ended y → GoesOn w a call (Lives x.pass y)

abbrev pub IsCrossingOf : Words → Crossing → Type 0
IsCrossingOf w x = (a : Pass Live) × (call : Call) × CrossedFrom w a call x

-- it stands where that answer leads, no further, its pass as it was; or it has replied so
abbrev pub StandsWhereLed : Crossing → Turn → Type 0
StandsWhereLed x turn = Onward (stands x.line (crossed_phase x.at)) (crossed_answer x.at) x.pass turn

-- one that began at the pass a has come to this. Its thread has made no trim: that is a section
abbrev pub StraightFrom : Words → Pass Live → Call → Straight → Type 0
StraightFrom w a call (straight.Crossed x) = CrossedFrom w a call x
StraightFrom w a call (straight.Lives b y) = GoesOn w a call (Lives b y) × TrimsNone (card a) (card b)
StraightFrom w a call (straight.Dead d) = HasDied w a call d × TrimsNone (card a) (card d)

-- a lock of mutex m by a thread whose pass was a: it was refused where the thread holds 2,048 mutexes
abbrev pub LocksStraight : Words → ℕ → Pass Live → Straight → Type 0
LocksStraight w m a s =
    MatchBool (nat_le held_limit (held (card a))) (s ≡ straight.Lives a XHELD) (StraightFrom w a (call.Lock m) s)

-- a lock that replied in its line has taken its mutex with OK, or was refused. What finds another's mutex, or one that
-- isn't consistent, has left its line: so a wake that an unusable one asks for is still to be made
abbrev pub RepliesStraight : Straight → Type 0
RepliesStraight (straight.Crossed x) = Unit {0}
RepliesStraight (straight.Lives b y) = (y ≡ OK) ⊎ (y ≡ XHELD)
RepliesStraight (straight.Dead d) = Unit {0}

-- an unlock of mutex m by a thread whose pass was a: where it replied OK in its line, nobody was to be woken; and where
-- it left its line, and has released the mutex, it tells of the word that its release found, by which it owes a wake
abbrev pub FreesStraight : Words → ℕ → Pass Live → Straight → Type 0
FreesStraight w m a (straight.Crossed x) =
    IsInProgress (crossing_call x).phase → IsReleasing w a m x.pass (crossing_call x)
FreesStraight w m a (straight.Lives b y) = y ≡ OK → FreesAlone (card a) (cell_place (layout_of w) m) (card b)
FreesStraight w m a (straight.Dead d) = Unit {0}

-- how often its thread was told to stop
abbrev pub stops_straight : Straight → ℕ
stops_straight (straight.Crossed x) = 0
stops_straight (straight.Lives b y) = 0
stops_straight (straight.Dead d) = 1
