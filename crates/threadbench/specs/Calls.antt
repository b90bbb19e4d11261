-- What calls answer that may sleep or wake.
use Rattle.std.specs.Prelude.{ℕ, ◌≡◌, ◌+◌, ◌⊎◌}
use Rattle.lockword.specs.declared.reply.Reply.{Reply}
use Rattle.lockword.specs.declared.reply.Reply.TheVariants.{OK}
use Rattle.posixmutex.specs.declared.point.Operation.TheVariants as operation
use Rattle.memorymap.specs.Layouts.{cell_place}
use Rattle.mutex.specs.declared.call.Call.{Call}
use Rattle.ruledwords.specs.declared.pass.Card.{Card}
use Rattle.ruledwords.specs.declared.pass.Words.{Words}
use Rattle.ruledwords.specs.declared.pass.Pass.{Pass}
use Rattle.ruledwords.specs.declared.pass.Live.{Live}
use Rattle.ruledwords.specs.declared.turn.Outcome.{Outcome}
use Rattle.ruledwords.specs.declared.turn.Outcome.TheVariants as outcome
use Rattle.ruledwords.specs.declared.turn.Owed.{Owed}
use Rattle.ruledwords.specs.declared.turn.Running.{Running}
use Rattle.ruledwords.specs.declared.turn.Stretch.{Stretch}
use Rattle.ruledwords.specs.declared.turn.Stretch.TheVariants as stretch
use Rattle.ruledwords.specs.declared.turn.Turn.{Turn}
use Rattle.ruledwords.specs.declared.turn.Turn.TheVariants.{Goes, Lives}
use Rattle.ruledwords.specs.Outcomes.{SeesNoMore, Takes, DiesTaking}
use Rattle.ruledwords.specs.Passes.{card, layout_of, IsLive, IsDying}
use Rattle.ruledwords.specs.Turns.{GoesOn, GoesOnDecided, HasDied, HasSeenTheSame, IsDecided, IsUnderWay}

-- a lock of mutex m, whether it slept before or not
abbrev pub Locked : Words → ℕ → Pass Live → Outcome → Type 0
Locked w m a (outcome.Lives b r) = IsLive w b × Takes (layout_of w) m operation.Lock (card a) r (card b)
Locked w m a (outcome.Dead d) = IsDying w d × DiesTaking (layout_of w) m operation.Lock (card a) (card d)

-- an unlock ends with OK once its sleepers are woken, or its word is trimmed. Nothing new is seen
abbrev pub Paid : Words → Owed → Outcome → Type 0
Paid w o (outcome.Lives b r) = IsLive w b × (r ≡ OK) × SeesNoMore w o (card b)
Paid w o (outcome.Dead d) = IsDying w d × SeesNoMore w o (card d)

-- a call that began at the pass a was run to its end, or its thread died in it
abbrev pub RanOut : Words → Pass Live → Call → Outcome → Type 0
RanOut w a call (outcome.Lives b r) = GoesOn w a call (Lives b r)
RanOut w a call (outcome.Dead d) = HasDied w a call d

-- a call on mutex m that was decided, with the reply x at the card c, was run to its end, or its thread died before
abbrev pub RanOutDecided : Words → ℕ → Card → Reply → Outcome → Type 0
RanOutDecided w m c x (outcome.Lives b r) = GoesOnDecided w m c x (Lives b r)
RanOutDecided w m c x (outcome.Dead d) = IsDying w d × HasSeenTheSame (cell_place (layout_of w) m) c (card d)

-- wherever the call began, and whatever it was decided
abbrev pub Runs : Words → Running → Outcome → Type 0
Runs w r end = ((a : Pass Live) (call : Call) → IsUnderWay w a call r → RanOut w a call end)
    × ((m : ℕ) (c : Card) (x : Reply) → IsDecided w m c x r → RanOutDecided w m c x end)

-- a call by the bench ended so, whose fate had said f times that the thread stops and has said it f' times now: the
-- thread lives where the fate didn't say so, and dies where it did, or where the thread was killed
abbrev pub IsHeeded : ℕ → ℕ → Outcome → Type 0
IsHeeded f f' (outcome.Lives b r) = f' ≡ f
IsHeeded f f' (outcome.Dead d) = (f' ≡ f + 1) ⊎ (f' ≡ f)

-- an access in which nobody died
abbrev pub stretch_of : Turn → Stretch
stretch_of (Goes r) = stretch.Goes r
stretch_of (Lives b x) = stretch.Lives b x
