-- Unlocks up to the waking of sleepers.
use Rattle.std.specs.Prelude.{◌≡◌, ◌≢◌, ℕ, Result, Ok, Err, [], ◌∷◌}
use Rattle.lockword.specs.Cells.{fields_of}
use Rattle.lockword.specs.declared.reply.Reply.{Reply}
use Rattle.lockword.specs.declared.reply.Reply.TheVariants.{EPERM}
use Rattle.memorymap.specs.Layouts.{cell_place}
use Rattle.posixmutex.specs.declared.point.Operation.TheVariants.{Unlock}
use Rattle.mutex.specs.declared.call.Call.TheVariants as call
use Rattle.mutex.specs.Standings.{Whole}
use Rattle.mutex.specs.Steps.{Tells}
use Rattle.ruledwords.specs.declared.pass.Words.{Words}
use Rattle.ruledwords.specs.declared.pass.Pass.{Pass}
use Rattle.ruledwords.specs.declared.pass.Live.{Live}
use Rattle.ruledwords.specs.declared.turn.Wakes.{Wakes}
use Rattle.ruledwords.specs.declared.step.End.{End}
use Rattle.ruledwords.specs.declared.step.End.TheVariants as end
use Rattle.ruledwords.specs.declared.turn.Turn.TheVariants.{Goes}
use Rattle.ruledwords.specs.Calls.{row_in}
use Rattle.ruledwords.specs.Owing.{ChangesThere, FoundOwn, owing_at}
use Rattle.ruledwords.specs.Passes.{card, layout_of, IsLive}
use Rattle.ruledwords.specs.Seen.{Called}
use Rattle.ruledwords.specs.Turns.{running_of, IsCallOf, IsUnderWay, TrimsNone, Turned}

-- an unlock of mutex m that began at the pass x is at p, with the pass a, whose last word it tells of: where it has
-- released the mutex, that word said its thread was the owner, and was the cell's right before the one change that the
-- thread has made of it. The thread has made no trim
abbrev pub IsReleasing : Words → Pass Live → ℕ → Pass Live → Whole → Type 0
IsReleasing w x m a p =
    (of : IsCallOf w a p) × IsUnderWay w x (call.Unlock m) (running_of w a p of)
    × Tells Unlock (row_in p.phase) (fields_of (card a).last) × FoundOwn (row_in p.phase) p.thread (card a).last
    × ChangesThere (row_in p.phase) (card x) (cell_place (layout_of w) m) (card a) × TrimsNone (card x) (card a)

abbrev pub IsInRelease : Words → Pass Live → Whole → Type 0
IsInRelease w a p = (x : Pass Live) × (m : ℕ) × IsReleasing w x m a p

-- wherever it began, it is at q now, with the pass b
abbrev pub StaysReleasing : Words → Pass Live → Whole → Pass Live → Whole → Type 0
StaysReleasing w a p b q = (x : Pass Live) (m : ℕ) → IsReleasing w x m a p → IsReleasing w x m b q

-- an unlock of mutex m that began at the pass x is refused
abbrev pub Refuses : Words → Pass Live → ℕ → Pass Live → Reply → Type 0
Refuses w x m b y =
    IsLive w b × (y ≡ EPERM) × Called (card x) (cell_place (layout_of w) m) ((Unlock, EPERM) ∷ []) (card b)
    × TrimsNone (card x) (card b)

-- its thread died in it, or it was refused
abbrev pub ReleaseEnds : Words → Pass Live → Whole → Pass Live → End → Type 0
ReleaseEnds w a p b end.Stopped = (x : Pass Live) (m : ℕ) → IsReleasing w x m a p → (q : Whole) × IsReleasing w x m b q
ReleaseEnds w a p b (end.Replied y) = (x : Pass Live) (m : ℕ) → IsReleasing w x m a p → Refuses w x m b y

-- it went on by an access, or owed already, or it ended
abbrev pub ReleaseSteps : Words → Pass Live → Whole → Pass Live → Whole → Result Unit End → Type 0
ReleaseSteps w a p b q (Ok u) = StaysReleasing w a p b q
ReleaseSteps w a p b q (Err e) = ReleaseEnds w a p b e

-- where it goes on and didn't owe yet, it went one access on
abbrev pub ReleasesOnce : Words → Pass Live → Whole → Pass Live → Whole → Result Unit End → Type 0
ReleasesOnce w a p b q (Ok u) =
    IsInRelease w b q
    ×
    (((v : Wakes) → p.phase ≢ owing_at v) → (of : IsCallOf w a p)
    → (on : IsCallOf w b q) × Turned (layout_of w) p a (Goes (running_of w b q on)))
ReleasesOnce w a p b q (Err e) = Unit {0}

-- this many accesses were made
abbrev pub ReleasesTo : Words → Pass Live → Whole → Pass Live → Result Whole End → Type 0
ReleasesTo w a p b (Ok q) = IsInRelease w b q × StaysReleasing w a p b q
ReleasesTo w a p b (Err e) = ReleaseEnds w a p b e

-- it has released its mutex, and owes them to be woken
abbrev pub ReleasesAll : Words → Pass Live → Whole → Pass Live → Result (Whole × Wakes) End → Type 0
ReleasesAll w a p b (Ok r) = IsInRelease w b r.0 × StaysReleasing w a p b r.0 × (r.0.phase ≡ owing_at r.1)
ReleasesAll w a p b (Err e) = ReleaseEnds w a p b e
