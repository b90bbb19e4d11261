-- What a thread's calls answered, one after the other, and what it ended as.
--
-- *Answered.* A thread's calls, on mutexes and on condition variables, one after the other, each with its reply, from
-- the pass before the first to the pass after the last; a job is done when all of its calls were answered, or those
-- before the one that its gate refused or in which its thread died.
--
-- *Dying at work.* A worker's thread that dies does so in the call after those that were answered: it had made all of
-- that call's points, or some of the first, and then its list was walked (*reaped*). Where the thread of a job with a
-- number lives, some number is left; where it died, by its number or by a kill, none is. A job of a thread that has
-- died makes no call.
use Rattle.std.specs.Prelude.{◌≡◌, ℕ, ◌+◌, ◌≤◌, ◌⊎◌, List, [], ◌∷◌}
use Rattle.lockword.specs.declared.reply.Reply.{Reply}
use Rattle.lockword.specs.declared.reply.Reply.TheVariants.{XRACED}
use Rattle.memorymap.specs.Layouts.{Layout', cell_place}
use Rattle.posixmutex.specs.declared.point.Operation.TheVariants as operation
use Rattle.mutex.specs.declared.call.Call.TheVariants.{Lock, TimedLock, TryLock, Unlock, Consistent}
use Rattle.condvar.specs.declared.op.Op.{Op}
use Rattle.condvar.specs.declared.op.Op.TheVariants.{OnMutex, OnCondition}
use Rattle.ruledwords.specs.declared.pass.Card.{Card}
use Rattle.ruledwords.specs.declared.turn.Outcome.{Outcome}
use Rattle.ruledwords.specs.declared.turn.Outcome.TheVariants as outcome
use Rattle.ruledwords.specs.declared.pass.Words.{Words}
use Rattle.ruledwords.specs.declared.pass.Pass.{Pass}
use Rattle.ruledwords.specs.declared.pass.Live.{Live}
use Rattle.ruledwords.specs.Outcomes.{Takes, DiesTaking}
use Rattle.ruledwords.specs.Passes.{card, layout_of, IsLive, IsDying, IsPassOf}
use Rattle.ruledwords.specs.Changes.{OthersChanged}
use Rattle.ruledwords.specs.Seen.{Called, Died}
use Rattle.threadbench.specs.declared.job.WorkerPass.{WorkerPass}
use Rattle.threadbench.specs.declared.job.WorkerPass.TheVariants.{Lives, Reaped}
use Rattle.threadbench.specs.Conditions.{CondReplied, CondDies}

-- a call of the thread whose card is c replied so, and left the card d: its point, if it has one, is the last that the
-- thread has seen of the mutex. Of a wait that took its mutex again it is the second of two. No time limit comes
abbrev pub Replied : Layout' → Card → Op → Reply → Card → Type 0
Replied k c (OnMutex (Lock m)) r d = Takes k m operation.Lock c r d
Replied k c (OnMutex (TimedLock m)) r d = Takes k m operation.Lock c r d
Replied k c (OnMutex (TryLock m)) r d =
    Takes k m operation.TryLock c r d × (r ≡ XRACED → (c.misses + 4 ≤ d.misses) × OthersChanged 4 c (cell_place k m) d)
Replied k c (OnMutex (Unlock m)) r d = Called c (cell_place k m) ((operation.Unlock, r) ∷ []) d
Replied k c (OnMutex (Consistent m)) r d = Called c (cell_place k m) ((operation.Consistent, r) ∷ []) d
Replied k c (OnCondition call) r d = CondReplied k c call r d

-- the thread whose card was c died in the call: it had made all of the call's points, or some of the first
abbrev pub DiesIn : Layout' → Card → Op → Card → Type 0
DiesIn k c (OnMutex (Lock m)) d = DiesTaking k m operation.Lock c d
DiesIn k c (OnMutex (TimedLock m)) d = DiesTaking k m operation.Lock c d
DiesIn k c (OnMutex (TryLock m)) d = DiesTaking k m operation.TryLock c d
DiesIn k c (OnMutex (Unlock m)) d = Died c (cell_place k m) operation.Unlock d
DiesIn k c (OnMutex (Consistent m)) d = Died c (cell_place k m) operation.Consistent d
DiesIn k c (OnCondition call) d = CondDies k c call d

-- a call that began at the pass a ended so
abbrev pub CallEnds : Words → Pass Live → Op → Outcome → Type 0
CallEnds w a call (outcome.Lives b r) = IsLive w b × Replied (layout_of w) (card a) call r (card b)
CallEnds w a call (outcome.Dead d) = IsDying w d × DiesIn (layout_of w) (card a) call (card d)

-- this many calls, a reply each
abbrev pub Answered : Layout' → Card → List Op → List Reply → Card → Type 0
Answered k c [] [] d = c ≡ d
Answered k c (x ∷ xs) (r ∷ rs) d = (e : Card) × Replied k c x r e × Answered k e xs rs d
Answered k c [] (r ∷ rs) d = ⊥
Answered k c (x ∷ xs) [] d = ⊥

-- what a worker's thread knows
abbrev pub card_in : WorkerPass → Card
card_in (Lives p) = card p
card_in (Reaped p) = card p

-- its pass is of these words
abbrev pub IsWorkerOf : Words → WorkerPass → Type 0
IsWorkerOf w (Lives p) = IsLive w p
IsWorkerOf w (Reaped p) = IsPassOf w p

-- a worker's thread ended so, whose fate had said f times that it stops and has said it f' times now: it lives where
-- the fate didn't say so, and died where it did, or where it was killed
abbrev pub IsHeededIn : ℕ → ℕ → WorkerPass → Type 0
IsHeededIn f f' (Lives p) = f' ≡ f
IsHeededIn f f' (Reaped p) = (f' ≡ f + 1) ⊎ (f' ≡ f)
