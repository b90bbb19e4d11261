-- What calls on condition variables answer that may sleep or wake (pthread_cond_wait(3p), pthread_cond_signal(3p),
-- pthread_cond_broadcast(3p)).
--
-- *What calls on condition variables by a bench answer.* A signal and a broadcast end as such a call does (`CondEnded`;
-- `ruledwords/specs/ConditionStands.antt`). A wait ends so too where it is refused; else it has released its mutex,
-- which was usable then, and taken it again: its two points are in this order, and the second, which has its reply,
-- is the last that its thread has seen of the mutex. It has loaded the counter of its own condition variable
-- (`Loaded`). One whose thread died has made some of its first points, or all, and after its release it had loaded
-- that counter. Source: pthread_cond_wait(3p), pthread_cond_broadcast(3p).
--
-- *What a broadcast's move does under the locks of two buckets.* Where the low half of the counter that was loaded is
-- the expected one, at most this many of the first threads of its queue move to the end of that of the mutex's cell,
-- and nobody is woken. That is all of them: nobody is left there, and they are at the cell in their order. Else
-- nothing changes, nor where the other bucket has no room for them. The counter is what its thread knew of it, if it
-- knew it. Source: futex(2), FUTEX_CMP_REQUEUE.
use Rattle.std.specs.Prelude.{ℕ, ◌≡◌, ◌≢◌, ◌%◌, ◌^◌, ◌⊎◌, true, Option, None}
use Rattle.std.specs.Prelude.{Some, Result, Ok, Err, List, [], ◌∷◌, ◌++◌}
use Rattle.lockword.specs.declared.reply.Reply.{Reply}
use Rattle.lockword.specs.declared.reply.Reply.TheVariants.{OK}
use Rattle.stepprograms.specs.declared.access.Access.{Access}
use Rattle.stepprograms.specs.declared.access.Access.TheVariants.{CmpRequeue}
use Rattle.posixmutex.specs.declared.point.Operation.TheVariants as operation
use Rattle.memorymap.specs.Layouts.{Layout', counter_place}
use Rattle.buckets.specs.Queues.{Sleepers, queue, Fits, MovesTo, MovesWithin}
use Rattle.condvar.specs.declared.call.CondCall.{CondCall}
use Rattle.condvar.specs.declared.call.CondCall.TheVariants.{Wait, TimedWait, Signal, Broadcast}
use Rattle.condvar.specs.Calls.{acts_as, condition_of}
use Rattle.ruledwords.specs.declared.pass.Card.{Card}
use Rattle.ruledwords.specs.Changes.{Loaded}
use Rattle.ruledwords.specs.declared.turn.CondRunning.{CondRunning}
use Rattle.ruledwords.specs.declared.turn.CondTurn.{CondTurn}
use Rattle.ruledwords.specs.declared.turn.CondTurn.TheVariants.{Goes}
use Rattle.ruledwords.specs.declared.turn.Outcome.{Outcome}
use Rattle.ruledwords.specs.declared.turn.Outcome.TheVariants as outcome
use Rattle.ruledwords.specs.declared.pass.Words.{Words}
use Rattle.ruledwords.specs.declared.pass.Pass.{Pass}
use Rattle.ruledwords.specs.declared.pass.Live.{Live}
use Rattle.ruledwords.specs.declared.pass.Dead.{Dead}
use Rattle.ruledwords.specs.Cards.{value_at}
use Rattle.ruledwords.specs.ConditionCalls.{cond_call, cond_pass, IsCondTurnOf}
use Rattle.ruledwords.specs.ConditionStands.{CondEnded, CondKeeps, DiesOn}
use Rattle.ruledwords.specs.ConditionStands.{HasDiedInCondition, IsCondUnderWay, LeftUsable}
use Rattle.ruledwords.specs.Conditions.{condition_at}
use Rattle.ruledwords.specs.Counts.{cell_at, mutex_at}
use Rattle.ruledwords.specs.OwnWords.{owns_in}
use Rattle.ruledwords.specs.Passes.{card, layout_of, IsDying, IsLive}
use Rattle.ruledwords.specs.Seen.{Called}
use Rattle.threadbench.specs.declared.section.Waited.{Waited}
use Rattle.threadbench.specs.declared.section.Waited.TheVariants.{Stopped}

-- ---- calls

-- a wait on condition variable q, by the thread whose card was c, loaded the counter of q, released its mutex, which
-- was usable then, and took it again by a lock that was answered x: its two points are in this order, and the second
-- is the last that its thread, whose card is d now, has seen of the mutex
pub record TookAgain (k : Layout') (c : Card) (q : ℕ) (x : Reply) (d : Card) : Type 0 where
  pub awake : Card
  pub released : Called c (cell_at k q) ((operation.Unlock, OK) ∷ []) awake
  pub owned : owns_in k c (mutex_at k q) ≡ true
  pub usable : LeftUsable k q awake
  pub took : Called awake (cell_at k q) ((operation.Lock, x) ∷ []) d
  pub called : Called c (cell_at k q) ((operation.Unlock, OK) ∷ (operation.Lock, x) ∷ []) d
  pub loaded : Loaded c (counter_place k q) d

-- a call of the thread whose card was c was answered x, and left the card d: by its one point; or it is a wait that
-- took its mutex again
abbrev pub CondReplied : Layout' → Card → CondCall → Reply → Card → Type 0
CondReplied k c (Wait q) x d = CondEnded k q operation.Wait x c d ⊎ TookAgain k c q x d
CondReplied k c (TimedWait q y) x d = CondEnded k q operation.Wait x c d ⊎ TookAgain k c q x d
CondReplied k c (Signal q) x d = CondEnded k q operation.Signal x c d
CondReplied k c (Broadcast q) x d = CondEnded k q operation.Broadcast x c d

-- the thread died in it: it had made all of the call's points, or some of the first; after the release of a wait it
-- had loaded the counter of the call's condition variable
abbrev pub CondDies : Layout' → Card → CondCall → Card → Type 0
CondDies k c call d = DiesOn k (condition_of call) (acts_as call) c d

-- it was answered, or its thread died in it
abbrev pub CondAnswered : Words → Pass Live → CondCall → Outcome → Type 0
CondAnswered w a call (outcome.Lives b x) = IsLive w b × CondReplied (layout_of w) (card a) call x (card b)
CondAnswered w a call (outcome.Dead d) = IsDying w d × CondDies (layout_of w) (card a) call (card d)

-- wherever it began
abbrev pub CondRuns : Words → CondRunning → Outcome → Type 0
CondRuns w r end = (a : Pass Live) (call : CondCall) → IsCondUnderWay w a call r → CondAnswered w a call end

-- ---- accesses of a call

-- the key is that of the call's mutex's cell
abbrev pub IsCellOf : Words → CondRunning → ℕ → Type 0
IsCellOf w r key = key ≡ cell_at (layout_of w) (condition_at (layout_of w) (cond_call r))

-- a turn leaves a call that goes on where it was: on its condition variable
abbrev pub StaysOn : Words → CondRunning → CondTurn → Type 0
StaysOn w r (Goes r') = condition_at (layout_of w) (cond_call r') ≡ condition_at (layout_of w) (cond_call r)
StaysOn w r t = Unit {0}

-- a running call came to this turn by the access that was next, or its thread died instead of that
abbrev pub CondComesTo : Words → CondRunning → Result CondTurn (Pass Dead) → Type 0
CondComesTo w r (Ok turn) = IsCondTurnOf w turn × CondKeeps w r turn × StaysOn w r turn
CondComesTo w r (Err d) = (a : Pass Live) (call : CondCall) → IsCondUnderWay w a call r → HasDiedInCondition w a call d

-- how often its thread was told to stop
abbrev pub stops_turning : Result CondTurn (Pass Dead) → ℕ
stops_turning (Ok turn) = 0
stops_turning (Err d) = 1

-- ---- sections

-- one that was told to stop has not looked at its counter
abbrev pub StaysCondIfStopped : {N : Type 0} → CondRunning → CondRunning → Waited N → Type 0
StaysCondIfStopped r r' Stopped = r' ≡ r
StaysCondIfStopped r r' x = Unit {0}

-- it is a requeue that wakes nobody and moves at most m threads, where its word has this low half
abbrev pub IsMoveOf : Access → ℕ → ℕ → Type 0
IsMoveOf a e m = (from to : ℕ) × (a ≡ CmpRequeue from e 0 to m)

-- the counter was found as the call's thread knew it, if it knew it
abbrev pub FindsKnown : Layout' → CondRunning → CondRunning → Type 0
FindsKnown k r r' = (x : ℕ)
    → value_at (card (cond_pass r)).values (counter_place k (condition_at k (cond_call r))) ≡ Some x
    → (card (cond_pass r')).last ≡ x

-- a requeue within a bucket that saw the word n: where its low half is the expected one, at most m of the first threads
-- of key k move to the end of key j's queue, and nobody is woken. Else nothing changes
abbrev pub MovesInside : Sleepers → Sleepers → ℕ → ℕ → ℕ → ℕ → ℕ → Option (List ℕ) → Type 0
MovesInside old new k n e j m (Some moved) = (n % 2 ^ 32 ≡ e) × MovesWithin old new k m j moved
MovesInside old new k n e j m None = (n % 2 ^ 32 ≢ e) × (new ≡ old)

-- the same from a bucket to another one. Nothing changes either where that has no room for them, or one of them is
-- there
abbrev pub MovesAcross : Sleepers → Sleepers → Sleepers → Sleepers → ℕ → ℕ → ℕ → ℕ → ℕ → Option (List ℕ) → Type 0
MovesAcross old new other other' k n e j m (Some moved) = (n % 2 ^ 32 ≡ e) × MovesTo old new other other' k m j moved
MovesAcross old new other other' k n e j m None =
    ((n % 2 ^ 32 ≢ e) ⊎ (¬ Fits old other k m)) × (new ≡ old) × (other' ≡ other)

-- a broadcast's move from key k's queue to the end of key j's, which may be in another bucket: where it is made, nobody
-- is left on k, and those that was there stand, in their order, after those that was on j
abbrev pub MovesAll : Sleepers → Sleepers → Sleepers → Sleepers → ℕ → ℕ → Option (List ℕ) → Type 0
MovesAll old new other other' k j (Some moved) = (queue new k ≡ []) × (queue other' j ≡ queue other j ++ queue old k)
MovesAll old new other other' k j None = Unit {0}
