-- What a call on a condition variable has decided, wherever it stands, and how it ends (pthread_cond_wait(3p),
-- pthread_cond_signal(3p), pthread_cond_broadcast(3p)).
--
-- *How they stand and end.* Wherever such a call began, its pass has seen the mutex's history since, and of its own
-- thread the points that the call has made. By a thread that didn't own the mutex when the call began it ends with
-- EPERM. By the owner a signal or a broadcast ends with X_FULL exactly where the counter that it loaded, which the pass
-- keeps (`Card.counted`), was 2^32 - 1; else with OK, and the counter is then one more than what it loaded, by one
-- change of its own thread (`CountedOnce`, `CountsThere`), and after a broadcast its thread knows WAITERS to be in
-- the mutex's cell (`SetsWaiters`). A wait by the owner is refused with X_STATE, where the last owner's death isn't
-- declared, or it releases the mutex, which is usable then, by the point of an unlock that is OK. From then on, alive
-- or dead, its pass knows that it loaded the counter of this very condition variable (`Loaded`; `Changes.antt`). Awake
-- again it takes the mutex by a lock that begins there: so it has two points, and the lock's reply. Each but a wait has
-- one point, with its reply, the last that its thread has seen of the mutex. Of a call in which its thread died some of
-- the first points are there, or all (`DiesOn`). Source: pthread_cond_wait(3p), pthread_cond_signal(3p),
-- pthread_cond_broadcast(3p).
use Rattle.std.specs.Prelude.{◌≡◌, ◌≢◌, ℕ, ◌+◌, ◌^◌, ◌%◌, ◌==◌, Bool, true}
use Rattle.std.specs.Prelude.{false, Option, Some, List, [], ◌∷◌, if◌then◌else◌}
use Rattle.lockword.specs.declared.reply.Reply.{Reply}
use Rattle.lockword.specs.declared.reply.Reply.TheVariants.{OK, EPERM, XFULL, XSTATE}
use Rattle.posixmutex.specs.declared.object.Object.{Object}
use Rattle.posixmutex.specs.declared.point.Operation.{Operation}
use Rattle.posixmutex.specs.declared.point.Operation.TheVariants as operation
use Rattle.memorymap.specs.Layouts.{Layout', counter_place}
use Rattle.posixmutex.specs.Objects.{fresh, Run}
use Rattle.facts.specs.Lives.{Act}
use Rattle.mutex.specs.declared.call.Call.TheVariants as call
use Rattle.condvar.specs.declared.broadcast.BroadcastRow.TheVariants as broadcast
use Rattle.condvar.specs.declared.call.CondCall.{CondCall}
use Rattle.condvar.specs.declared.row.CondRow.{CondRow}
use Rattle.condvar.specs.declared.row.CondRow.TheVariants as cond
use Rattle.condvar.specs.declared.signal.SignalRow.TheVariants as signal
use Rattle.condvar.specs.declared.wait.WaitRow.TheVariants as wait
use Rattle.condvar.specs.Calls.{acts_as, condition_of}
use Rattle.condvar.specs.Laws.{largest_counter, IsOf}
use Rattle.ruledwords.specs.declared.pass.Card.{Card}
use Rattle.ruledwords.specs.declared.turn.CondRunning.{CondRunning}
use Rattle.ruledwords.specs.declared.turn.CondTurn.{CondTurn}
use Rattle.ruledwords.specs.declared.turn.CondTurn.TheVariants.{Goes, Locks, Lives}
use Rattle.ruledwords.specs.declared.pass.Words.{Words}
use Rattle.ruledwords.specs.declared.pass.Pass.{Pass}
use Rattle.ruledwords.specs.declared.pass.Live.{Live}
use Rattle.ruledwords.specs.declared.pass.Dead.{Dead}
use Rattle.ruledwords.specs.Cards.{at, value_at, mark_at}
use Rattle.ruledwords.specs.ConditionCalls.{cond_call, cond_pass, IsCondRunningOf}
use Rattle.ruledwords.specs.Changes.{ChangedNothing, CountedOnce, Loaded}
use Rattle.ruledwords.specs.Conditions.{cond_row_in, condition_at}
use Rattle.ruledwords.specs.Counts.{cell_at, mutex_at}
use Rattle.ruledwords.specs.OwnWords.{owns_in}
use Rattle.ruledwords.specs.Passes.{card, layout_of, IsDying, IsLive}
use Rattle.ruledwords.specs.Seen.{Called, Died}
use Rattle.ruledwords.specs.Turns.{running_pass, IsUnderWay}

-- the points that a call has made that is there
abbrev pub cond_acts : CondRow → List Act
cond_acts (cond.Wait (wait.Wake seen)) = (operation.Unlock, OK) ∷ []
cond_acts (cond.Wait (wait.Sleep seen)) = (operation.Unlock, OK) ∷ []
cond_acts (cond.Signal signal.Wake) = (operation.Signal, OK) ∷ []
cond_acts (cond.Broadcast (broadcast.SetWaiters seen)) = (operation.Broadcast, OK) ∷ []
cond_acts (cond.Broadcast (broadcast.Move seen)) = (operation.Broadcast, OK) ∷ []
cond_acts r = []

-- after its first load its thread owned the mutex when it began
abbrev pub OwnsBehind : CondRow → Bool → Type 0
OwnsBehind (cond.Wait wait.LoadCell) b = Unit {0}
OwnsBehind (cond.Signal signal.LoadCell) b = Unit {0}
OwnsBehind (cond.Broadcast broadcast.LoadCell) b = Unit {0}
OwnsBehind r b = b ≡ true

-- what it loaded of the counter, n, wasn't full; and the counter is n, or after the count one more
abbrev pub CountsBehind : CondRow → ℕ → Option ℕ → Type 0
CountsBehind (cond.Signal signal.Count) n v = (n ≢ largest_counter) × (v ≡ Some n)
CountsBehind (cond.Signal signal.Wake) n v = (n ≢ largest_counter) × (v ≡ Some (n + 1))
CountsBehind (cond.Broadcast (broadcast.Count seen)) n v = (n ≢ largest_counter) × (v ≡ Some n)
CountsBehind (cond.Broadcast (broadcast.SetWaiters seen)) n v = (n ≢ largest_counter) × (v ≡ Some (n + 1))
CountsBehind (cond.Broadcast (broadcast.Move seen)) n v = (n ≢ largest_counter) × (v ≡ Some (n + 1))
CountsBehind r n v = Unit {0}

-- a wait has changed nothing at its counter; and after its load the changes of that counter that its thread knows of
-- leave what it loaded, by whose low half it sleeps. A signal and a broadcast have counted there once, after their
-- point
abbrev pub LoadsBehind : CondRow → Card → ℕ → ℕ → Card → Type 0
LoadsBehind (cond.Wait wait.LoadCell) c z p d = ChangedNothing c p d
LoadsBehind (cond.Wait wait.LoadCounter) c z p d = ChangedNothing c p d
LoadsBehind (cond.Wait (wait.Release seen)) c z p d = Loaded c p d × (seen ≡ d.counted % 2 ^ 32)
LoadsBehind (cond.Wait (wait.Wake seen)) c z p d = Loaded c p d × (seen ≡ d.counted % 2 ^ 32)
LoadsBehind (cond.Wait (wait.Sleep seen)) c z p d = Loaded c p d × (seen ≡ d.counted % 2 ^ 32)
LoadsBehind (cond.Signal signal.Wake) c z p d = CountedOnce c z p d
LoadsBehind (cond.Broadcast (broadcast.SetWaiters seen)) c z p d = CountedOnce c z p d
LoadsBehind (cond.Broadcast (broadcast.Move seen)) c z p d = CountedOnce c z p d
LoadsBehind r c z p d = Unit {0}

-- before it moves sleepers to the cell, it has set WAITERS there
abbrev pub WaitersBehind : CondRow → Bool → Type 0
WaitersBehind (cond.Broadcast (broadcast.Move seen)) b = b ≡ true
WaitersBehind r b = Unit {0}

-- the mutex is usable where the thread saw it last: its release didn't make it unusable
abbrev pub LeftUsable : Layout' → ℕ → Card → Type 0
LeftUsable k q d = (o : Object) → Run fresh (at d.seen (cell_at k q)) o → o.unusable ≡ false

-- a wait releases a consistent mutex alone
abbrev pub UsableBehind : Layout' → ℕ → CondRow → Card → Type 0
UsableBehind k q (cond.Wait (wait.Wake seen)) d = LeftUsable k q d
UsableBehind k q (cond.Wait (wait.Sleep seen)) d = LeftUsable k q d
UsableBehind k q r d = Unit {0}

-- a call of this operation on condition variable q, begun at the card c, is at a row, and its pass has the card d
pub record CondStands (k : Layout') (q : ℕ) (op : Operation) (c : Card) (r : CondRow) (d : Card) : Type 0 where
  pub of : IsOf op r
  pub called : Called c (cell_at k q) (cond_acts r) d
  pub owns : OwnsBehind r (owns_in k c (mutex_at k q))
  pub counts : CountsBehind r d.counted (value_at d.values (counter_place k q))
  pub waiters : WaitersBehind r (mark_at d.marks (cell_at k q))
  pub usable : UsableBehind k q r d
  pub loads : LoadsBehind r c (cell_at k q) (counter_place k q) d

-- the reply of a call that ends: to whom doesn't own the mutex EPERM. A wait is refused with X_STATE where the last
-- owner's death isn't declared; a signal and a broadcast with X_FULL exactly where the counter that was loaded is full
abbrev pub cond_reply : Operation → Bool → ℕ → Reply
cond_reply operation.Wait own n = if own then XSTATE else EPERM
cond_reply op own n = if own then (if n == largest_counter then XFULL else OK) else EPERM

-- the counter is what was loaded, or after a count one more
abbrev pub CountsOnce : Reply → ℕ → Option ℕ → Type 0
CountsOnce OK n v = v ≡ Some (n + 1)
CountsOnce XFULL n v = v ≡ Some n
CountsOnce x n v = Unit {0}

-- a signal or a broadcast that is returned OK has counted once, at the counter at p, and one that is returned X_FULL
-- has found that full and left it so. (No other call counts anywhere)
abbrev pub CountsThere : Operation → Reply → Card → ℕ → ℕ → Card → Type 0
CountsThere operation.Signal OK c z p d = CountedOnce c z p d
CountsThere operation.Signal XFULL c z p d = Loaded c p d
CountsThere operation.Broadcast OK c z p d = CountedOnce c z p d
CountsThere operation.Broadcast XFULL c z p d = Loaded c p d
CountsThere op x c z p d = Unit {0}

-- a broadcast that is returned OK has set WAITERS
abbrev pub SetsWaiters : Operation → Reply → Bool → Type 0
SetsWaiters operation.Broadcast OK b = b ≡ true
SetsWaiters op x b = Unit {0}

-- a call that has ended with this reply: of one point, which has the reply and is the last that its thread has seen of
-- the mutex
pub record CondEnded (k : Layout') (q : ℕ) (op : Operation) (x : Reply) (c d : Card) : Type 0 where
  pub called : Called c (cell_at k q) ((op, x) ∷ []) d
  pub reply : x ≡ cond_reply op (owns_in k c (mutex_at k q)) d.counted
  pub counts : CountsOnce x d.counted (value_at d.values (counter_place k q))
  pub waiters : SetsWaiters op x (mark_at d.marks (cell_at k q))
  pub there : CountsThere op x c (cell_at k q) (counter_place k q) d

-- a call that began at the pass a is under way
abbrev pub IsCondUnderWay : Words → Pass Live → CondCall → CondRunning → Type 0
IsCondUnderWay w a c r =
    IsCondRunningOf w r × (condition_at (layout_of w) (cond_call r) ≡ condition_of c)
    × CondStands (layout_of w) (condition_of c) (acts_as c) (card a) (cond_row_in (cond_call r).phase)
    (card (cond_pass r))

-- a wait has released its mutex, which is usable then, and takes it by a lock that begins now: of the two points the
-- first is the last that its thread has seen. It has loaded the counter of its own condition variable
pub record HasReleased (w : Words) (a : Pass Live) (c : CondCall) (b : Pass Live) : Type 0 where
  pub of : acts_as c ≡ operation.Wait
  pub called : Called (card a) (cell_at (layout_of w) (condition_of c)) ((operation.Unlock, OK) ∷ []) (card b)
  pub owns : owns_in (layout_of w) (card a) (mutex_at (layout_of w) (condition_of c)) ≡ true
  pub usable : LeftUsable (layout_of w) (condition_of c) (card b)
  pub loaded : Loaded (card a) (counter_place (layout_of w) (condition_of c)) (card b)

-- it is under way still; or it is a wait that takes its mutex again; or it has replied
abbrev pub CondGoesOn : Words → Pass Live → CondCall → CondTurn → Type 0
CondGoesOn w a c (Goes r) = IsCondUnderWay w a c r
CondGoesOn w a c (Locks r) = HasReleased w a c (running_pass r)
    × IsUnderWay w (running_pass r) (call.Lock (mutex_at (layout_of w) (condition_of c))) r
CondGoesOn w a c (Lives b x) =
    IsLive w b × CondEnded (layout_of w) (condition_of c) (acts_as c) x (card a) (card b)

-- wherever the call began, it goes on
abbrev pub CondKeeps : Words → CondRunning → CondTurn → Type 0
CondKeeps w r turn = (a : Pass Live) (c : CondCall) → IsCondUnderWay w a c r → CondGoesOn w a c turn

-- a thread that has released its mutex in a wait has loaded the counter at p; and one whose signal or broadcast has
-- taken effect has counted there, where the counter wasn't full (none dies after an X_FULL)
abbrev pub LoadedBehind : List Act → Card → ℕ → ℕ → Card → Type 0
LoadedBehind ((operation.Unlock, x) ∷ acts) c z p d = Loaded c p d
LoadedBehind ((operation.Signal, OK) ∷ acts) c z p d = CountedOnce c z p d × (d.counted ≢ largest_counter)
LoadedBehind ((operation.Signal, XFULL) ∷ acts) c z p d = ⊥
LoadedBehind ((operation.Broadcast, OK) ∷ acts) c z p d = CountedOnce c z p d × (d.counted ≢ largest_counter)
LoadedBehind ((operation.Broadcast, XFULL) ∷ acts) c z p d = ⊥
LoadedBehind acts c z p d = Unit {0}

-- a thread died in a call on condition variable q: it had made all of the call's points, or some of the first
pub record DiesOn (k : Layout') (q : ℕ) (op : Operation) (c d : Card) : Type 0 where
  pub died : Died c (cell_at k q) op d
  pub loaded : LoadedBehind died.acts c (cell_at k q) (counter_place k q) d

-- its thread died in it
abbrev pub HasDiedInCondition : Words → Pass Live → CondCall → Pass Dead → Type 0
HasDiedInCondition w a c d = IsDying w d × DiesOn (layout_of w) (condition_of c) (acts_as c) (card a) (card d)
