-- Locks and waits whose time limit comes while they sleep (pthread_mutex_timedlock(3p), pthread_cond_timedwait(3p)).
--
-- *What is left of an expired call.* Of a lock one access: it clears its thread's pending entry, and then the call
-- returns ETIMEDOUT and its thread is in no call; no other word changes, no queue and no other thread, and it owns as many
-- mutexes as before. Of a wait what is left of one that was woken: it locks its mutex, from the same access on, but its
-- limit is past. The law `expiries_are_lone`.
use Rattle.std.specs.Prelude.{ℕ, ◌≡◌, ◌≢◌, ◌+◌, ◌≤◌, List, [], ◌∷◌}
use Rattle.mutex.specs.Standings.{Whole}
use Rattle.condvar.specs.declared.call.CondCall.TheVariants.{TimedWait}
use Rattle.condvar.specs.declared.call.Limit.{Limit}
use Rattle.condvar.specs.declared.call.Limit.TheVariants.{Past}
use Rattle.condvar.specs.declared.op.Op.TheVariants.{OnCondition}
use Rattle.facts.specs.declared.fact.Queue.TheVariants.{Condition}
use Rattle.lockword.specs.declared.reply.Reply.TheVariants.{ETIMEDOUT}
use Rattle.posixmutex.specs.declared.point.Operation.TheVariants.{TimedLock}
use Rattle.buckets.specs.Queues.{without}
use Rattle.memorymap.specs.Layouts.{Layout', IsLayout, head_place}
use Rattle.facts.specs.declared.fact.Fact.TheVariants.{Point, Return, Wake}
use Rattle.protocol.specs.declared.event.Event.{Event}
use Rattle.protocol.specs.declared.event.Event.TheVariants.{Expire, Step}
use Rattle.protocol.specs.declared.thread.Stage.TheVariants.{Idle, Calling}
use Rattle.protocol.specs.Notes.{facts_of}
use Rattle.protocol.specs.Machine.{State, start, happens, run}
use Rattle.protocol.specs.Headline.{seen}
use Rattle.protocol.specs.Sleepers.{StandsIn}
use Rattle.protocol.specs.Applies.{IsInAQueue, IsInNoQueue, IsInTimedLock}

-- thread t's time limit comes, from state s to s': no word changes, so no mutex, nor how many t owns, nor any other
-- thread; and from the queues nobody else goes
pub record OnlyExpires (s s' : State) (t : ℕ) : Type 0 where
  pub words : (p : ℕ) → s'.words p ≡ s.words p
  pub mutexes : (m : ℕ) → seen s' m ≡ seen s m
  pub held : (s'.threads t).held ≡ (s.threads t).held
  pub others : (u : ℕ) → u ≢ t → s'.threads u ≡ s.threads u
  pub queues : (key : ℕ) → s'.queues key ≡ without t (s.queues key)
  pub gone : IsInNoQueue s' t

-- thread t's call returns, from state s to s': its pending entry is cleared, and nothing else changes
pub record OnlyReturns (s s' : State) (t : ℕ) : Type 0 where
  pub pending : s'.words (head_place t + 2) ≡ 0
  pub words : (p : ℕ) → p ≢ head_place t + 2 → s'.words p ≡ s.words p
  pub queues : (key : ℕ) → s'.queues key ≡ s.queues key
  pub ended : (s'.threads t).stage ≡ Idle
  pub held : (s'.threads t).held ≡ (s.threads t).held
  pub others : (u : ℕ) → u ≢ t → s'.threads u ≡ s.threads u

-- after that, in state s, its next step returns ETIMEDOUT, and nothing else is recorded of it
abbrev pub ReturnsNext : State → ℕ → Type 0
ReturnsNext s t = OnlyReturns s (happens s (Step t)).state t
    × (facts_of (happens s (Step t)).note ≡ Return t ETIMEDOUT ∷ [])

-- of a thread that sleeps in a lock of mutex m with a time limit its wake is recorded, and then its point; and its
-- call returns by its next step
abbrev pub LockExpiresSo : State → ℕ → Type 0
LockExpiresSo s t = (m : ℕ) → IsInAQueue s t → IsInTimedLock s t m → OnlyExpires s (happens s (Expire t)).state t
    × (facts_of (happens s (Expire t)).note
    ≡ Wake t ∷ Point (record { thread = t; mutex = m; operation = TimedLock; reply = ETIMEDOUT }) ∷ [])
    × ReturnsNext (happens s (Expire t)).state t

-- of a thread that sleeps on condition variable k in a wait with a time limit its wake is recorded, and nothing
-- else; and it is in its call where it stood, out of time
abbrev pub WaitExpiresSo : State → ℕ → Type 0
WaitExpiresSo s t = (k : ℕ) (x : Limit) (p : Whole) → StandsIn s t (Condition k)
    → (s.threads t).stage ≡ Calling (OnCondition (TimedWait k x)) p → OnlyExpires s (happens s (Expire t)).state t
    × (facts_of (happens s (Expire t)).note ≡ Wake t ∷ [])
    × (((happens s (Expire t)).state.threads t).stage ≡ Calling (OnCondition (TimedWait k Past)) p)

abbrev pub ExpiresSo : State → ℕ → Type 0
ExpiresSo s t = LockExpiresSo s t × WaitExpiresSo s t

-- whatever happened, with any values of the counters at the beginning
abbrev pub ExpiriesAreLone : Type 0
ExpiriesAreLone = (l : Layout') (counters : ℕ → ℕ) (events : List Event) → IsLayout l → (t : ℕ) → 1 ≤ t → t ≤ l.threads
    → ExpiresSo (run (start l counters) events) t
