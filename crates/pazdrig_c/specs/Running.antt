-- A call in progress as C keeps it.
--
-- *A call in progress as C keeps it.* A call of a thread from 1 to 250 that hasn't returned, and knows what its phase
-- does. It goes on as its program does: `moved`, `access_of` and `progress_of` are `mutex`' and `condvar`'s own.
use Rattle.std.specs.Prelude.{ℕ, ◌≡◌, ◌==◌, ◌≤◌, ◌&&◌, nat_le, Option, Some, None, option_map, if◌then◌else◌}
use Rattle.lockword.specs.Threads.{most_threads}
use Rattle.lockword.specs.Replies.{number_of}
use Rattle.lockword.specs.declared.reply.Reply.TheVariants.{ETIMEDOUT}
use Rattle.stepprograms.specs.declared.access.Access.{Access}
use Rattle.stepprograms.specs.declared.access.Answer.{Answer}
use Rattle.posixmutex.specs.declared.point.Operation.{Operation}
use Rattle.posixmutex.specs.declared.point.Operation.TheVariants as operation
use Rattle.posixmutex.specs.declared.point.Operation.TheVariants.{Lock, TryLock, Unlock, Consistent}
use Rattle.stepprograms.specs.declared.program.Progress.{Progress}
use Rattle.stepprograms.specs.declared.program.Progress.TheVariants.{Goes, Returns}
use Rattle.mutex.specs.declared.call.Call.TheVariants as call
use Rattle.mutex.specs.Whole as mutex
use Rattle.mutex.specs.Codings as coded
use Rattle.condvar.specs.declared.call.CondCall.TheVariants as cond_call
use Rattle.condvar.specs.Whole as condition
use Rattle.condvar.specs.Codings as cond_coded
use Rattle.pazdrig_c.specs.Accesses.{operation_number, access_code, decided, no_access, with_point}
use Rattle.pazdrig_c.specs.declared.structs.PzCall.{PzCall}
use Rattle.pazdrig_c.specs.declared.structs.PzAccess.{PzAccess}
use Rattle.pazdrig_c.specs.declared.running.Running.{Running}
use Rattle.pazdrig_c.specs.declared.running.Running.TheVariants.{OnMutex, OnCondition}

abbrev pub IsThread : ℕ → Type 0
IsThread t = (1 ≤ t) × (t ≤ most_threads)

-- a program of `mutex` has one of its four operations
abbrev pub IsOnMutex : Operation → Type 0
IsOnMutex Lock = Unit {0}
IsOnMutex TryLock = Unit {0}
IsOnMutex Unlock = Unit {0}
IsOnMutex Consistent = Unit {0}
IsOnMutex op = ⊥

-- a call that hasn't returned, and which knows what its phase does
abbrev pub IsRunning : Running → Type 0
IsRunning (OnMutex p) = IsThread p.thread × IsOnMutex p.operation × mutex.IsUnderWay p.phase × mutex.PhaseKnows p.phase
    × coded.LiesAt p.head p.entry p.phase
IsRunning (OnCondition p) = IsThread p.thread × condition.IsUnderWay p.phase × condition.PhaseKnows p.phase
    × cond_coded.LiesAt p.thread p.head p.entry p.cell p.phase

-- its numbers
abbrev pub call_code : Running → PzCall
call_code (OnMutex p) = record {
  head = p.head;
  entry = p.entry;
  cell = p.cell;
  counter = 0;
  phase = record { lock = coded.phase_code p.phase; seen = 0; kind = 0 };
  program = operation_number p.operation;
  thread = p.thread;
}
call_code (OnCondition p) = record {
  head = p.head;
  entry = p.entry;
  cell = p.cell;
  counter = p.counter;
  phase = cond_coded.phase_code p.phase;
  program = 4;
  thread = p.thread;
}

-- the access that its program makes, what an answer leaves of it, and how far that brings it
abbrev pub access_of : Running → Access
access_of (OnMutex p) = mutex.whole_access p
access_of (OnCondition p) = condition.cond_access p

abbrev pub moved : Running → Answer → Running
moved (OnMutex p) a = OnMutex (mutex.whole_moved p (mutex.whole_led p a))
moved (OnCondition p) a = OnCondition (condition.cond_moved p (condition.cond_led p a))

abbrev pub progress_of : Running → Answer → Progress
progress_of (OnMutex p) a = mutex.whole_progress p (mutex.whole_led p a)
progress_of (OnCondition p) a = condition.cond_progress (condition.cond_led p a)

-- ---- the beginning

-- the call with this operation, of a thread whose head, whose mutex's entry and cell, and whose counter are at these
-- addresses; none for other numbers
abbrev pub begun_with : ℕ → PzCall → Option Running
begun_with op c =
    if op == 0 then Some (OnMutex (mutex.begun_at c.thread c.head c.entry c.cell (call.Lock 0)))
    else if op == 1 then Some (OnMutex (mutex.begun_at c.thread c.head c.entry c.cell (call.TryLock 0)))
    else if op == 2 then Some (OnMutex (mutex.begun_at c.thread c.head c.entry c.cell (call.Unlock 0)))
    else if op == 3 then Some (OnMutex (mutex.begun_at c.thread c.head c.entry c.cell (call.Consistent 0)))
    else if op == 4
    then Some (OnCondition (condition.begun_at c.thread c.head c.entry c.cell c.counter (cond_call.Wait 0)))
    else if op == 5
    then Some (OnCondition (condition.begun_at c.thread c.head c.entry c.cell c.counter (cond_call.Signal 0)))
    else if op == 6
    then Some (OnCondition (condition.begun_at c.thread c.head c.entry c.cell c.counter (cond_call.Broadcast 0)))
    else None

abbrev pub begun : ℕ → PzCall → Option Running
begun op c = if nat_le 1 c.thread && nat_le c.thread most_threads then begun_with op c else None

-- 0: it goes on, and this is its access; 2: no call has these numbers, and nothing is written
abbrev pub Begins : Option Running → ℕ → PzCall → PzCall → PzAccess → PzAccess → Type 0
Begins None result old new access access' = (result ≡ 2) × (new ≡ old) × (access' ≡ access)
Begins (Some r) result old new access access' =
    (result ≡ 0) × (new ≡ call_code r) × (access' ≡ access_code (access_of r))

-- ---- an answer

-- what is recorded of a call after an answer: its next access, or none once it has returned, with the point that the
-- answer decided
abbrev pub told : Progress → Running → PzAccess
told (Goes point) r = with_point point (access_code (access_of r))
told (Returns x point) r = with_point point no_access

-- 0: it goes on; 1: it has returned
abbrev pub status_of : Progress → ℕ
status_of (Goes point) = 0
status_of (Returns x point) = 1

-- a call that has returned shows the number of its reply
abbrev pub Replies : Progress → PzCall → Type 0
Replies (Goes point) c = Unit {0}
Replies (Returns x point) c = c.phase.lock.reply ≡ number_of x

-- the call goes on as its own program does
pub record GoesOn (r : Running) (a : Answer) (answered : ℕ) (new : PzCall) (next : PzAccess) : Type 0 where
  pub status : answered ≡ status_of (progress_of r a)
  pub call : new ≡ call_code (moved r a)
  pub access : next ≡ told (progress_of r a) (moved r a)
  pub replies : Replies (progress_of r a) new

-- ---- a time limit

-- what is left of a lock whose time limit comes while it sleeps
abbrev pub expired : Running → Option Running
expired (OnMutex p) = option_map OnMutex (mutex.expired p)
expired (OnCondition p) = None

-- 0: it goes on, out of time, and this is its access; 2: it is no lock that sleeps, and nothing is written
abbrev pub Expires : Option Running → ℕ → PzCall → PzCall → PzAccess → PzAccess → Type 0
Expires None result old new access access' = (result ≡ 2) × (new ≡ old) × (access' ≡ access)
Expires (Some r) result old new access access' =
    (result ≡ 0) × (new ≡ call_code r)
    × (access' ≡ decided operation.TimedLock ETIMEDOUT (access_code (access_of r)))
