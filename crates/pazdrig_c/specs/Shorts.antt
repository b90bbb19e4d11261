-- Short calls, those that what they load decides, whole: a signal, a broadcast, a declaration that a mutex is
-- consistent, and each call that is refused (pthread_cond_signal, pthread_cond_broadcast, pthread_mutex_consistent, and
-- the errors of each call). Their accesses, one after the other, how far each answer brings them, and what C is
-- recorded.
--
-- *A short call.* A call that what it loads decides, whole: a signal and a broadcast of the owner, the owner's
-- declaration that an inconsistent mutex is consistent, and each call that its look at the cell refuses, or at the
-- counter. `refused` says what refuses it. `accesses`, `progresses` and `left` are what a call of either kind asks, how
-- far each answer brings it, and what is left of it, where it is answered so and so. The laws `signals_by_plan`,
-- `broadcasts_by_plan`, `declares_by_plan`, `refusals_by_plan`. Source: pthread_cond_signal, pthread_cond_broadcast,
-- pthread_mutex_consistent and the errors of each call.
use Rattle.std.specs.Prelude.{ℕ, ◌≡◌, ◌≢◌, ◌==◌, ◌+◌, ◌%◌, ◌^◌, ◌&&◌, Bool, true, false, not, Option, Some, None}
use Rattle.std.specs.Prelude.{List, [], ◌∷◌, ◌++◌, take, length, if◌then◌else◌}
use Rattle.lockword.specs.Threads.{most_threads}
use Rattle.lockword.specs.Cells.{Fields, fields_of}
use Rattle.lockword.specs.Replies.{number_of}
use Rattle.lockword.specs.declared.reply.Reply.{Reply}
use Rattle.lockword.specs.declared.reply.Reply.TheVariants.{OK, EPERM, EBUSY, EINVAL, EDEADLK, ENOTRECOVERABLE}
use Rattle.lockword.specs.declared.reply.Reply.TheVariants.{XFULL, XSTATE}
use Rattle.stepprograms.specs.declared.access.Access.{Access}
use Rattle.stepprograms.specs.declared.access.Access.TheVariants as access
use Rattle.stepprograms.specs.declared.access.Answer.{Answer}
use Rattle.stepprograms.specs.declared.access.Answer.TheVariants.{Value, Stored, Count}
use Rattle.stepprograms.specs.declared.program.Progress.{Progress}
use Rattle.stepprograms.specs.declared.program.Progress.TheVariants.{Goes, Returns}
use Rattle.stepprograms.specs.Accesses.{IsAnswerOf}
use Rattle.posixmutex.specs.declared.point.Operation.{Operation}
use Rattle.posixmutex.specs.declared.point.Operation.TheVariants as operation
use Rattle.posixmutex.specs.declared.point.Point.{Point}
use Rattle.mutex.specs.Consistent.{all_but_owner_died}
use Rattle.mutex.specs.Whole.{pending_place}
use Rattle.condvar.specs.declared.signal.SignalRow.TheVariants as signal
use Rattle.condvar.specs.declared.broadcast.BroadcastRow.TheVariants as broadcast
use Rattle.condvar.specs.declared.row.CondRow.{CondRow}
use Rattle.condvar.specs.declared.row.CondRow.TheVariants.{Signal, Broadcast}
use Rattle.condvar.specs.declared.phase.CondPhase.TheVariants.{AtWords}
use Rattle.condvar.specs.Broadcast.{waiters_bit}
use Rattle.condvar.specs.Rows.{full}
use Rattle.condvar.specs.Whole.{cond_at}
use Rattle.pazdrig_c.specs.Accesses.{operation_number, access_code, no_access}
use Rattle.pazdrig_c.specs.Running.{access_of, moved, progress_of, begun}
use Rattle.pazdrig_c.specs.Plans.{is_thread, changes_in, LoadAlike}
use Rattle.pazdrig_c.specs.declared.structs.PzCall.{PzCall}
use Rattle.pazdrig_c.specs.declared.structs.PzAccess.{PzAccess}
use Rattle.pazdrig_c.specs.declared.structs.PzShort.{PzShort}
use Rattle.pazdrig_c.specs.declared.running.Running.{Running}
use Rattle.pazdrig_c.specs.declared.running.Running.TheVariants.{OnCondition}

-- ---- a call that is answered so and so

-- what is left of it
abbrev pub left : Running → List Answer → Running
left r [] = r
left r (a ∷ rest) = left (moved r a) rest

-- its accesses that are answered so
abbrev pub accesses : Running → List Answer → List Access
accesses r [] = []
accesses r (a ∷ rest) = access_of r ∷ accesses (moved r a) rest

-- how far each answer brings it: the points, and the reply
abbrev pub progresses : Running → List Answer → List Progress
progresses r [] = []
progresses r (a ∷ rest) = progress_of r a ∷ progresses (moved r a) rest

abbrev pub point_in : PzCall → Operation → Reply → Point
point_in k op x = record { thread = k.thread; at = k.cell; operation = op; reply = x }

-- ---- the signal, and the broadcast, of an owner

-- whether thread t finds a cell that is its own, and a counter that isn't full
abbrev pub counts : ℕ → Fields → ℕ → Bool
counts t c s = (c.owner == t) && not (s == full)

-- the cell is w and the counter s, or v by the time it counts; and its wake woke n
abbrev pub signal_answers : ℕ → ℕ → ℕ → ℕ → List Answer
signal_answers w s v n = Value w ∷ Value s ∷ Value v ∷ Count n ∷ []

-- it looks at the cell and at the counter q, counts, and wakes one sleeper of the counter
abbrev pub signal_plan : ℕ → ℕ → List Access
signal_plan c q = access.Load c ∷ access.Load q ∷ access.FetchAdd q 1 ∷ access.Wake q 1 ∷ []

-- where call k on a condition variable stands that goes on by this row
abbrev pub stands_at : PzCall → CondRow → Running
stands_at k r = OnCondition (cond_at k.thread k.head k.entry k.cell k.counter (AtWords r))

-- it makes just these accesses, its point is where it counts, and it returns OK; after the count it is at the row
-- that wakes
pub record SignalByPlan (k : PzCall) (r : Running) (w s v n : ℕ) : Type 0 where
  pub asks : accesses r (signal_answers w s v n) ≡ signal_plan k.cell k.counter
  pub tells : progresses r (signal_answers w s v n)
      ≡ Goes None ∷ Goes None ∷ Goes (Some (point_in k operation.Signal OK)) ∷ Returns OK None ∷ []
  pub stands : left r (Value w ∷ Value s ∷ Value v ∷ []) ≡ stands_at k (Signal signal.Wake)

-- of each call that `pz_begin` begins as a signal
abbrev pub SignalsByPlan : Type 0
SignalsByPlan = (k : PzCall) (r : Running) (w s v n : ℕ) → begun (operation_number operation.Signal) k ≡ Some r
    → counts k.thread (fields_of w) s ≡ true → SignalByPlan k r w s v n

-- the same of a broadcast, whose cell is u when WAITERS is set in it, and whose move is answered a
abbrev pub broadcast_answers : ℕ → ℕ → ℕ → ℕ → Answer → List Answer
broadcast_answers w s v u a = Value w ∷ Value s ∷ Value v ∷ Value u ∷ a ∷ []

-- where the counter's low half is one more than it was
abbrev pub move_of : ℕ → ℕ → ℕ → Access
move_of c q s = access.CmpRequeue q ((s % 2 ^ 32 + 1) % 2 ^ 32) 0 c most_threads

-- it looks at the cell and at the counter, counts, sets WAITERS in the cell, and moves the counter's sleepers there
abbrev pub broadcast_plan : ℕ → ℕ → ℕ → List Access
broadcast_plan c q s = access.Load c ∷ access.Load q ∷ access.FetchAdd q 1 ∷ access.FetchOr c waiters_bit
    ∷ move_of c q s ∷ []

-- whatever the move is answered but a fault, also where it moved nobody: it makes just these accesses, its point is
-- where it counts, and it returns OK. After the count it is at the row that sets WAITERS, and after that at the
-- one that moves
pub record BroadcastByPlan (k : PzCall) (r : Running) (w s v u : ℕ) (a : Answer) : Type 0 where
  pub asks : accesses r (broadcast_answers w s v u a) ≡ broadcast_plan k.cell k.counter s
  pub tells : progresses r (broadcast_answers w s v u a)
      ≡ Goes None ∷ Goes None ∷ Goes (Some (point_in k operation.Broadcast OK)) ∷ Goes None ∷ Returns OK None ∷ []
  pub counted : left r (Value w ∷ Value s ∷ Value v ∷ [])
      ≡ stands_at k (Broadcast (broadcast.SetWaiters (s % 2 ^ 32)))
  pub marked : left r (Value w ∷ Value s ∷ Value v ∷ Value u ∷ [])
      ≡ stands_at k (Broadcast (broadcast.Move (s % 2 ^ 32)))

abbrev pub BroadcastsByPlan : Type 0
BroadcastsByPlan = (k : PzCall) (r : Running) (w s v u : ℕ) (a : Answer)
    → begun (operation_number operation.Broadcast) k ≡ Some r → counts k.thread (fields_of w) s ≡ true
    → IsAnswerOf (move_of k.cell k.counter s) a → BroadcastByPlan k r w s v u a

-- ---- the declaration of an owner that a mutex is consistent

-- whether thread t finds a cell that is its own, and was a dead thread's before
abbrev pub declares : ℕ → Fields → Bool
declares t c = (c.owner == t) && c.died

-- it looks at the cell, and clears OWNER_DIED in it
abbrev pub declare_plan : ℕ → List Access
declare_plan c = access.Load c ∷ access.FetchAnd c all_but_owner_died ∷ []

-- it makes just these accesses; the second is its point, and it returns OK
pub record DeclareByPlan (k : PzCall) (r : Running) (w v : ℕ) : Type 0 where
  pub asks : accesses r (Value w ∷ Value v ∷ []) ≡ declare_plan k.cell
  pub tells : progresses r (Value w ∷ Value v ∷ [])
      ≡ Goes None ∷ Returns OK (Some (point_in k operation.Consistent OK)) ∷ []

abbrev pub DeclaresByPlan : Type 0
DeclaresByPlan = (k : PzCall) (r : Running) (w v : ℕ) → begun (operation_number operation.Consistent) k ≡ Some r
    → declares k.thread (fields_of w) ≡ true → DeclareByPlan k r w v

-- ---- a call that is refused where it looks

-- what refuses thread t, which finds this cell; none, where nothing does
abbrev pub unless_owner : ℕ → Fields → Option Reply → Option Reply
unless_owner t c x = if c.owner == t then x else Some EPERM

-- the same of its call with this operation, which finds the counter s if it looks at it. (A lock that finds an unusable
-- mutex with WAITERS wakes all of its sleepers first.)
abbrev pub refused : Operation → ℕ → Fields → ℕ → Option Reply
refused operation.Lock t c s =
    if c.unusable
    then (if c.waiters then None else Some ENOTRECOVERABLE)
    else if c.owner == t
    then Some EDEADLK
    else None
refused operation.TryLock t c s =
    if c.unusable then Some ENOTRECOVERABLE else if not (c.owner == 0) then Some EBUSY else None
refused operation.Unlock t c s = unless_owner t c None
refused operation.Consistent t c s = unless_owner t c (if c.died then None else Some EINVAL)
refused operation.Wait t c s = unless_owner t c (if c.died then Some XSTATE else None)
refused operation.Signal t c s = unless_owner t c (if s == full then Some XFULL else None)
refused operation.Broadcast t c s = unless_owner t c (if s == full then Some XFULL else None)
refused op t c s = None

-- a signal and a broadcast look at the counter where the cell is the thread's own
abbrev pub looks_at_counter : Operation → Bool → Bool
looks_at_counter operation.Signal own = own
looks_at_counter operation.Broadcast own = own
looks_at_counter op own = false

-- the looks of a call that announces nothing
abbrev pub look_answers : Bool → ℕ → ℕ → List Answer
look_answers false w s = Value w ∷ []
look_answers true w s = Value w ∷ Value s ∷ []

abbrev pub look_plan : Bool → ℕ → ℕ → List Access
look_plan false c q = access.Load c ∷ []
look_plan true c q = access.Load c ∷ access.Load q ∷ []

abbrev pub look_tells : Bool → Point → Reply → List Progress
look_tells false p x = Returns x (Some p) ∷ []
look_tells true p x = Goes None ∷ Returns x (Some p) ∷ []

-- a lock and a trylock announce the entry first, and clear it at the end
abbrev pub refusal_answers : Operation → Bool → ℕ → ℕ → List Answer
refusal_answers operation.Lock own w s = Stored ∷ Value w ∷ Stored ∷ []
refusal_answers operation.TryLock own w s = Stored ∷ Value w ∷ Stored ∷ []
refusal_answers op own w s = look_answers (looks_at_counter op own) w s

abbrev pub announced_plan : ℕ → ℕ → ℕ → List Access
announced_plan h e c = access.Store (pending_place h) e ∷ access.Load c ∷ access.Store (pending_place h) 0 ∷ []

abbrev pub refusal_plan : Operation → Bool → ℕ → ℕ → ℕ → ℕ → List Access
refusal_plan operation.Lock own h e c q = announced_plan h e c
refusal_plan operation.TryLock own h e c q = announced_plan h e c
refusal_plan op own h e c q = look_plan (looks_at_counter op own) c q

-- the look that refuses it is its point
abbrev pub refusal_tells : Operation → Bool → Point → Reply → List Progress
refusal_tells operation.Lock own p x = Goes None ∷ Goes (Some p) ∷ Returns x None ∷ []
refusal_tells operation.TryLock own p x = Goes None ∷ Goes (Some p) ∷ Returns x None ∷ []
refusal_tells op own p x = look_tells (looks_at_counter op own) p x

-- thread t finds a cell of its own in this word
abbrev pub is_own : ℕ → ℕ → Bool
is_own t w = (fields_of w).owner == t

-- it makes just these accesses, and returns what refuses it
pub record RefusalByPlan (op : Operation) (k : PzCall) (r : Running) (w s : ℕ) (x : Reply) : Type 0 where
  pub asks : accesses r (refusal_answers op (is_own k.thread w) w s)
      ≡ refusal_plan op (is_own k.thread w) k.head k.entry k.cell k.counter
  pub tells : progresses r (refusal_answers op (is_own k.thread w) w s)
      ≡ refusal_tells op (is_own k.thread w) (point_in k op x) x

-- up to that look
abbrev pub up_to_look : Operation → Bool → ℕ → ℕ → List Answer
up_to_look operation.Lock own w s = Stored ∷ Value w ∷ []
up_to_look operation.TryLock own w s = Stored ∷ Value w ∷ []
up_to_look op own w s = look_answers (looks_at_counter op own) w s

-- a call that goes on, and has no point so far
abbrev pub GoesOnUndecided : List Progress → Type 0
GoesOnUndecided [] = Unit {0}
GoesOnUndecided (Goes None ∷ rest) = GoesOnUndecided rest
GoesOnUndecided (p ∷ rest) = ⊥

-- a lock wakes all who sleep on an unusable mutex
abbrev pub wakes_all : Operation → Fields → Bool
wakes_all operation.Lock c = c.unusable && c.waiters
wakes_all op c = false

-- its look may come first, where the cell isn't the pending word; and whatever doesn't refuse it leaves it undecided,
-- except for a lock that wakes all
pub record RefusalsByPlan : Type 0 where
  pub refuses : (op : Operation) (k : PzCall) (r : Running) (w s : ℕ) (x : Reply)
      → begun (operation_number op) k ≡ Some r → refused op k.thread (fields_of w) s ≡ Some x
      → RefusalByPlan op k r w s x
  pub loads : (op : Operation) (k : PzCall) (own : Bool) → k.cell ≢ pending_place k.head
      → LoadAlike (refusal_plan op own k.head k.entry k.cell k.counter)
  pub else_goes_on : (op : Operation) (k : PzCall) (r : Running) (w s : ℕ)
      → begun (operation_number op) k ≡ Some r → refused op k.thread (fields_of w) s ≡ None
      → wakes_all op (fields_of w) ≡ false
      → GoesOnUndecided (progresses r (up_to_look op (is_own k.thread w) w s))

-- ---- what C is reported

-- the numbers of accesses
abbrev pub codes : List Access → List PzAccess
codes [] = []
codes (x ∷ rest) = access_code x ∷ codes rest

-- a call with these accesses that returns this reply: its changes, and no access after them
abbrev pub short_code : List Access → Reply → PzShort
short_code plan x = record {
  change = take 3 (codes (changes_in plan) ++ no_access ∷ no_access ∷ no_access ∷ []);
  changes = length (changes_in plan);
  reply = number_of x;
}

-- a call with these accesses that is refused with a reply; or false, and nothing is written
abbrev pub Refuses : Option Reply → List Access → Bool → PzShort → PzShort → Type 0
Refuses None plan result old new = (result ≡ false) × (new ≡ old)
Refuses (Some x) plan result old new = (result ≡ true) × (new ≡ short_code plan x)

abbrev pub refused_of : Operation → ℕ → Fields → ℕ → Option Reply
refused_of op t c s = if is_thread t then refused op t c s else None
