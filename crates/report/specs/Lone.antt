-- What a thread is answered while no other thread is in a call, and what that leaves of the mutexes and of the counters
-- of condition variables (pthread_mutex_lock, pthread_mutex_trylock, pthread_mutex_unlock, pthread_mutex_consistent,
-- pthread_cond_wait(3p)).
--
-- *Lone.* In each of a script's first phases, as many as one takes, one thread alone has calls; what later phases have
-- makes no difference. Each call is answered as its mutex and its condition variable's counter are then: a lock or a
-- trylock X_HELD where its thread owns 2,048 mutexes, else by owner, inconsistency and unusability; a lock of a mutex
-- that another thread owns isn't answered, as it sleeps forever, and no more is reported. A wait that isn't refused
-- sleeps forever too; if it were answered, then OK. An owner's signal or broadcast is X_FULL where the counter is
-- 2^32 - 1, and else OK, and counts; a thread that dies in one has counted or not, as its point was made or not, and
-- only where the counter wasn't full. In a lock or a trylock no thread dies that holds 2,048 mutexes: such a call is
-- refused before its first access. `played`: the replies of these phases as a function of the calls, which the law
-- `phases_of_one_thread_are_determined` speaks of.
use Rattle.std.specs.Prelude.{ℕ, ◌≡◌, ◌≢◌, ◌+◌, ◌<◌, ◌==◌, ◌||◌, Bool, true, false, nat_le, Option}
use Rattle.std.specs.Prelude.{None, Some, List, [], ◌∷◌, length, slice_get, take, if◌then◌else◌}
use Rattle.lockword.specs.declared.reply.Reply.{Reply}
use Rattle.lockword.specs.declared.reply.Reply.TheVariants.{OK, EPERM, EBUSY, EINVAL, EDEADLK, ETIMEDOUT, EOWNERDEAD}
use Rattle.lockword.specs.declared.reply.Reply.TheVariants.{ENOTRECOVERABLE, XRACED, XHELD, XFULL, XSTATE}
use Rattle.posixmutex.specs.declared.object.Object.{Object}
use Rattle.posixmutex.specs.declared.point.Operation.{Operation}
use Rattle.posixmutex.specs.declared.point.Operation.TheVariants.{Lock, TryLock, TimedLock, Unlock, Consistent}
use Rattle.posixmutex.specs.declared.point.Operation.TheVariants.{Wait, TimedWait, Signal, Broadcast, Death, Reinit}
use Rattle.posixmutex.specs.Histories.{is_thread, held_by}
use Rattle.memorymap.specs.Layouts.{Layout', cell_place}
use Rattle.posixmutex.specs.Objects.{acquires, held_limit, bereaved, stepped, Does, Run}
use Rattle.condvar.specs.declared.op.Op.{Op}
use Rattle.condvar.specs.Laws.{largest_counter, reply_counts}
use Rattle.condvar.specs.Ops.{acts_as, condition_of, mutex_of}
use Rattle.facts.specs.Lives.{Act, Beginning}
use Rattle.ruledwords.specs.Seen.{count_acts, points_of}
use Rattle.report.specs.Parts.{Part}

-- ---- a call

-- one of three: where nobody owns the mutex, where thread t does, and where another thread does
abbrev pub by_owner : {A : Type 0} → ℕ → Option ℕ → A → A → A → A
by_owner t None nobodys mine anothers = nobodys
by_owner t (Some u) nobodys mine anothers = if u == t then mine else anothers

-- who takes a mutex learns of its last owner's death
abbrev pub taken : Bool → Reply
taken inconsistent = if inconsistent then EOWNERDEAD else OK

-- a lock or a trylock: X_HELD where its thread holds as many mutexes as it may, and ENOTRECOVERABLE of one that is
-- unusable; else by whose it is
abbrev pub taking : ℕ → Bool → Bool → Option ℕ → Bool → Option Reply → Option Reply → Option Reply
taking t full unusable owner inconsistent mine anothers =
    if full then Some XHELD
    else if unusable then Some ENOTRECOVERABLE else by_owner t owner (Some (taken inconsistent)) mine anothers

-- an owner's signal or broadcast, where the condition variable's counter is v: X_FULL by a counter that is full
abbrev pub counting : ℕ → Reply
counting v = if v == largest_counter then XFULL else OK

-- the answer to thread t, which holds this many mutexes, of a call of this operation on a mutex that is o, and on a
-- condition variable whose counter is v, if on one. None: it isn't answered, as a lock of a mutex that another thread
-- owns sleeps forever. A wait that isn't refused sleeps forever too, as nobody signals; if it is answered, it has
-- taken the mutex again that it released. A reinit is no call of theirs, nor is a lock or a wait with a time limit; one
-- whose limit doesn't come is a lock, or a wait. (A trylock never gives up, as nobody else changes the cell)
abbrev pub answer : ℕ → ℕ → ℕ → Operation → Object → Option Reply
answer held t v Lock o = taking t (nat_le held_limit held) o.unusable o.owner o.inconsistent (Some EDEADLK) None
answer held t v TryLock o =
    taking t (nat_le held_limit held) o.unusable o.owner o.inconsistent (Some EBUSY) (Some EBUSY)
answer held t v TimedLock o = Some (if nat_le held_limit held then XHELD else ETIMEDOUT)
answer held t v Unlock o = by_owner t o.owner (Some EPERM) (Some OK) (Some EPERM)
answer held t v Consistent o =
    by_owner t o.owner (Some EPERM) (Some (if o.inconsistent then OK else EINVAL)) (Some EPERM)
answer held t v Wait o = by_owner t o.owner (Some EPERM) (Some (if o.inconsistent then XSTATE else OK)) (Some EPERM)
answer held t v TimedWait o = None
answer held t v Signal o = by_owner t o.owner (Some EPERM) (Some (counting v)) (Some EPERM)
answer held t v Broadcast o = by_owner t o.owner (Some EPERM) (Some (counting v)) (Some EPERM)
answer held t v Death o = None
answer held t v Reinit o = if o.unusable then Some OK else None

-- the call was answered r
abbrev pub IsAnswer : ℕ → ℕ → ℕ → Operation → Object → Reply → Type 0
IsAnswer held t v op o r = answer held t v op o ≡ Some r

-- what a counter that is v leaves open of the reply of a signal or a broadcast, which counts exactly where it is
-- returned OK: a full counter doesn't count, and no other refuses to
abbrev pub IsByCounter : ℕ → Operation → Reply → Type 0
IsByCounter v Signal OK = v ≢ largest_counter
IsByCounter v Signal XFULL = v ≡ largest_counter
IsByCounter v Broadcast OK = v ≢ largest_counter
IsByCounter v Broadcast XFULL = v ≡ largest_counter
IsByCounter v op r = Unit {0}

abbrev pub AreByCounter : ℕ → List Act → Type 0
AreByCounter v [] = Unit {0}
AreByCounter v (a ∷ acts) = IsByCounter v a.0 a.1 × AreByCounter v acts

-- all that a step of the mutex may reply, and the counter too, is that, except for X_RACED; and the step leaves the
-- mutex so. (An unusable mutex has no owner)
abbrev pub MutexesPermitOnlyAnswers : Type 0
MutexesPermitOnlyAnswers =
    (held t v : ℕ) (o n : Object) (op : Operation) (r : Reply) → (o.unusable ≡ true → o.owner ≡ None)
    → op ≢ Death → r ≢ XRACED → IsByCounter v op r → Does held o t op r n
    → IsAnswer held t v op o r × (n ≡ stepped o t op r)

-- ---- counters

-- what the counter of a call's condition variable has, of counters with these values. A call on a mutex has none
abbrev pub counter_of : (ℕ → ℕ) → Option ℕ → ℕ
counter_of vs None = 0
counter_of vs (Some q) = vs q

-- it is n more
abbrev pub raised : (ℕ → ℕ) → Option ℕ → ℕ → ℕ → ℕ
raised vs None n q = vs q
raised vs (Some p) n q = if q == p then vs q + n else vs q

-- the counters after a call that was answered r
abbrev pub counters_behind : (ℕ → ℕ) → Op → Reply → ℕ → ℕ
counters_behind vs c r = raised vs (condition_of c) (reply_counts (acts_as c) r)

-- ---- calls of one thread

-- the mutexes after a call of thread t that was answered r. A wait that took its mutex again leaves it as it was
abbrev pub behind : Layout' → ℕ → (ℕ → Object) → Op → Reply → ℕ → Object
behind k t os c r m = if m == mutex_of k c then stepped (os m) t (acts_as c) r else os m

-- what thread t is answered, where mutexes and counters are so
abbrev pub answer_to : Layout' → ℕ → (ℕ → Object) → (ℕ → ℕ) → Op → Option Reply
answer_to k t os vs c =
    answer (held_by t os k.mutexes) t (counter_of vs (condition_of c)) (acts_as c) (os (mutex_of k c))

-- thread t made these calls, one after the other, and was answered so; where the mutexes were os and the counters vs,
-- they are os' and vs' after them
abbrev pub AreAnswered : Layout' → ℕ → (ℕ → Object) → (ℕ → ℕ) → List Op → List Reply → (ℕ → Object) → (ℕ → ℕ) → Type 0
AreAnswered k t os vs [] [] os' vs' = (os' ≡ os) × (vs' ≡ vs)
AreAnswered k t os vs (c ∷ cs) (r ∷ rs) os' vs' =
    (answer_to k t os vs c ≡ Some r) × AreAnswered k t (behind k t os c r) (counters_behind vs c r) cs rs os' vs'
AreAnswered k t os vs [] (r ∷ rs) os' vs' = ⊥
AreAnswered k t os vs (c ∷ cs) [] os' vs' = ⊥

-- a mutex after thread t's death
abbrev pub bereft : ℕ → Object → Object
bereft t o = if is_thread t o.owner then bereaved o else o

-- thread t made these calls up to one, in which it died: before that took effect, or after it, or in a wait between
-- its release and its lock. Then each mutex that it owned is told that its owner died. A signal or a broadcast that had
-- taken effect has counted, at a counter that wasn't full. In a lock or a trylock it dies only if it held fewer mutexes
-- than it may: else the call is refused X_HELD before its first access
pub record DiesAmong (k : Layout') (t : ℕ) (os : ℕ → Object) (vs : ℕ → ℕ) (calls : List Op) (replies : List Reply)
    (os' : ℕ → Object) (vs' : ℕ → ℕ) : Type 0 where
  pub call : Op
  pub next : slice_get calls (length replies) ≡ Some call
  pub before : ℕ → Object
  pub counters : ℕ → ℕ
  pub told : AreAnswered k t os vs (take (length replies) calls) replies before counters
  pub few : acquires (acts_as call) ≡ true → nat_le held_limit (held_by t before k.mutexes) ≡ false
  pub acts : List Act
  pub begun : Beginning (acts_as call) acts
  pub left : Object
  pub decided : Run (before (mutex_of k call)) (points_of t (cell_place k (mutex_of k call)) acts) left
  pub after : os' ≡ (λ m. bereft t (if m == mutex_of k call then left else before m))
  pub by : AreByCounter (counter_of counters (condition_of call)) acts
  pub counted : vs' ≡ raised counters (condition_of call) (count_acts acts)

-- what a thread does in a phase in which no other has calls. One that had died does nothing
abbrev pub PlaysAlone : Layout' → ℕ → Bool → (ℕ → Object) → (ℕ → ℕ) → List Op → List Reply → Bool → (ℕ → Object)
    → (ℕ → ℕ) → Type 0
PlaysAlone k t true os vs calls replies died os' vs' = (replies ≡ []) × (died ≡ false) × (os' ≡ os) × (vs' ≡ vs)
PlaysAlone k t false os vs calls replies true os' vs' = DiesAmong k t os vs calls replies os' vs'
PlaysAlone k t false os vs calls replies false os' vs' = AreAnswered k t os vs calls replies os' vs'

-- ---- phases

-- of n threads, thread i + 1 alone has calls
pub record IsLone (n : ℕ) (calls : ℕ → List Op) (i : ℕ) : Type 0 where
  pub inside : i < n
  pub others : (j : ℕ) → j < n → j ≢ i → calls (j + 1) ≡ []

-- in each phase there is such a thread
abbrev pub AreLone : ℕ → List (ℕ → List Op) → List ℕ → Type 0
AreLone n [] [] = Unit {0}
AreLone n (calls ∷ phases) (i ∷ is) = IsLone n calls i × AreLone n phases is
AreLone n [] (i ∷ is) = ⊥
AreLone n (calls ∷ phases) [] = ⊥

-- the other threads do nothing
abbrev pub Rest : ℕ → ℕ → Part → Type 0
Rest n i q = (j : ℕ) → j < n → j ≢ i → (q.replies j ≡ []) × (q.died j ≡ false)

-- in each phase its one thread does what it does alone, from the mutexes and the counters on as the phase before left
-- them. Some threads had died before
abbrev pub ArePlayed : Layout' → (ℕ → Bool) → (ℕ → Object) → (ℕ → ℕ) → List (ℕ → List Op) → List ℕ → List Part
    → (ℕ → Object) → (ℕ → ℕ) → Type 0
ArePlayed k gone os vs [] [] [] os' vs' = (os' ≡ os) × (vs' ≡ vs)
ArePlayed k gone os vs (calls ∷ phases) (i ∷ is) (q ∷ parts) os' vs' =
    Rest k.threads i q
    × (mid : ℕ → Object)
    × (counters : ℕ → ℕ)
    × PlaysAlone k (i + 1) (gone i) os vs (calls (i + 1)) (q.replies i) (q.died i) mid counters
    × ArePlayed k (λ j. gone j || q.died j) mid counters phases is parts os' vs'
ArePlayed k gone os vs phases is parts os' vs' = ⊥

-- ---- what is determined

-- f of an answer, and nothing without one
abbrev pub go_on : Option Reply → (Reply → List Reply) → List Reply
go_on None f = []
go_on (Some r) f = f r

abbrev pub left_by : {A : Type 0} → Option Reply → A → (Reply → A) → A
left_by None as_it_was f = as_it_was
left_by (Some r) as_it_was f = f r

-- the replies to calls that thread t makes one after the other, up to the first that isn't answered
abbrev pub replies_alone : Layout' → ℕ → (ℕ → Object) → (ℕ → ℕ) → List Op → List Reply
replies_alone k t os vs [] = []
replies_alone k t os vs (c ∷ cs) =
    go_on (answer_to k t os vs c) (λ r. r ∷ replies_alone k t (behind k t os c r) (counters_behind vs c r) cs)

-- and the mutexes then
abbrev pub mutexes_alone : Layout' → ℕ → (ℕ → Object) → (ℕ → ℕ) → List Op → ℕ → Object
mutexes_alone k t os vs [] = os
mutexes_alone k t os vs (c ∷ cs) =
    left_by (answer_to k t os vs c) os (λ r. mutexes_alone k t (behind k t os c r) (counters_behind vs c r) cs)

-- and the counters
abbrev pub counters_alone : Layout' → ℕ → (ℕ → Object) → (ℕ → ℕ) → List Op → ℕ → ℕ
counters_alone k t os vs [] = vs
counters_alone k t os vs (c ∷ cs) =
    left_by (answer_to k t os vs c) vs (λ r. counters_alone k t (behind k t os c r) (counters_behind vs c r) cs)

-- the replies of each phase, whose calls thread i + 1 makes
abbrev pub played : Layout' → (ℕ → Object) → (ℕ → ℕ) → List (ℕ → List Op) → List ℕ → List (List Reply)
played k os vs (calls ∷ phases) (i ∷ is) =
    replies_alone k (i + 1) os vs (calls (i + 1))
    ∷ played k (mutexes_alone k (i + 1) os vs (calls (i + 1))) (counters_alone k (i + 1) os vs (calls (i + 1))) phases
    is
played k os vs phases is = []

-- what the one thread of each phase was replied
abbrev pub lone_replies : List ℕ → List Part → List (List Reply)
lone_replies (i ∷ is) (q ∷ parts) = q.replies i ∷ lone_replies is parts
lone_replies is parts = []

-- nobody dies in these phases
abbrev pub ArePlain : List ℕ → List Part → Type 0
ArePlain (i ∷ is) (q ∷ parts) = (q.died i ≡ false) × ArePlain is parts
ArePlain is parts = Unit {0}

-- of phases each of which has one thread's calls all replies are known from the calls alone, where nobody dies
abbrev pub PhasesAreDetermined : Type 0
PhasesAreDetermined = (k : Layout') (gone : ℕ → Bool) (os : ℕ → Object) (vs : ℕ → ℕ) (phases : List (ℕ → List Op))
    (is : List ℕ) (parts : List Part) (os' : ℕ → Object) (vs' : ℕ → ℕ)
    → ((i : ℕ) → i < k.threads → gone i ≡ false) → AreLone k.threads phases is
    → ArePlayed k gone os vs phases is parts os' vs' → ArePlain is parts
    → lone_replies is parts ≡ played k os vs phases is
