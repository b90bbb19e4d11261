-- The machine: threads whose calls step over shared words, and sleep on them.
--
-- *State.* The words by place, who sleeps on each word, in order, and for each thread whether it is in a call, dying or
-- reaped, where its call or walk stands, and how many mutexes it holds. At first each head has its own address as its
-- first entry, nobody owns anything, nobody sleeps, and nobody is in a call.
--
-- *Step.* A begin begins a call of an idle thread; a step makes the next access of a thread that is in a call and
-- doesn't sleep, or of a dying thread's walk; a kill takes a thread out of its queue and ends its call; a leave takes a
-- sleeper out of its queue, and so does an expiry of one whose lock or wait has a time limit; a decline is the step of
-- a thread whose next access is a trim, answered that this cleared nothing; a renewal lets a reaped thread live again;
-- a remake makes an unusable mutex usable again. A spare leaves out a wake for which another thread answers. An event
-- that can't apply notes nothing and changes nothing.
--
-- *A leave and a declined trim.* A thread that sleeps stands where it goes on when it is woken; so a leave only takes
-- it out of its queue: no word changes, no thread, and no place of another in a queue, and its wake is recorded. A
-- declined trim is answered that the word wasn't cleared, whatever that is, and changes no word and no queue; its
-- thread goes on as after a trim that was made. The law `leaves_and_declines_are_lone`. Source: futex(2), EINTR.
--
-- *An expiry.* The time limit of a lock comes while its thread sleeps on the mutex: the thread leaves the queue, woken by
-- nobody, and its call is decided with ETIMEDOUT, which changes no mutex; no word changes, and no other thread. What is
-- left of the call is one access, which clears its pending entry, and after which it returns. Or that of a wait comes
-- while its thread sleeps on the condition variable: the thread leaves the queue, woken by nobody, and goes on as if it
-- had been woken, so that it locks its mutex again; but where that lock replies OK it returns ETIMEDOUT. A wait that a
-- broadcast has moved to its mutex, or that locks this again, is past that: the second lock has no limit. The law
-- `expiries_are_lone`. The law `nobody_times_out_early` says that another thread owned the mutex of a lock meanwhile.
-- Sources: pthread_mutex_timedlock(3p), pthread_cond_timedwait(3p).
--
-- *A renewal.* A thread that was reaped lives again, with the same id: the three words of its head are as at first,
-- an empty list that nothing is pending beside, and it is in no call and owns nothing; nothing else changes, and
-- that it is renewed is all that is recorded. The law `renewals_begin_anew`; where nobody is renewed each thread has
-- one life (`without_renewals_as_before`). Source: get_robust_list(2).
--
-- *A remake.* A thread that lives and is in no call reinitialises an unusable mutex. A program that does so access by
-- access loads its word, asks whether anybody sleeps there, and exchanges the word that it saw. The first two change
-- nothing, so they are no events; what others do in between, the exchange meets. A remake is that exchange: it finds the
-- mutex unusable, whoever sleeps on it by now, and clears all but WAITERS, so that nobody who sleeps is forgotten. No
-- other word, no queue and no thread changes, and it is recorded as a call of one event, a reinit: a begin, a point
-- with OK and a return. Else nothing happens. The law `remakes_forget_nobody`. Source: pthread_mutex_destroy(3p),
-- pthread_mutex_init(3p).
--
-- *Where an access meets its word.* Words and queues are at places, and accesses have addresses of their thread's
-- process: the word that one meets is that at the place of its address there. So threads of processes with different
-- bases meet at one word, and in one queue. An access is refused where the place isn't one of the layout's, and a
-- requeue also from a word to itself. Source: futex(2) on shared futexes.
use Rattle.std.specs.Prelude.{ℕ, zero, suc, not, ◌==◌, ◌+◌, ◌-◌, ◌/◌, ◌%◌, ◌^◌, Bool, true, false, ◌&&◌, ◌||◌, nat_le, nat_lt}
use Rattle.std.specs.Prelude.{Option, Some, None, Result, Ok, Err, List, [], ◌∷◌, ◌++◌, take, drop, if◌then◌else◌}
use Rattle.lockword.specs.Cells.{fields_of, bit, waiters_alone}
use Rattle.lockword.specs.declared.reply.Reply.{Reply}
use Rattle.lockword.specs.declared.reply.Reply.TheVariants.{OK, EOWNERDEAD}
use Rattle.stepprograms.specs.declared.access.Access.{Access}
use Rattle.stepprograms.specs.declared.access.Answer.{Answer}
use Rattle.stepprograms.specs.declared.access.Access.TheVariants as access
use Rattle.stepprograms.specs.declared.access.Answer.TheVariants.{Fault, Trimmed, Count}
use Rattle.posixmutex.specs.declared.point.Operation.{Operation}
use Rattle.posixmutex.specs.declared.point.Operation.TheVariants as operation
use Rattle.posixmutex.specs.declared.point.Decision.{Decision}
use Rattle.memorymap.specs.Layouts.{Layout', head_place, entry_place, cell_place, counter_place}
use Rattle.memorymap.specs.Layouts.{words_of, address_in, place_in, head_word, first_word}
use Rattle.buckets.specs.Queues.{without}
use Rattle.stepprograms.specs.Accesses.{address_of, word_among, answer_among, sleeps_at}
use Rattle.mutex.specs.declared.call.Call.{Call}
use Rattle.mutex.specs.declared.call.Call.TheVariants as call
use Rattle.mutex.specs.declared.phase.Phase.{Phase}
use Rattle.mutex.specs.declared.phase.Phase.TheVariants.{AtCell, Ended}
use Rattle.mutex.specs.declared.phase.Onward.{Onward}
use Rattle.mutex.specs.Standings.{Whole}
use Rattle.mutex.specs.Whole.{may_expire, timed_out, whole_started, whole_access, whole_led}
use Rattle.mutex.specs.Alone.{answers_for}
use Rattle.mutex.specs.declared.row.Row.TheVariants.{Unlock}
use Rattle.mutex.specs.declared.unlock.UnlockRow.TheVariants.{Wake}
use Rattle.condvar.specs.declared.call.CondCall.{CondCall}
use Rattle.condvar.specs.declared.call.CondCall.TheVariants as cond_call
use Rattle.condvar.specs.declared.call.Limit.TheVariants.{Past}
use Rattle.condvar.specs.declared.phase.CondPhase.{CondPhase}
use Rattle.condvar.specs.declared.phase.CondPhase.TheVariants as cond
use Rattle.condvar.specs.declared.phase.CondOnward.{CondOnward}
use Rattle.condvar.specs.Calls as conditions
use Rattle.condvar.specs.Standings.{CondWhole}
use Rattle.condvar.specs.Whole as condition
use Rattle.condvar.specs.declared.row.CondRow.TheVariants as cond_row
use Rattle.condvar.specs.declared.wait.WaitRow.TheVariants as wait
use Rattle.facts.specs.declared.fact.Queue.{Queue}
use Rattle.facts.specs.declared.fact.Queue.TheVariants.{Mutex, Condition}
use Rattle.exitwalk.specs.declared.row.Part.TheVariants as part
use Rattle.exitwalk.specs.declared.row.Row as walk_row
use Rattle.exitwalk.specs.declared.row.Row.TheVariants as walk
use Rattle.exitwalk.specs.Standings as walks
use Rattle.exitwalk.specs.Walks as exit
use Rattle.posixmutex.specs.declared.point.Point.{Point}
use Rattle.condvar.specs.Ops.{mutex_of, may_call, reply_of}
use Rattle.protocol.specs.Ops.{begun_of}
use Rattle.condvar.specs.declared.op.Op.{Op}
use Rattle.condvar.specs.declared.op.Op.TheVariants.{OnMutex, OnCondition}
use Rattle.protocol.specs.declared.event.Event.{Event}
use Rattle.protocol.specs.declared.event.Event.TheVariants.{Begin, Step, Kill, Leave, Expire, Decline, Renew}
use Rattle.protocol.specs.declared.event.Event.TheVariants.{Remake, Spare}
use Rattle.protocol.specs.declared.event.LeftTo.{LeftTo}
use Rattle.protocol.specs.declared.event.LeftTo.TheVariants as left_to
use Rattle.protocol.specs.declared.thread.Thread.{Thread}
use Rattle.protocol.specs.declared.thread.Stage.{Stage}
use Rattle.protocol.specs.declared.thread.Stage.TheVariants.{Idle, Calling, AtCondition, Dying, Reaped}
use Rattle.protocol.specs.declared.note.Note.{Note}
use Rattle.protocol.specs.declared.note.Note.TheVariants.{Nothing, Began, Stepped, Killed}
use Rattle.protocol.specs.declared.note.Note.TheVariants.{Walked, Left, Expired, Renewed, Reinited}

-- the words by place, who sleeps on each, also by place, in the order in which they are to be woken, and the threads by
-- id
pub record State : Type 0 where
  pub layout : Layout'
  pub words : ℕ → ℕ
  pub queues : ℕ → List ℕ
  pub threads : ℕ → Thread

-- a function with one new value
abbrev pub put : {A : Type 0} → (ℕ → A) → ℕ → A → ℕ → A
put f k x j = if j == k then x else f j

-- ---- the beginning

abbrev pub idle : Thread
idle = record { stage = Idle; held = 0 }

abbrev pub start : Layout' → (ℕ → ℕ) → State
start l counters = record { layout = l; words = first_word l counters; queues = λ p. []; threads = λ t. idle }

-- ---- one access

abbrev pub is_valid : Layout' → ℕ → Bool
is_valid l at = nat_le 1 at && nat_lt at (words_of l)

-- who sleeps on the word after thread t's access: a wait puts t at the end, a wake takes the first n, and a requeue
-- takes the first n and then k more
abbrev pub queue_after : ℕ → Access → ℕ → List ℕ → List ℕ
queue_after t (access.Wait at e) w q = if w % 2 ^ 32 == e then q ++ t ∷ [] else q
queue_after t (access.Wake at n) w q = drop n q
queue_after t (access.Requeue from n to k) w q = drop k (drop n q)
queue_after t (access.CmpRequeue from e n to k) w q = if w % 2 ^ 32 == e then drop k (drop n q) else q
queue_after t a w q = q

-- whom it wakes, in their order
abbrev pub woken_by : Access → ℕ → List ℕ → List ℕ
woken_by (access.Wake at n) w q = take n q
woken_by (access.Requeue from n to k) w q = take n q
woken_by (access.CmpRequeue from e n to k) w q = if w % 2 ^ 32 == e then take n q else []
woken_by a w q = []

-- whom it moves, asleep, to the end of another queue, in their order
abbrev pub moved_by : Access → ℕ → List ℕ → List ℕ
moved_by (access.Requeue from n to k) w q = take k (drop n q)
moved_by (access.CmpRequeue from e n to k) w q = if w % 2 ^ 32 == e then take k (drop n q) else []
moved_by a w q = []

-- ---- where it meets its word

-- the place of the word that an access of thread t meets, whose address is one of its process
abbrev pub place_met : Layout' → ℕ → Access → ℕ
place_met l t a = place_in l t (address_of a)

-- a requeue moves to the queue of another word of the layout
abbrev pub is_target : Layout' → ℕ → ℕ → ℕ → Bool
is_target l t from to = is_valid l (place_in l t to) && not (place_in l t from == place_in l t to)

-- an access is refused where an address isn't valid, and a requeue also from a word to itself
abbrev pub is_met : Layout' → ℕ → Access → Bool
is_met l t (access.Requeue from n to k) = is_valid l (place_in l t from) && is_target l t from to
is_met l t (access.CmpRequeue from e n to k) = is_valid l (place_in l t from) && is_target l t from to
is_met l t a = is_valid l (place_met l t a)

-- the queues, where these threads come to the end of the one that access a of thread t moves to
abbrev pub joined : Layout' → ℕ → Access → List ℕ → (ℕ → List ℕ) → ℕ → List ℕ
joined l t (access.Requeue from n to k) us queues = put queues (place_in l t to) (queues (place_in l t to) ++ us)
joined l t (access.CmpRequeue from e n to k) us queues = put queues (place_in l t to) (queues (place_in l t to) ++ us)
joined l t a us queues = queues

abbrev pub answer_of : State → ℕ → Access → Answer
answer_of s t a =
    if is_met s.layout t a
    then answer_among a (s.words (place_met s.layout t a)) (s.queues (place_met s.layout t a))
    else Fault

abbrev pub words_after : State → ℕ → Access → ℕ → ℕ
words_after s t a =
    if is_met s.layout t a
    then put s.words (place_met s.layout t a)
    (word_among a (s.words (place_met s.layout t a)) (s.queues (place_met s.layout t a)))
    else s.words

abbrev pub woken : State → ℕ → Access → List ℕ
woken s t a =
    if is_met s.layout t a
    then woken_by a (s.words (place_met s.layout t a)) (s.queues (place_met s.layout t a))
    else []

abbrev pub moved : State → ℕ → Access → List ℕ
moved s t a =
    if is_met s.layout t a
    then moved_by a (s.words (place_met s.layout t a)) (s.queues (place_met s.layout t a))
    else []

abbrev pub queues_after : State → ℕ → Access → ℕ → List ℕ
queues_after s t a =
    if is_met s.layout t a
    then joined s.layout t a (moved_by a (s.words (place_met s.layout t a)) (s.queues (place_met s.layout t a)))
    (put s.queues (place_met s.layout t a)
    (queue_after t a (s.words (place_met s.layout t a)) (s.queues (place_met s.layout t a))))
    else s.queues

-- thread t falls asleep by its access
abbrev pub falls_asleep : State → ℕ → Access → Bool
falls_asleep s t a = is_met s.layout t a && sleeps_at a (s.words (place_met s.layout t a))

-- ---- one event

-- what an event leaves and notes
pub record After : Type 0 where
  pub state : State
  pub note : Note

-- an event that can't apply
abbrev pub nothing : State → After
nothing s = record { state = s; note = Nothing }

abbrev pub has_thread : State → ℕ → Bool
has_thread s t = nat_le 1 t && nat_le t s.layout.threads

abbrev pub is_idle : Stage → Bool
is_idle Idle = true
is_idle g = false

abbrev pub is_calling : Stage → Bool
is_calling (Calling o p) = true
is_calling (AtCondition c p) = true
is_calling g = false

abbrev pub is_alive : Stage → Bool
is_alive Idle = true
is_alive (Calling o p) = true
is_alive (AtCondition c p) = true
is_alive g = false

abbrev pub is_exiting : Stage → Bool
is_exiting (Dying w) = true
is_exiting g = false

abbrev pub is_gone : Stage → Bool
is_gone Reaped = true
is_gone g = false

-- in a call
abbrev pub is_busy : State → ℕ → Bool
is_busy s t = has_thread s t && is_calling (s.threads t).stage

-- killed, and not reaped
abbrev pub is_dying : State → ℕ → Bool
is_dying s t = has_thread s t && is_exiting (s.threads t).stage

-- thread t is one of the queue
abbrev pub stands_in : ℕ → List ℕ → Bool
stands_in t [] = false
stands_in t (u ∷ us) = if u == t then true else stands_in t us

-- the queue of mutex m
abbrev pub sleepers : State → ℕ → List ℕ
sleepers s m = s.queues (cell_place s.layout m)

-- the places of the words on which a thread there may sleep: in a call on a mutex its cell; in the lock that ends a
-- wait that of the mutex, or still the counter of the condition variable
abbrev pub places_of : Layout' → Stage → List ℕ
places_of l (Calling (OnMutex c) p) = cell_place l (mutex_of l (OnMutex c)) ∷ []
places_of l (Calling (OnCondition c) p) =
    cell_place l (mutex_of l (OnCondition c)) ∷ counter_place l (conditions.condition_of c) ∷ []
places_of l g = []

-- thread t stands in the queue of one of these places
abbrev pub stands_at : ℕ → (ℕ → List ℕ) → List ℕ → Bool
stands_at t queues [] = false
stands_at t queues (p ∷ ps) = if stands_in t (queues p) then true else stands_at t queues ps

-- thread t, there, sleeps
abbrev pub sleeps : State → ℕ → Stage → Bool
sleeps s t g = stands_at t s.queues (places_of s.layout g)

abbrev pub is_asleep : State → ℕ → Bool
is_asleep s t = sleeps s t (s.threads t).stage

abbrev pub may_begin : State → ℕ → Op → Bool
may_begin s t o = has_thread s t && is_idle (s.threads t).stage && may_call s.layout o

-- a thread that may not take another mutex stays where it is, and its call is refused
abbrev pub stage_begun : Call → Result Whole Reply → Result Stage Reply
stage_begun c (Ok p) = Ok (Calling (OnMutex c) p)
stage_begun c (Err x) = Err x

-- where thread t begins a call, that owns this many mutexes
abbrev pub first_stage : Layout' → ℕ → ℕ → Op → Result Stage Reply
first_stage l t held (OnMutex c) = stage_begun c (whole_started l t held c)
first_stage l t held (OnCondition c) = Ok (AtCondition c (condition.begins l t c))

abbrev pub begun : State → ℕ → Op → Result Stage Reply → After
begun s t o (Ok g) = record {
  state = record s { threads = put s.threads t (record (s.threads t) { stage = g }) };
  note = Began t (begun_of s.layout o) None;
}
begun s t o (Err x) = record { state = s; note = Began t (begun_of s.layout o) (Some x) }

-- where an answer leads a call: its thread's stage then; the reply of its point, if that access was one, and the
-- operation that it decided; and what the call returns, if it does
pub record Led : Type 0 where
  pub stage : Stage
  pub operation : Operation
  pub point : Option Reply
  pub returned : Option Reply

-- of a call on a mutex, or the lock that ends a wait
abbrev pub stage_after : Op → Whole → Phase → Stage
stage_after o p (Ended x) = Idle
stage_after o p f = Calling o (record p { phase = f })

-- a wait that is out of time returns ETIMEDOUT for OK
abbrev pub returned : Op → Phase → Option Reply
returned o (Ended x) = Some (reply_of o x)
returned o f = None

abbrev pub led : Op → Whole → Onward → Led
led o p g =
    record { stage = stage_after o p g.phase; operation = p.operation; point = g.point; returned = returned o g.phase }

-- of a call on a condition variable: once a wait is awake again it is in the lock that ends it
abbrev pub stage_at : CondCall → CondWhole → CondPhase → Stage
stage_at c p (cond.Ended x) = Idle
stage_at c p (cond.Locking w) = Calling (OnCondition c) w
stage_at c p f = AtCondition c (record p { phase = f })

abbrev pub returned_at : CondPhase → Option Reply
returned_at (cond.Ended x) = Some x
returned_at f = None

-- a point tells which operation it decided: a wait that isn't refused unlocks its mutex
abbrev pub decided_at : Operation → Option Point → Operation
decided_at op None = op
decided_at op (Some p) = p.operation

abbrev pub reply_at : Option Point → Option Reply
reply_at None = None
reply_at (Some p) = Some p.reply

abbrev pub led_at : CondCall → CondWhole → CondOnward → Led
led_at c p g = record {
  stage = stage_at c p g.phase;
  operation = decided_at (conditions.acts_as c) g.point;
  point = reply_at g.point;
  returned = returned_at g.phase;
}

-- a thread owns one mutex more after it took one, and one less after it released one, or after its death was
-- recorded of one
abbrev pub held_after : ℕ → Operation → Option Reply → ℕ
held_after held operation.Lock (Some OK) = held + 1
held_after held operation.Lock (Some EOWNERDEAD) = held + 1
held_after held operation.TryLock (Some OK) = held + 1
held_after held operation.TryLock (Some EOWNERDEAD) = held + 1
held_after held operation.Unlock (Some OK) = held - 1
held_after held operation.Death (Some OK) = held - 1
held_after held op point = held

-- the point of thread t's call on a mutex, once an access decided it
abbrev pub decision : ℕ → ℕ → Operation → Option Reply → Option Decision
decision t m op None = None
decision t m op (Some x) = Some (record { thread = t; mutex = m; operation = op; reply = x })

-- where it sleeps, once it has fallen asleep
abbrev pub slept_in : Queue → Bool → Option Queue
slept_in q true = Some q
slept_in q false = None

-- the next access of a call that is about mutex m, where it would sleep in queue q, and where its answer leads. A
-- thread that falls asleep stands where it goes on when it is woken
abbrev pub went : State → ℕ → ℕ → ℕ → Queue → Access → Led → After
went s t held m q a g =
    record {
      state = record s {
        words = words_after s t a;
        queues = queues_after s t a;
        threads = put s.threads t (record { stage = g.stage; held = held_after held g.operation g.point });
      };
      note = Stepped t m (decision t m g.operation g.point) (slept_in q (falls_asleep s t a)) (woken s t a)
          (moved s t a) g.returned;
    }

-- ---- sleeps that end by themselves

-- thread t leaves its queue, woken by nobody, as where a signal handler ran (futex(2), EINTR): it stands where it goes
-- on when it is woken, and so nothing else changes
abbrev pub departed : State → ℕ → After
departed s t = record { state = record s { queues = λ key. without t (s.queues key) }; note = Left t }

-- ---- time limits

-- a call with a time limit
abbrev pub is_timed : Op → Bool
is_timed (OnMutex (call.TimedLock m)) = true
is_timed (OnCondition (cond_call.TimedWait k x)) = true
is_timed o = false

-- thread t's lock is out of time: it leaves its mutex's queue, woken by nobody, and never owned the mutex; what is left
-- of its call is to clear its entry and to return ETIMEDOUT
abbrev pub lapsed : State → ℕ → ℕ → Op → Whole → After
lapsed s t held o p =
    record {
      state = record (departed s t).state {
        threads = put s.threads t (record { stage = Calling o (timed_out p); held = held });
      };
      note = Expired t (Mutex (mutex_of s.layout o));
    }

-- thread t's wait on condition variable k is out of time: it leaves the queue, woken by nobody; what is left of its call
-- is to lock its mutex, and to return ETIMEDOUT where that is OK
abbrev pub overslept : State → ℕ → ℕ → ℕ → Whole → After
overslept s t held k p =
    record {
      state = record (departed s t).state {
        threads = put s.threads t
            (record { stage = Calling (OnCondition (cond_call.TimedWait k Past)) p; held = held });
      };
      note = Expired t (Condition k);
    }

-- thread t sleeps on the counter of condition variable k
abbrev pub waits_on : State → ℕ → ℕ → Bool
waits_on s t k = stands_in t (s.queues (counter_place s.layout k))

-- where a thread sleeps on its mutex, in a lock with a time limit, or on its condition variable, in a wait with one
abbrev pub expired : State → ℕ → ℕ → Stage → After
expired s t held (Calling (OnMutex c) p) =
    if is_timed (OnMutex c) && may_expire p.phase && sleeps s t (Calling (OnMutex c) p)
    then lapsed s t held (OnMutex c) p
    else nothing s
expired s t held (Calling (OnCondition c) p) =
    if is_timed (OnCondition c) && waits_on s t (conditions.condition_of c)
    then overslept s t held (conditions.condition_of c) p
    else nothing s
expired s t held g = nothing s

-- ---- trims that are declined

abbrev pub is_trim : Access → Bool
is_trim (access.Trim at) = true
is_trim a = false

-- a trim may be declined: it is answered that the word wasn't cleared, whatever that says, and no word and no queue
-- changes. So it is of a wake that is spared, except for the answer
abbrev pub spared : State → ℕ → ℕ → ℕ → Led → After
spared s t held m g =
    record {
      state = record s
          { threads = put s.threads t (record { stage = g.stage; held = held_after held g.operation g.point }) };
      note = Stepped t m (decision t m g.operation g.point) None [] [] g.returned;
    }

-- ---- deaths

-- the thread dies: it leaves its queue, its call ends there, and the kernel begins to walk its list
-- (get_robust_list(2))
abbrev pub killed : State → ℕ → After
killed s t =
    record {
      state = record s {
        queues = λ key. without t (s.queues key);
        threads = put s.threads t
            (record (s.threads t) { stage = Dying (exit.begun t (address_in s.layout t (head_place t))) });
      };
      note = Killed t;
    }

-- the mutex whose cell is at a place
abbrev pub mutex_at : Layout' → ℕ → Option ℕ
mutex_at l p =
    if nat_le (cell_place l 0) p && ((p - cell_place l 0) % 3 == 0) && nat_lt ((p - cell_place l 0) / 3) l.mutexes
    then Some ((p - cell_place l 0) / 3)
    else None

-- the mutex of which thread t's walk told the owner's death, by its cell's address in t's process
abbrev pub death_at : Layout' → ℕ → Option Point → Option ℕ
death_at l t None = None
death_at l t (Some p) = mutex_at l (place_in l t p.at)

-- an owner's death is recorded with OK
abbrev pub told_of : Option ℕ → Option Reply
told_of None = None
told_of (Some m) = Some OK

abbrev pub has_ended : walk_row.Row → Bool
has_ended walk.Ended = true
has_ended r = false

abbrev pub stage_walked : walks.Standing → walk_row.Row → Stage
stage_walked w walk.Ended = Reaped
stage_walked w r = Dying (record w { row = r })

-- the next access of the walk, and where its answer leads
abbrev pub walked : State → ℕ → ℕ → walks.Standing → After
walked s t held w =
    let a = exit.access_of w in
    let answer = answer_of s t a in
    let death = death_at s.layout t (exit.point_of w.thread w.row answer) in
    let row = exit.row_after w.thread w.head w.row answer in
    record {
      state = record s {
        words = words_after s t a;
        queues = queues_after s t a;
        threads = put s.threads t
            (record { stage = stage_walked w row; held = held_after held operation.Death (told_of death) });
      };
      note = Walked t death (woken s t a) (has_ended row);
    }

-- ---- renewals

-- one of the three words of thread t's head
abbrev pub is_in_head : ℕ → ℕ → Bool
is_in_head t p = nat_le (head_place t) p && nat_lt p (head_place t + 3)

-- a thread that was reaped lives again: its head is as at first, an empty list, which points at itself
-- (get_robust_list(2)), and no pending entry; and it is in no call and owns nothing
abbrev pub renewed : State → ℕ → After
renewed s t =
    record {
      state = record s
          { words = λ p. if is_in_head t p then head_word s.layout p else s.words p; threads = put s.threads t idle };
      note = Renewed t;
    }

-- ---- remakes

-- the word of mutex m says that it is unusable
abbrev pub is_unusable : State → ℕ → Bool
is_unusable s m = (fields_of (s.words (cell_place s.layout m))).unusable

-- thread t is in no call, and mutex m, one of the layout, is unusable. (So nobody owns it)
abbrev pub may_remake : State → ℕ → ℕ → Bool
may_remake s t m =
    has_thread s t && is_idle (s.threads t).stage && nat_lt m s.layout.mutexes && is_unusable s m

-- it reinitialises the mutex (pthread_mutex_destroy(3p), pthread_mutex_init(3p)), whose word is w then
abbrev pub reinited : State → ℕ → ℕ → ℕ → After
reinited s t m w = record { state = record s { words = put s.words (cell_place s.layout m) w }; note = Reinited t m }

-- WAITERS of a word, and nothing else of it
abbrev pub waiters_of : ℕ → ℕ
waiters_of w = bit (fields_of w).waiters waiters_alone

-- ---- wakes that are spared

-- a call on a mutex, at this point, takes it or wakes one that sleeps on it, unless it finds it owned
abbrev pub answers_at : Phase → Bool
answers_at (AtCell r) = answers_for r
answers_at f = false

-- a wait that is about to wake one of its mutex, which it has released with WAITERS
abbrev pub wakes_next : CondPhase → Bool
wakes_next (cond.AtWords (cond_row.Wait (wait.Wake seen))) = true
wakes_next f = false

-- a walk that hasn't begun
abbrev pub is_first : walk_row.Row → Bool
is_first walk.LoadFirst = true
is_first r = false

-- thread t has an entry pending, which is mutex m's (list_op_pending in get_robust_list(2))
abbrev pub is_pending : Layout' → (ℕ → ℕ) → ℕ → ℕ → Bool
is_pending l words m t = words (head_place t + 2) == address_in l t (entry_place l m)

-- so thread t, which is there, answers for mutex m, unless it sleeps; and where it was killed, and nobody has begun to
-- walk its list, its walk will, if it had the mutex pending
abbrev pub answers : Layout' → (ℕ → ℕ) → ℕ → ℕ → Stage → Bool
answers l words m t (Calling o p) = (mutex_of l o == m) && answers_at p.phase
answers l words m t (AtCondition c p) = (mutex_of l (OnCondition c) == m) && wakes_next p.phase
answers l words m t (Dying w) = is_first w.row && is_pending l words m t
answers l words m t g = false

-- one of the first n threads, but not thread t, is awake and answers for mutex m
abbrev pub another_answers : State → ℕ → ℕ → ℕ → Bool
another_answers s t m zero = false
another_answers s t m (suc n) =
    (not (suc n == t) && not (is_asleep s (suc n)) && answers s.layout s.words m (suc n) (s.threads (suc n)).stage)
    || another_answers s t m n

-- somebody owns mutex m
abbrev pub is_owned : State → ℕ → Bool
is_owned s m = not ((fields_of (s.words (cell_place s.layout m))).owner == 0)

-- thread t's walk, at this row, has mutex m pending and will look at its word; or it is about to wake on it
abbrev pub minds : Layout' → (ℕ → ℕ) → ℕ → ℕ → walk_row.Row → Bool
minds l words m t walk.LoadFirst = is_pending l words m t
minds l words m t (walk.LoadOffset f) = is_pending l words m t
minds l words m t (walk.LoadPending f o) = is_pending l words m t
minds l words m t (walk.LoadNext r) = r.pending == address_in l t (entry_place l m)
minds l words m t (walk.LoadWord at (part.List r)) = r.pending == address_in l t (entry_place l m)
minds l words m t (walk.LoadWord at part.Pending) = at == address_in l t (cell_place l m)
minds l words m t (walk.Mark at v again (part.List r)) = r.pending == address_in l t (entry_place l m)
minds l words m t (walk.WakeOne at (part.List r)) =
    (at == address_in l t (cell_place l m)) || (r.pending == address_in l t (entry_place l m))
minds l words m t (walk.WakeOne at part.Pending) = at == address_in l t (cell_place l m)
minds l words m t r = false

abbrev pub walk_minds : Layout' → (ℕ → ℕ) → ℕ → ℕ → Stage → Bool
walk_minds l words m t (Dying w) = minds l words m t w.row
walk_minds l words m t g = false

-- the walk of one of the first n threads does
abbrev pub a_walk_minds : State → ℕ → ℕ → Bool
a_walk_minds s m zero = false
a_walk_minds s m (suc n) = walk_minds s.layout s.words m (suc n) (s.threads (suc n)).stage || a_walk_minds s m n

-- the one to whom thread t leaves mutex m answers for it
abbrev pub is_left_to : State → ℕ → ℕ → LeftTo → Bool
is_left_to s t m left_to.Thread = another_answers s t m s.layout.threads
is_left_to s t m left_to.Owner = is_owned s m
is_left_to s t m left_to.Walk = a_walk_minds s m s.layout.threads

-- an unlock that is about to wake one sleeper
abbrev pub wakes_one : Phase → Bool
wakes_one (AtCell (Unlock (Wake all))) = not all
wakes_one f = false

-- ---- events

abbrev pub stepped : State → ℕ → ℕ → Stage → After
stepped s t held (Calling o p) =
    if sleeps s t (Calling o p) then nothing s
    else went s t held (mutex_of s.layout o) (Mutex (mutex_of s.layout o)) (whole_access p)
    (led o p (whole_led p (answer_of s t (whole_access p))))
stepped s t held (AtCondition c p) =
    went s t held (mutex_of s.layout (OnCondition c)) (Condition (conditions.condition_of c)) (condition.cond_access p)
    (led_at c p (condition.cond_led p (answer_of s t (condition.cond_access p))))
stepped s t held (Dying w) = walked s t held w
stepped s t held g = nothing s

-- where a thread that doesn't sleep is about to trim, that is declined
abbrev pub declined : State → ℕ → ℕ → Stage → After
declined s t held (Calling o p) =
    if is_trim (whole_access p) && not (sleeps s t (Calling o p))
    then spared s t held (mutex_of s.layout o) (led o p (whole_led p (Trimmed false)))
    else nothing s
declined s t held g = nothing s

-- where a call is about to wake one sleeper of its mutex, and the one to whom that is left answers for the mutex, it is
-- spared: it is answered as if one had been woken
abbrev pub sparing : State → ℕ → LeftTo → ℕ → Stage → After
sparing s t by held (Calling o p) =
    if wakes_one p.phase && is_left_to s t (mutex_of s.layout o) by
    then spared s t held (mutex_of s.layout o) (led o p (whole_led p (Count 1)))
    else nothing s
sparing s t by held (AtCondition c p) =
    if wakes_next p.phase && is_left_to s t (mutex_of s.layout (OnCondition c)) by
    then spared s t held (mutex_of s.layout (OnCondition c)) (led_at c p (condition.cond_led p (Count 1)))
    else nothing s
sparing s t by held g = nothing s

-- a begin of a busy, killed or unknown thread, of a call outside the layout or of a wait that is out of time, a step of
-- an idle, sleeping, reaped or unknown thread, a kill of a killed or unknown thread, a leave of a thread that doesn't
-- sleep, an expiry of one that doesn't sleep in a lock with a time limit or on the condition variable of a wait with
-- one, a decline of one that isn't about to trim, a renewal of one that wasn't reaped, a remake by one that isn't idle,
-- or of a mutex that is usable, and a spare of a thread that isn't about to wake one of a mutex, or leaves it to one who
-- doesn't answer for it, do nothing
abbrev pub happens : State → Event → After
happens s (Begin t o) = if may_begin s t o then begun s t o (first_stage s.layout t (s.threads t).held o) else nothing s
happens s (Step t) = if has_thread s t then stepped s t (s.threads t).held (s.threads t).stage else nothing s
happens s (Kill t) = if has_thread s t && is_alive (s.threads t).stage then killed s t else nothing s
happens s (Leave t) = if has_thread s t && is_asleep s t then departed s t else nothing s
happens s (Expire t) = if has_thread s t then expired s t (s.threads t).held (s.threads t).stage else nothing s
happens s (Decline t) = if has_thread s t then declined s t (s.threads t).held (s.threads t).stage else nothing s
happens s (Renew t) = if has_thread s t && is_gone (s.threads t).stage then renewed s t else nothing s
happens s (Remake t m) =
    if may_remake s t m then reinited s t m (waiters_of (s.words (cell_place s.layout m))) else nothing s
happens s (Spare t by) = if has_thread s t then sparing s t by (s.threads t).held (s.threads t).stage else nothing s

-- ---- runs

abbrev pub run : State → List Event → State
run s [] = s
run s (e ∷ es) = run (happens s e).state es

-- one note an event
abbrev pub notes : State → List Event → List Note
notes s [] = []
notes s (e ∷ es) = (happens s e).note ∷ notes (happens s e).state es
