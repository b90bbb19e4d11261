-- What an access does over a list of words and a kernel's queues, and what a thread does with its answer.
use Rattle.std.specs.Prelude.{ℕ, ◌≡◌, ◌==◌, ◌&&◌, not, Bool, true, false, List, [], ◌++◌, length}
use Rattle.std.specs.Prelude.{slice_index, slice_set, Option, Some, None, Result, Ok, Err, if◌then◌else◌}
use Rattle.lockword.specs.declared.reply.Reply.{Reply}
use Rattle.lockword.specs.declared.reply.Reply.TheVariants.{EAGAIN}
use Rattle.stepprograms.specs.declared.access.Access.{Access}
use Rattle.stepprograms.specs.declared.access.Answer.{Answer}
use Rattle.stepprograms.specs.declared.access.Access.TheVariants.{Requeue, CmpRequeue}
use Rattle.stepprograms.specs.declared.access.Answer.TheVariants.{Exchanged, Changed, Again, Counts, Trimmed, Fault}
use Rattle.posixmutex.specs.declared.point.Point.{Point}
use Rattle.stepprograms.specs.declared.program.Progress.{Progress}
use Rattle.stepprograms.specs.declared.program.Progress.TheVariants.{Goes, Returns}
use Rattle.memorymap.specs.Addresses.{seen_at}
use Rattle.stepprograms.specs.Accesses.{address_of, word_among, answer_among, sleeps_at}
use Rattle.exitwalk.specs.Standings as walks
use Rattle.posixmutex.specs.declared.point.Decision.{Decision}
use Rattle.condvar.specs.declared.call.CondCall.{CondCall}
use Rattle.condvar.specs.Standings.{CondWhole}
use Rattle.condvar.specs.Whole.{lock_of}
use Rattle.condvar.specs.Ops.{reply_of}
use Rattle.condvar.specs.declared.op.Op.{Op}
use Rattle.condvar.specs.declared.op.Op.TheVariants.{OnCondition}
use Rattle.mutex.specs.Standings.{Whole}
use Rattle.protocol.specs.declared.thread.Stage.{Stage}
use Rattle.protocol.specs.declared.thread.Stage.TheVariants.{Idle, Calling, AtCondition, Dying, Reaped}
use Rattle.protocol.specs.Machine.{put, queue_after, woken_by, moved_by, held_after, decision}
use Rattle.syscalls.specs.Kernels.{Kernel', queue_of}
use Rattle.syscalls.specs.Memories.{is_valid}
use Rattle.interleave.specs.declared.accesses.Performed.{Performed}

-- the answer of an access to the word at an address, where there may be none
abbrev pub or_fault : {A : Type 0} → (A → Answer) → Option A → Answer
or_fault f None = Fault
or_fault f (Some x) = f x

-- the answer of an exchange that met the word w
abbrev pub exchange_answer : ℕ → ℕ → Answer
exchange_answer old w = if w == old then Exchanged else Changed w

-- what a requeue answers, and whom it wakes and moves, as the kernel tells it
abbrev pub requeue_performed : Result (List ℕ × List ℕ) Reply → Performed
requeue_performed (Ok x) = record { answer = Counts (length x.0) (length x.1); slept = false; woken = x.0; moved = x.1 }
requeue_performed (Err EAGAIN) = record { answer = Again; slept = false; woken = []; moved = [] }
requeue_performed (Err r) = record { answer = Fault; slept = false; woken = []; moved = [] }

-- what a trim answers, as the kernel tells it
abbrev pub trim_performed : Result Bool Reply → Performed
trim_performed (Ok trimmed) = record { answer = Trimmed trimmed; slept = false; woken = []; moved = [] }
trim_performed (Err r) = record { answer = Fault; slept = false; woken = []; moved = [] }

-- the place of the word that an access meets, made by a process that maps the words at this base
abbrev pub place_from : ℕ → Access → ℕ
place_from b a = seen_at b (address_of a)

-- an access isn't refused: its address is valid; of a requeue both are, and they differ
abbrev pub list_met : List ℕ → ℕ → Access → Bool
list_met ws b (Requeue from n to k) =
    is_valid ws (seen_at b from) && (is_valid ws (seen_at b to) && not (seen_at b from == seen_at b to))
list_met ws b (CmpRequeue from e n to k) =
    is_valid ws (seen_at b from) && (is_valid ws (seen_at b to) && not (seen_at b from == seen_at b to))
list_met ws b a = is_valid ws (place_from b a)

-- these threads come to the end of the queue that an access moves to
abbrev pub list_joined : ℕ → Access → List ℕ → (ℕ → List ℕ) → ℕ → List ℕ
list_joined b (Requeue from n to k) us queues = put queues (seen_at b to) (queues (seen_at b to) ++ us)
list_joined b (CmpRequeue from e n to k) us queues = put queues (seen_at b to) (queues (seen_at b to) ++ us)
list_joined b a us queues = queues

-- the words after an access, of the words before and of those who sleep on the one that it meets: that one is changed,
-- where its address is valid, and all others stay
abbrev pub list_words : List ℕ → Kernel' → ℕ → Access → List ℕ
list_words ws k b a =
    if is_valid ws (place_from b a)
    then slice_set ws (place_from b a) (word_among a (slice_index ws (place_from b a)) (queue_of k (place_from b a)))
    else ws

abbrev pub list_answer : List ℕ → Kernel' → ℕ → Access → Answer
list_answer ws k b a =
    if list_met ws b a then answer_among a (slice_index ws (place_from b a)) (queue_of k (place_from b a)) else Fault

abbrev pub list_slept : List ℕ → ℕ → Access → Bool
list_slept ws b a = list_met ws b a && sleeps_at a (slice_index ws (place_from b a))

abbrev pub list_woken : List ℕ → Kernel' → ℕ → Access → List ℕ
list_woken ws k b a =
    if list_met ws b a then woken_by a (slice_index ws (place_from b a)) (queue_of k (place_from b a)) else []

abbrev pub list_moved : List ℕ → Kernel' → ℕ → Access → List ℕ
list_moved ws k b a =
    if list_met ws b a then moved_by a (slice_index ws (place_from b a)) (queue_of k (place_from b a)) else []

abbrev pub list_queues : List ℕ → Kernel' → ℕ → ℕ → Access → ℕ → List ℕ
list_queues ws k b t a =
    if list_met ws b a
    then list_joined b a (moved_by a (slice_index ws (place_from b a)) (queue_of k (place_from b a)))
    (put (queue_of k) (place_from b a)
    (queue_after t a (slice_index ws (place_from b a)) (queue_of k (place_from b a))))
    else queue_of k

-- what thread t's access over these words does to the queues, and tells, its process mapping the words at base b
pub record Performs (ws : List ℕ) (old new : Kernel') (b t : ℕ) (a : Access) (done : Performed) : Type 0 where
  pub answer : done.answer ≡ list_answer ws old b a
  pub slept : done.slept ≡ list_slept ws b a
  pub woken : done.woken ≡ list_woken ws old b a
  pub moved : done.moved ≡ list_moved ws old b a
  pub queues : (p : ℕ) → queue_of new p ≡ list_queues ws old b t a p
  pub threads : new.threads ≡ old.threads
  pub heads : new.heads ≡ old.heads

-- the point that a step was
abbrev pub point_in : Progress → Option Point
point_in (Goes point) = point
point_in (Returns x point) = point

-- how many mutexes a thread owns after such a point
abbrev pub held_with : ℕ → Option Point → ℕ
held_with held None = held
held_with held (Some p) = held_after held p.operation (Some p.reply)

abbrev pub decision_with : ℕ → ℕ → Option Point → Option Decision
decision_with t m None = None
decision_with t m (Some p) = decision t m p.operation (Some p.reply)

-- where a call's program returns, it is the call that says with what, since that knows whether it is out of time
abbrev pub replying : Op → Progress → Progress
replying o (Goes point) = Goes point
replying o (Returns x point) = Returns (reply_of o x) point

abbrev pub reply_in : Progress → Option Reply
reply_in (Goes point) = None
reply_in (Returns x point) = Some x

abbrev pub stage_in : Op → Whole → Progress → Stage
stage_in o p (Goes point) = Calling o p
stage_in o p (Returns x point) = Idle

-- a wait that is awake again is in the mutex's lock
abbrev pub stage_where : CondCall → CondWhole → Option Whole → Stage
stage_where c p None = AtCondition c p
stage_where c p (Some w) = Calling (OnCondition c) w

abbrev pub stage_at_in : CondCall → CondWhole → Progress → Stage
stage_at_in c p (Goes point) = stage_where c p (lock_of p.phase)
stage_at_in c p (Returns x point) = Idle

-- ---- a walk

abbrev pub has_returned : Progress → Bool
has_returned (Goes point) = false
has_returned (Returns x point) = true

abbrev pub stage_walked_in : walks.Standing → Progress → Stage
stage_walked_in w (Goes point) = Dying w
stage_walked_in w (Returns x point) = Reaped
