-- The text of a table: how a run left each thread, each mutex and each condition variable.
--
-- *Text of a table.* A line for each thread, with what it does, how many mutexes it owns and the reply of its last call
-- that returned, one for each mutex, with its word in 16 hexadecimal digits, its owner and those that sleep on it, in
-- their order, and one for each condition variable, with its counter and those that sleep on it.
use Rattle.std.specs.Prelude.{ℕ, zero, suc, ◌==◌, Bool, false, List, [], ◌∷◌, ◌++◌, length, map, filter}
use Rattle.std.specs.Prelude.{drop, slice_get, codes, decimal, Option, Some, None, if◌then◌else◌}
use Rattle.std.specs.List.{concat, flat_map, last_or, join_by, range_with_len}
use Rattle.lockword.specs.declared.reply.Reply.{Reply}
use Rattle.lockword.specs.Replies.{reply_word}
use Rattle.memorymap.specs.Layouts.{cell_place, counter_place}
use Rattle.protocol.specs.declared.thread.Stage.{Stage}
use Rattle.protocol.specs.declared.thread.Stage.TheVariants.{Idle, Calling, AtCondition, Dying, Reaped}
use Rattle.protocol.specs.declared.note.Note.{Note}
use Rattle.facts.specs.declared.fact.Fact.{Fact}
use Rattle.facts.specs.declared.fact.Fact.TheVariants.{Return}
use Rattle.protocol.specs.Machine.{State, sleeps, sleepers}
use Rattle.protocol.specs.Headline.{seen, facts_among}
use Rattle.script.specs.Scope.{Scope}
use Rattle.texts.specs.MutexLines.{mutex_start}

-- ---- names

abbrev pub name_in : Option (List ℕ) → List ℕ
name_in None = codes "-"
name_in (Some name) = name

-- the name of the thread with this id, from 1; an id that no thread has is shown as a hyphen
abbrev pub name_of : List (List ℕ) → ℕ → List ℕ
name_of names zero = codes "-"
name_of names (suc i) = name_in (slice_get names i)

-- ---- a thread

-- what thread t does at this stage
abbrev pub state_word : State → ℕ → Stage → List ℕ
state_word s t Idle = codes "idle"
state_word s t (Calling o p) = if sleeps s t (Calling o p) then codes "asleep" else codes "busy"
state_word s t (AtCondition c p) = if sleeps s t (AtCondition c p) then codes "asleep" else codes "busy"
state_word s t (Dying w) = codes "dying"
state_word s t Reaped = codes "reaped"

abbrev pub is_owner : ℕ → Option ℕ → Bool
is_owner t None = false
is_owner t (Some u) = u == t

-- of how many mutexes the cells name thread t as the owner
abbrev pub held_by : State → ℕ → ℕ
held_by s t = length (filter (λ m. is_owner t (seen s m).owner) (range_with_len 0 s.layout.mutexes))

-- the reply that thread t's call returned, where the fact tells of such a return
abbrev pub told_to : ℕ → Fact → List Reply
told_to t (Return u x) = if u == t then x ∷ [] else []
told_to t f = []

-- the reply of the last call of thread t that returned
abbrev pub last_reply : ℕ → List Note → Option Reply
last_reply t ns = last_or None (flat_map (told_to t) (facts_among ns))

abbrev pub reply_or_hyphen : Option Reply → List ℕ
reply_or_hyphen None = codes "-"
reply_or_hyphen (Some x) = reply_word x

-- thread NAME STATE HELD LAST
abbrev pub thread_line : List (List ℕ) → State → List Note → ℕ → List ℕ
thread_line names s ns t =
    concat (codes "thread " ∷ name_of names t ∷ codes " " ∷ [])
    ++ concat
    (state_word s t (s.threads t).stage ∷ codes " " ∷ decimal (held_by s t) ∷ codes " "
    ∷ reply_or_hyphen (last_reply t ns) ∷ codes "\n" ∷ [])

-- ---- a mutex

abbrev pub owner_word : List (List ℕ) → Option ℕ → List ℕ
owner_word names None = codes "-"
owner_word names (Some t) = name_of names t

-- the names of a queue's threads, in its order
abbrev pub queue_names : List (List ℕ) → List ℕ → List ℕ
queue_names names [] = codes "-"
queue_names names (t ∷ ts) = join_by (name_of names) (codes ",") (t ∷ ts)

-- the names after the first, each after a comma
abbrev pub comma_name : List (List ℕ) → ℕ → List ℕ
comma_name names t = concat (codes "," ∷ name_of names t ∷ [])

abbrev pub others_names : List (List ℕ) → List ℕ → List ℕ
others_names names ids = concat (map (comma_name names) (drop 1 ids))

-- mutex NAME CELL OWNER SLEEPERS
abbrev pub mutex_line : Scope → State → ℕ → List ℕ
mutex_line sc s m = mutex_start (name_in (slice_get sc.mutexes m)) (s.words (cell_place s.layout m))
    (owner_word sc.threads (seen s m).owner) ++ (queue_names sc.threads (sleepers s m) ++ concat (codes "\n" ∷ []))

-- ---- a condition variable

-- the name of condition variable k
abbrev pub condition_name : Scope → ℕ → List ℕ
condition_name sc k = name_in (slice_get (map (λ c. c.0) sc.conditions) k)

-- cond NAME COUNTER SLEEPERS
abbrev pub condition_line : Scope → State → ℕ → List ℕ
condition_line sc s k =
    concat
    (codes "cond " ∷ condition_name sc k ∷ codes " " ∷ decimal (s.words (counter_place s.layout k)) ∷ codes " "
    ∷ [])
    ++ (queue_names sc.threads (s.queues (counter_place s.layout k)) ++ concat (codes "\n" ∷ []))

-- ---- a table

abbrev pub thread_lines : Scope → State → List Note → List ℕ
thread_lines sc s ns = concat (map (thread_line sc.threads s ns) (range_with_len 1 (length sc.threads)))

abbrev pub mutex_lines : Scope → State → List ℕ
mutex_lines sc s = concat (map (mutex_line sc s) (range_with_len 0 (length sc.mutexes)))

abbrev pub condition_lines : Scope → State → List ℕ
condition_lines sc s = concat (map (condition_line sc s) (range_with_len 0 (length sc.conditions)))

-- the script's mutexes and then its condition variables
abbrev pub object_lines : Scope → State → List ℕ
object_lines sc s = mutex_lines sc s ++ condition_lines sc s

-- the script's threads, then its mutexes, then its condition variables, each in the order of their numbers, as they are
-- in this state after these notes
abbrev pub table_text : Scope → State → List Note → List ℕ
table_text sc s ns = thread_lines sc s ns ++ object_lines sc s
