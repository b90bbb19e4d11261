-- The events that a script stands for, and what it means to play them.
--
-- *Processes of a script.* Process 0 has base 0, and after it come those that `process` lines declare, each with the
-- base that its line gives; a thread is of the process that its line names, of process 0 where it names none. The
-- machine that plays the script has this layout, and so have the words of its real threads. The law
-- `processes_are_as_told` says so of the lines' words alone, and of which process each `killall` is asked;
-- `one_process_without_a_line`: a script with no such line has the machine of one process.
--
-- *Killing a process.* `killall` is one kill event for each thread of the process, in the order of ids, and no event of
-- its own. The law `killall_kills_one_process`: whatever happened before, these are kills and nothing else, of exactly
-- the threads that the script has in that process, each once.
--
-- *Events of a script.* `begin` and `kill` are one event, `step` this many, `killall` one for each thread of its
-- process; `go` is steps until the thread isn't going any more, `call` a begin and then the same, `locks` as many
-- calls; a script is too long at the first line that would run event 100,001.
--
-- *Going.* A thread is going that is in a call or dying, and doesn't sleep. The law `threads_come_to_rest`: the number
-- of steps that `go` makes is the least of its own after which it isn't going any more.
use Rattle.std.specs.Prelude.{ℕ, zero, suc, Bool, not, ◌&&◌, ◌||◌, ◌≡◌, ◌==◌, ◌+◌, ◌-◌, ◌<◌, ◌≤◌}
use Rattle.std.specs.Prelude.{nat_lt, List, [], ◌∷◌, ◌++◌, length, map, filter, replicate, slice_index}
use Rattle.std.specs.Prelude.{slice_index_or, Option, Some, None, Result, Ok, Err, if◌then◌else◌}
use Rattle.std.specs.List.{range_with_len}
use Rattle.memorymap.specs.Layouts.{Layout'}
use Rattle.condvar.specs.declared.op.Op.{Op}
use Rattle.condvar.specs.declared.op.Op.TheVariants.{OnMutex}
use Rattle.mutex.specs.declared.call.Call.TheVariants.{Lock}
use Rattle.protocol.specs.declared.event.Event.{Event}
use Rattle.protocol.specs.declared.event.Event.TheVariants as event
use Rattle.protocol.specs.declared.event.LeftTo.TheVariants as left_to
use Rattle.protocol.specs.declared.note.Note.{Note}
use Rattle.protocol.specs.Machine.{State, start, happens, run, notes, is_busy, is_dying, is_asleep}
use Rattle.script.specs.declared.command.Action.{Action}
use Rattle.script.specs.declared.command.Action.TheVariants.{Begin, Step, Kill, KillAll, Leave, Decline, Expire}
use Rattle.script.specs.declared.command.Action.TheVariants.{Renew, Remake, Spare}
use Rattle.script.specs.declared.command.Action.TheVariants.{Go, Call, Locks, Phase, Die}
use Rattle.script.specs.declared.command.Command.{Command}
use Rattle.script.specs.declared.fault.Fault.{Fault}
use Rattle.script.specs.declared.fault.Fault.TheVariants.{TooLong, OutOfMemory}
use Rattle.script.specs.declared.fault.ScriptFault.{ScriptFault}
use Rattle.script.specs.Limits.{max_events, max_mutexes, rest_steps}
use Rattle.script.specs.Scope.{Scope}

-- the words of a script: its threads, each of its process, its mutexes and condition variables. Process 0 maps the
-- words at 0, and those with names map them at the bases that they were declared with
abbrev pub layout_of : Scope → Layout'
layout_of s = record {
  threads = length s.threads;
  mutexes = length s.mutexes;
  conditions = map (λ c. c.1.mutex) s.conditions;
  processes = s.members;
  bases = 0 ∷ map (λ p. p.1) s.processes;
}

-- what the counters begin with, in the order of their condition variables' numbers
abbrev pub counters_of : Scope → List ℕ
counters_of s = map (λ c. c.1.counter) s.conditions

-- and by these numbers
abbrev pub counter_of : Scope → ℕ → ℕ
counter_of s k = slice_index_or (counters_of s) k 0

abbrev pub first_state : Scope → State
first_state s = start (layout_of s) (counter_of s)

-- the first threads of a process, this many being looked at
abbrev pub members_among : Layout' → ℕ → ℕ → List ℕ
members_among l p n = filter (λ t. slice_index l.processes (t - 1) == p) (range_with_len 1 n)

-- a kill of each thread of a process, in the order of ids
abbrev pub killing : Layout' → ℕ → List Event
killing l p = map event.Kill (members_among l p l.threads)

-- thread t is in a call or dying, and doesn't sleep
abbrev pub is_going : State → ℕ → Bool
is_going s t = (is_busy s t || is_dying s t) && not (is_asleep s t)

-- the least number of its own steps after which thread t isn't going any more, looked for among at most this many
unfoldable pub steps_to_rest : ℕ → State → ℕ → ℕ
steps_to_rest zero s t = 0
steps_to_rest (suc most) s t = if is_going s t then suc (steps_to_rest most (happens s (event.Step t)).state t) else 0

-- the steps of thread t until it rests
abbrev pub going_on : State → ℕ → List Event
going_on s t = replicate (steps_to_rest rest_steps s t) (event.Step t)

-- a call is begun, and then stepped until its thread rests
abbrev pub calling : State → ℕ → Op → List Event
calling s t o = event.Begin t o ∷ going_on (happens s (event.Begin t o)).state t

-- a lock of each of n mutexes from mutex m on, one after the other
abbrev pub locking : State → ℕ → ℕ → ℕ → List Event
locking s t m zero = []
locking s t m (suc n) = calling s t (OnMutex (Lock m)) ++ locking (run s (calling s t (OnMutex (Lock m)))) t (suc m) n

-- the events of an action at a state of the machine; the end of a phase of real threads is no event, and no more is the
-- death of one
abbrev pub events_of : State → Action → List Event
events_of s (Begin t c) = event.Begin t c ∷ []
events_of s (Step t n) = replicate n (event.Step t)
events_of s (Kill t) = event.Kill t ∷ []
events_of s (KillAll p) = killing s.layout p
events_of s (Leave t) = event.Leave t ∷ []
events_of s (Decline t) = event.Decline t ∷ []
events_of s (Expire t) = event.Expire t ∷ []
events_of s (Renew t) = event.Renew t ∷ []
events_of s (Remake t m) = event.Remake t m ∷ []
events_of s (Spare t) = event.Spare t left_to.Thread ∷ []
events_of s (Go t) = going_on s t
events_of s (Call t c) = calling s t c
events_of s (Locks t m n) = locking s t m n
events_of s Phase = []
events_of s (Die t n) = []

-- the mutexes of a `locks` are among those that there may be
abbrev pub HasMutexes : Action → Type 0
HasMutexes (Locks t m n) = m + n ≤ max_mutexes
HasMutexes a = Unit {0}

-- the events of commands, each at the state that those before it leave
abbrev pub events_from : State → List Command → List Event
events_from s [] = []
events_from s (c ∷ cs) = events_of s c.action ++ events_from (run s (events_of s c.action)) cs

abbrev pub events_in : Scope → List Event
events_in s = events_from (first_state s) s.commands

-- the line of the first command that would run one event too many, where n events ran before
abbrev pub overlong_from : ℕ → State → List Command → Option ℕ
overlong_from n s [] = None
overlong_from n s (c ∷ cs) =
    if nat_lt max_events (n + length (events_of s c.action))
    then Some c.line
    else overlong_from (n + length (events_of s c.action)) (run s (events_of s c.action)) cs

abbrev pub overlong : Scope → Option ℕ
overlong s = overlong_from 0 (first_state s) s.commands

-- these events ran and were noted; or there are too many of them; or one of them, of those that may run, found no
-- memory
abbrev pub Adds : State → State → List Note → List Note → List Event → Result (Unit {0}) Fault → Type 0
Adds s s' ns ns' es (Ok u) = (s' ≡ run s es) × (ns' ≡ ns ++ notes s es) × (length ns + length es ≤ max_events)
Adds s s' ns ns' es (Err TooLong) = max_events < length ns + length es
Adds s s' ns ns' es (Err OutOfMemory) = (0 < length es) × (length ns < max_events)
Adds s s' ns ns' es (Err f) = ⊥

-- the same for the command at a line, where a fault is reported
abbrev pub AddsAt : ℕ → State → State → List Note → List Note → List Event → Result (Unit {0}) ScriptFault → Type 0
AddsAt line s s' ns ns' es (Ok u) = Adds s s' ns ns' es (Ok u)
AddsAt line s s' ns ns' es (Err e) = (e.line ≡ line) × Adds s s' ns ns' es (Err e.fault)
