-- What a script asks of real threads.
--
-- *What a script asks of real threads.* `phase` lines part the commands into phases; in each phase each thread has its
-- calls, on mutexes and on condition variables, in the order of their lines. A thread's number is that of its `die`
-- line, of which there is one at most.
use Rattle.std.specs.Prelude.{ℕ, zero, suc, ◌≡◌, ◌+◌, ◌<◌, Bool, true, false, ◌==◌, List, [], ◌∷◌}
use Rattle.std.specs.Prelude.{◌++◌, length, map, slice_index_or, Option, Vec, if◌then◌else◌}
use Rattle.std.specs.declared.alloc.Global.{Global}
use Rattle.std.specs.List.{slice_split, flat_map, range_with_len}
use Rattle.condvar.specs.declared.op.Op.{Op}
use Rattle.script.specs.Deaths.{death_of}
use Rattle.script.specs.Scope.{Scope}
use Rattle.script.specs.declared.command.Action.{Action}
use Rattle.script.specs.declared.command.Action.TheVariants as action
use Rattle.script.specs.declared.command.Command.{Command}
use Rattle.script.specs.declared.workload.Job.{Job}
use Rattle.script.specs.declared.workload.Phase.{Phase}

-- what one thread does in a phase
pub record Job' : Type 0 where
  pub thread : ℕ
  pub calls : List Op

-- whether a command is the end of a phase
abbrev pub is_end : Action → Bool
is_end action.Phase = true
is_end (action.Begin t c) = false
is_end (action.Step t n) = false
is_end (action.Kill t) = false
is_end (action.KillAll p) = false
is_end (action.Go t) = false
is_end (action.Leave t) = false
is_end (action.Decline t) = false
is_end (action.Expire t) = false
is_end (action.Renew t) = false
is_end (action.Remake t m) = false
is_end (action.Spare t) = false
is_end (action.Call t c) = false
is_end (action.Locks t m n) = false
is_end (action.Die t n) = false

abbrev pub ends_phase : Command → Bool
ends_phase c = is_end c.action

-- what an action asks of thread t: its call, if it is one
abbrev pub call_by : ℕ → Action → List Op
call_by t (action.Call u k) = if u == t then k ∷ [] else []
call_by t action.Phase = []
call_by t (action.Begin u k) = []
call_by t (action.Step u n) = []
call_by t (action.Kill u) = []
call_by t (action.KillAll p) = []
call_by t (action.Go u) = []
call_by t (action.Leave u) = []
call_by t (action.Decline u) = []
call_by t (action.Expire u) = []
call_by t (action.Renew u) = []
call_by t (action.Remake u m) = []
call_by t (action.Spare u) = []
call_by t (action.Locks u m n) = []
call_by t (action.Die u n) = []

-- the calls of thread t among commands, in their order
abbrev pub calls_by : ℕ → List Command → List Op
calls_by t cs = flat_map (λ c. call_by t c.action) cs

-- thread t's job, where it has a call
abbrev pub job_of : ℕ → List Op → List Job'
job_of t [] = []
job_of t (c ∷ cs) = record { thread = t; calls = c ∷ cs } ∷ []

-- the jobs of the threads 1 to n in a phase, in their order
abbrev pub jobs_up_to : ℕ → List Command → List Job'
jobs_up_to zero cs = []
jobs_up_to (suc n) cs = jobs_up_to n cs ++ job_of (suc n) (calls_by (suc n) cs)

-- what stands between the ends of phases, phase after phase; after the last end stands one more, which may be empty
abbrev pub phases_in : Scope → List (List Command)
phases_in s = slice_split ends_phase s.commands

-- the jobs of each phase
abbrev pub jobs_of : Scope → List (List Job')
jobs_of s = map (jobs_up_to (length s.threads)) (phases_in s)

-- of each thread, in the order of ids, the number in its `die` line: the access before which it dies, and None where it
-- has no such line
abbrev pub dies_of : Scope → List (Option ℕ)
dies_of s = map (λ t. death_of t s.commands) (range_with_len 1 (length s.threads))

-- values of the code as lists
abbrev pub job_seen : Job → Job'
job_seen j = record { thread = j.thread; calls = j.calls.items }

abbrev pub jobs_seen : Phase → List Job'
jobs_seen p = map job_seen p.jobs.items

abbrev pub lists_seen : List (Vec Op Global) → List (List Op)
lists_seen vs = map (λ v. v.items) vs

-- of each of n threads, the calls among these commands, that of thread 1 first
pub record AreCalls (n : ℕ) (cs : List Command) (lists : List (List Op)) : Type 0 where
  pub as_many : length lists ≡ n
  pub each : (i : ℕ) → i < n → slice_index_or lists i [] ≡ calls_by (i + 1) cs
