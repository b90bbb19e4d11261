-- A script as callers see it: its names and its commands.
use Rattle.std.specs.Prelude.{ℕ, ◌≡◌, ◌+◌, ◌≤◌, ◌<◌, List, length, All}
use Rattle.mutex.specs.Calls.{mutex_of}
use Rattle.condvar.specs.Calls.{condition_of}
use Rattle.condvar.specs.declared.op.Op.{Op}
use Rattle.condvar.specs.declared.op.Op.TheVariants.{OnMutex, OnCondition}
use Rattle.script.specs.declared.command.Mode.{Mode}
use Rattle.script.specs.declared.command.Action.{Action}
use Rattle.script.specs.declared.command.Action.TheVariants.{Begin, Step, Kill, KillAll, Leave, Decline, Expire}
use Rattle.script.specs.declared.command.Action.TheVariants.{Renew, Remake, Spare}
use Rattle.script.specs.declared.command.Action.TheVariants.{Go, Call, Locks, Phase, Die}
use Rattle.script.specs.declared.command.Command.{Command}
use Rattle.script.specs.declared.command.Condition.{Condition}
use Rattle.script.specs.Deaths.{deaths_by}
use Rattle.script.specs.Limits.{max_processes, max_base, max_threads, max_mutexes}
use Rattle.script.specs.Limits.{max_conditions, max_counter, max_steps, max_access}

-- what it is written for, the names in the order of declaration, each as its bytes, of processes each with its base, of
-- condition variables each with what it was declared with; of each thread the number of its process; and the commands
-- in the order of their lines. Process 0 is always there, with base 0 and no name; those with names have the numbers
-- from 1 on
pub record Scope : Type 0 where
  pub mode : Mode
  pub processes : List (List ℕ × ℕ)
  pub threads : List (List ℕ)
  pub members : List ℕ
  pub mutexes : List (List ℕ)
  pub conditions : List (List ℕ × Condition)
  pub commands : List Command

-- what a call names is the script's, which has this many mutexes and condition variables
abbrev pub Names : ℕ → ℕ → Op → Type 0
Names mutexes conditions (OnMutex c) = mutex_of c < mutexes
Names mutexes conditions (OnCondition c) = condition_of c < conditions

-- an action of a script with this many named processes, threads, mutexes and condition variables: its numbers are of
-- the script's, and it takes from one step to as many as may be, or one mutex or more, or is a death before an access
-- that there may be
abbrev pub IsPossible : ℕ → ℕ → ℕ → ℕ → Action → Type 0
IsPossible processes threads mutexes conditions (Begin t o) = (1 ≤ t) × (t ≤ threads) × Names mutexes conditions o
IsPossible processes threads mutexes conditions (Step t n) = (1 ≤ t) × (t ≤ threads) × (1 ≤ n) × (n ≤ max_steps)
IsPossible processes threads mutexes conditions (Kill t) = (1 ≤ t) × (t ≤ threads)
IsPossible processes threads mutexes conditions (KillAll p) = (1 ≤ p) × (p ≤ processes)
IsPossible processes threads mutexes conditions (Leave t) = (1 ≤ t) × (t ≤ threads)
IsPossible processes threads mutexes conditions (Decline t) = (1 ≤ t) × (t ≤ threads)
IsPossible processes threads mutexes conditions (Expire t) = (1 ≤ t) × (t ≤ threads)
IsPossible processes threads mutexes conditions (Renew t) = (1 ≤ t) × (t ≤ threads)
IsPossible processes threads mutexes conditions (Remake t m) = (1 ≤ t) × (t ≤ threads) × (m < mutexes)
IsPossible processes threads mutexes conditions (Spare t) = (1 ≤ t) × (t ≤ threads)
IsPossible processes threads mutexes conditions (Go t) = (1 ≤ t) × (t ≤ threads)
IsPossible processes threads mutexes conditions (Call t o) = (1 ≤ t) × (t ≤ threads) × Names mutexes conditions o
IsPossible processes threads mutexes conditions (Locks t m n) = (1 ≤ t) × (t ≤ threads) × (1 ≤ n) × (m + n ≤ mutexes)
IsPossible processes threads mutexes conditions Phase = Unit {0}
IsPossible processes threads mutexes conditions (Die t n) = (1 ≤ t) × (t ≤ threads) × (1 ≤ n) × (n ≤ max_access)

-- a condition variable of one of this many mutexes, with a value that its counter may have
abbrev pub IsCondition : ℕ → Condition → Type 0
IsCondition mutexes c = (c.mutex < mutexes) × (c.counter ≤ max_counter)

-- what the lines so far can have made: no more names than may be, each thread in a process that is there, possible
-- commands, and of each thread one death at most
pub record IsWithinLimits (s : Scope) : Type 0 where
  pub processes_at_most : length s.processes ≤ max_processes
  pub bases_possible : All (λ p. p.1 ≤ max_base) s.processes
  pub threads_at_most : length s.threads ≤ max_threads
  pub each_thread : length s.members ≡ length s.threads
  pub members_possible : All (λ p. p ≤ length s.processes) s.members
  pub mutexes_at_most : length s.mutexes ≤ max_mutexes
  pub conditions_at_most : length s.conditions ≤ max_conditions
  pub conditions_possible : All (λ c. IsCondition (length s.mutexes) c.1) s.conditions
  pub commands_possible : All
      (λ c. IsPossible (length s.processes) (length s.threads) (length s.mutexes) (length s.conditions) c.action)
      s.commands
  pub dies_once : (t : ℕ) → length (deaths_by t s.commands) ≤ 1

-- what a whole script is: it has a thread and a mutex too
pub record IsWellFormed (s : Scope) : Type 0 where
  pub some_thread : 1 ≤ length s.threads
  pub some_mutex : 1 ≤ length s.mutexes
  pub within : IsWithinLimits s
