-- What is recorded of calls, and the words that sleepers sleep on.
use Rattle.std.specs.Prelude.{ℕ}
use Rattle.memorymap.specs.Layouts.{Layout', cell_place, counter_place}
use Rattle.condvar.specs.Ops.{operation_of, mutex_of, condition_of}
use Rattle.condvar.specs.declared.op.Op.{Op}
use Rattle.facts.specs.declared.fact.Begun.{Begun}
use Rattle.facts.specs.declared.fact.Queue.{Queue}
use Rattle.facts.specs.declared.fact.Queue.TheVariants.{Mutex, Condition}

-- as its begin is recorded
abbrev pub begun_of : Layout' → Op → Begun
begun_of l o = record { operation = operation_of o; mutex = mutex_of l o; condition = condition_of o }

-- the word that those of a queue sleep on: a mutex's cell, or a condition variable's counter
abbrev pub queue_place : Layout' → Queue → ℕ
queue_place l (Mutex m) = cell_place l m
queue_place l (Condition k) = counter_place l k
