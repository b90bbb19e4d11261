-- What was read of a trace.
--
-- *What a trace told.* The first line, what each line after it tells, in their order, and the number on the last one;
-- of a trace that isn't legal too. Memory is wanted for what a line tells, at that line, before which there is no
-- fault.
use Rattle.std.specs.Prelude.{ℕ, ◌≡◌, ◌+◌, ◌<◌, ◌≤◌, ◌⊎◌, All, length, reverse, Result, Ok, Err}
use Rattle.facts.specs.declared.fact.Line.{Line}
use Rattle.verdict.specs.declared.head.Head.{Head}
use Rattle.verdict.specs.declared.fault.Fault.TheVariants.{OutOfMemory}
use Rattle.verdict.specs.declared.fault.TraceFault.{TraceFault}
use Rattle.verdict.specs.declared.told.Told.{Told}
use Rattle.verdict.specs.Judges.{IsInside}
use Rattle.verdict.specs.Reading.{IsHead, Trace}

-- the trace that it is
abbrev pub trace_of : Told → Trace
trace_of t = record { head = t.head; told = reverse t.lines.items; last = t.last }

-- a line's event has a number from 1 on, its thread is one of the trace's, and so is the mutex of its point or its
-- death
abbrev pub IsOf : Head → Line → Type 0
IsOf h e = (1 ≤ e.event) × IsInside (h.threads + 1) h.mutexes e.fact

-- its numbers are in their ranges
pub record IsWithin (t : Told) : Type 0 where
  pub head : IsHead t.head
  pub lines : All (IsOf t.head) t.lines.items

-- line n tells of an event: it stands after the first line, before the last one of a trace, and before the first
-- fault of what is none
abbrev pub IsTelling : ℕ → Result Trace TraceFault → Type 0
IsTelling n (Ok t) = (2 ≤ n) × (n < length t.told + 2)
IsTelling n (Err first) = (2 ≤ n) × (n < first.line)

-- what is given where the bytes say this: the trace that they are; their first fault; or lack of memory for what a
-- line tells, at that line
abbrev pub Gives : Result Trace TraceFault → Result Told TraceFault → Type 0
Gives said (Ok t) = said ≡ Ok (trace_of t)
Gives said (Err e) = (said ≡ Err e) ⊎ ((e.fault ≡ OutOfMemory) × IsTelling e.line said)
