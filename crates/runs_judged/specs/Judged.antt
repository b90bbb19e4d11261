-- What is printed of a run is a legal trace.
--
-- *Judged legal.* The text of a run is a trace without fault, and that is legal; so whatever answers for it as a
-- checker does answers that it is legal, with exactly the number of its points, or that memory was needed.
use Rattle.std.specs.Prelude.{ℕ, ◌≡◌, ◌≤◌, ◌⊎◌, List, ◌++◌, length, map, reverse, count_by, None, Result, Ok, Err, IfOk}
use Rattle.std.specs.List.{concat}
use Rattle.memorymap.specs.Layouts.{Layout', IsLayout}
use Rattle.facts.specs.Facts.{is_point}
use Rattle.protocol.specs.declared.event.Event.{Event}
use Rattle.protocol.specs.declared.note.Note.{Note}
use Rattle.protocol.specs.Notes.{lines_from}
use Rattle.protocol.specs.Machine.{start, notes}
use Rattle.protocol.specs.Headline.{facts_among}
use Rattle.script.specs.declared.command.Mode.{Mode}
use Rattle.script.specs.Reading.{script_read}
use Rattle.script.specs.Scope.{Scope, IsWellFormed}
use Rattle.script.specs.Playing.{first_state, events_in, overlong}
use Rattle.texts.specs.Text.{head_line, line_text, end_line}
use Rattle.verdict.specs.declared.head.Head.{Head}
use Rattle.verdict.specs.declared.checking.Verdict.{Verdict}
use Rattle.verdict.specs.declared.checking.Verdict.TheVariants.{Legal}
use Rattle.verdict.specs.declared.fault.Fault.TheVariants.{OutOfMemory}
use Rattle.verdict.specs.declared.fault.TraceFault.{TraceFault}
use Rattle.verdict.specs.Limits.{max_threads, max_events}
use Rattle.verdict.specs.Reading.{Trace, fault_at, trace_read}
use Rattle.verdict.specs.Verdicts.{IsLegal, Answers}

-- ---- the trace of a run

-- what is printed of a run with these notes: this many threads, mutexes and condition variables, then each event's
-- lines, then the number of events
abbrev pub run_text : ℕ → ℕ → ℕ → List Note → List ℕ
run_text threads mutexes conditions ns =
    head_line threads mutexes conditions ++ (concat (map line_text (lines_from 1 ns)) ++ end_line (length ns))

-- and the trace that this is
abbrev pub run_trace : Head → List Note → Trace
run_trace h ns = record { head = h; told = reverse (lines_from 1 ns); last = length ns }

-- how many points the notes tell
abbrev pub points_told : List Note → ℕ
points_told ns = count_by is_point (facts_among ns)

-- ---- verdicts

-- this is the verdict, unless memory was needed
abbrev pub IsVerdict : Verdict → Result Verdict TraceFault → Type 0
IsVerdict v r = (r ≡ Ok v) ⊎ (r ≡ Err (fault_at 1 OutOfMemory))

-- the text of a run with these notes is a trace without fault, and that is legal; so whatever answers for the text as a
-- checker does answers that it is legal, with exactly the number of its points
pub record IsJudgedLegal (h : Head) (ns : List Note) : Type 0 where
  pub reads : trace_read (run_text h.threads h.mutexes h.conditions ns) ≡ Ok (run_trace h ns)
  pub legal : IsLegal (run_trace h ns)
  pub verdict : (r : Result Verdict TraceFault) → Answers (trace_read (run_text h.threads h.mutexes h.conditions ns)) r
      → IsVerdict (Legal (points_told ns)) r

-- how many threads, mutexes and condition variables a layout has, and a script
abbrev pub head_of : Layout' → Head
head_of l = record { threads = l.threads; mutexes = l.mutexes; conditions = length l.conditions }

abbrev pub script_head : Scope → Head
script_head s = record { threads = length s.threads; mutexes = length s.mutexes; conditions = length s.conditions }

-- whatever happens, with any values of the counters at the beginning, with at most as many threads and in at most as
-- many events as a trace may have
abbrev pub RunsAreJudgedLegal : Type 0
RunsAreJudgedLegal = (l : Layout') (counters : ℕ → ℕ) (events : List Event) → IsLayout l → l.threads ≤ max_threads → length events ≤ max_events
    → IsJudgedLegal (head_of l) (notes (start l counters) events)

-- so it is of every script that isn't too long to play
abbrev pub ScriptsAreJudgedLegal : Type 0
ScriptsAreJudgedLegal = (s : Scope) → IsWellFormed s → overlong s ≡ None
    → IsJudgedLegal (script_head s) (notes (first_state s) (events_in s))

-- whatever bytes: where they are a script that isn't too long to play, so it is of that
abbrev pub PrintedRunsAreLegal : Type 0
PrintedRunsAreLegal = (k : Mode) (bytes : List ℕ)
    → IfOk (script_read k bytes)
    (λ s. overlong s ≡ None → IsJudgedLegal (script_head s) (notes (first_state s) (events_in s)))
