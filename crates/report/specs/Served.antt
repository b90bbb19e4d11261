-- What the program did with the bytes of its reader.
--
-- *Meaning of a script.* Of a run, which is legal, the text of the trace of its events, which whoever judges it finds
-- legal, or of the table of how they left threads, mutexes and condition variables; of real threads, the text of what
-- some that made its calls on words of its layout were answered (`Answer`), by the names of its threads and mutexes
-- (`AreLines`).
--
-- *Served.* All that a reader had, up to its end, is a script that isn't too long, and a writer's contents grew by its
-- meaning; or, where a fault was met, by a beginning of that. `TakesAtMost` (`streams/specs/Taken.antt`) and
-- `bytes_at_most` say how many bytes a reader may lose at most.
use Rattle.std.specs.Prelude.{ℕ, ◌≡◌, ◌+◌, ◌⊎◌, List, length, map, Option, None, MatchResult}
use Rattle.std.specs.Io.KnownBytes.{Appends, Consumes, IsAtEnd}
use Rattle.protocol.specs.declared.note.Note.{Note}
use Rattle.protocol.specs.Machine.{run, notes}
use Rattle.interleave.specs.Runs.{IsLegalRun}
use Rattle.script.specs.declared.command.Mode.{Mode}
use Rattle.script.specs.declared.command.Mode.TheVariants.{Run, Threads}
use Rattle.script.specs.Limits.{max_bytes}
use Rattle.script.specs.Scope.{Scope}
use Rattle.script.specs.Reading.{script_read}
use Rattle.script.specs.Playing.{layout_of, counters_of, first_state, events_in, overlong}
use Rattle.cmdline.specs.declared.form.Form.{Form}
use Rattle.cmdline.specs.declared.form.Form.TheVariants as form
use Rattle.texts.specs.declared.replies.ThreadReplies.{ThreadReplies}
use Rattle.texts.specs.declared.replies.MutexWord.{MutexWord}
use Rattle.texts.specs.declared.replies.ConditionWord.{ConditionWord}
use Rattle.script.specs.declared.workload.Phase.{Phase}
use Rattle.script.specs.Jobs.{jobs_seen, jobs_of, dies_of}
use Rattle.report.specs.declared.threads.Answers.{Answers}
use Rattle.report.specs.Threads.{HaveAnswered}
use Rattle.texts.specs.Replies.{replies_text}
use Rattle.streams.specs.Leaves.{AppendsFront}
use Rattle.texts.specs.Tables.{table_text}
use Rattle.report.specs.Verdicts.{Checked, CheckedFront}
use Rattle.runs_judged.specs.Judged.{run_text, script_head, IsJudgedLegal}
use Rattle.verdict.specs.Limits as traces

-- what is reported of a script's events, one note for each
abbrev pub told_of : Scope → List Note
told_of s = notes (first_state s) (events_in s)

-- what a script means: the text of the trace of its events
abbrev pub meaning : Scope → List ℕ
meaning s = run_text (length s.threads) (length s.mutexes) (length s.conditions) (told_of s)

-- the lines tell of the script's threads, mutexes and condition variables, by their names, what they were answered, who
-- died, and what is left
pub record AreLines (s : Scope) (a : Answers) (threads : List ThreadReplies) (mutexes : List MutexWord)
    (conditions : List ConditionWord) : Type 0 where
  pub thread_names : map (λ t. t.name.now) threads ≡ s.threads
  pub replies : map (λ t. t.replies.now) threads ≡ map (λ r. r.items) a.replies.items
  pub died : map (λ t. t.died) threads ≡ a.died.items
  pub mutex_names : map (λ m. m.name.now) mutexes ≡ s.mutexes
  pub cells : map (λ m. m.cell) mutexes ≡ a.cells.items
  pub condition_names : map (λ c. c.name.now) conditions ≡ map (λ c. c.0) s.conditions
  pub counters : map (λ c. c.counter) conditions ≡ a.counters.items

-- real threads made the script's calls, each in the process that the script has it in, phase after phase, as far as
-- they lived, and were answered so
pub record Answer (s : Scope) (a : Answers) : Type 0 where
  pub phases : List Phase
  pub asked : map jobs_seen phases ≡ jobs_of s
  pub answered : HaveAnswered (layout_of s) (counters_of s) phases (dies_of s) a.replies.items a.died.items
      a.cells.items a.counters.items

-- how a script's events leave its threads, mutexes and condition variables
abbrev pub meant_table : Scope → List ℕ
meant_table s = table_text s (run (first_state s) (events_in s)) (told_of s)

-- what the program tells of a script: what its events did, how they left it, or what real threads were answered
pub data Report : Type 0 where
  trace : Report
  table : Report
  replies : Report

-- how a script is read for it
abbrev pub mode_of : Report → Mode
mode_of trace = Run
mode_of table = Run
mode_of replies = Threads

-- its events, as they are reported, are a legal run from its first state
abbrev pub RunsLegally : Scope → Type 0
RunsLegally s = IsLegalRun (first_state s) (events_in s) (told_of s)

-- and whoever judges the text of that run finds it legal, with exactly the number of its points
abbrev pub IsFoundLegal : Scope → Type 0
IsFoundLegal s = IsJudgedLegal (script_head s) (told_of s)

-- what may be written of a script: of a run, if it isn't too long to play, its trace or its table, and the run that
-- they are of is legal; of real threads, what some that made its calls were answered. A script doesn't determine what
-- real threads are reported
abbrev pub Means : Report → Scope → List ℕ → Type 0
Means trace s text = (overlong s ≡ None) × RunsLegally s × IsFoundLegal s × (text ≡ meaning s)
Means table s text = (overlong s ≡ None) × RunsLegally s × (text ≡ meant_table s)
Means replies s text = (a : Answers) × Answer s a × (threads : List ThreadReplies) × (mutexes : List MutexWord)
    × (conditions : List ConditionWord) × AreLines s a threads mutexes conditions
    × (text ≡ replies_text threads mutexes conditions)

-- these lines were written, or a beginning of them
abbrev pub Tells : Option (List ℕ) → Option (List ℕ) → Scope → Answers → Type 0
Tells old new s a = (threads : List ThreadReplies) × (mutexes : List MutexWord) × (conditions : List ConditionWord)
    × AreLines s a threads mutexes conditions × Appends old new (replies_text threads mutexes conditions)

abbrev pub TellsFront : Option (List ℕ) → Option (List ℕ) → Scope → Answers → Type 0
TellsFront old new s a = (threads : List ThreadReplies) × (mutexes : List MutexWord) × (conditions : List ConditionWord)
    × AreLines s a threads mutexes conditions × AppendsFront old new (replies_text threads mutexes conditions)

-- these bytes are a script, and all of what is reported of it was written
abbrev pub Written : Report → Option (List ℕ) → Option (List ℕ) → List ℕ → Type 0
Written k old new bytes =
    MatchResult (script_read (mode_of k) bytes) (λ s. (text : List ℕ) × Means k s text × Appends old new text) (λ e. ⊥)

-- the same, but that writing stopped somewhere
abbrev pub WrittenFront : Report → Option (List ℕ) → Option (List ℕ) → List ℕ → Type 0
WrittenFront k old new bytes = MatchResult (script_read (mode_of k) bytes)
    (λ s. (text : List ℕ) × Means k s text × AppendsFront old new text) (λ e. ⊥)

-- all that the reader had, up to its end, is a script, and what is reported of it was written
abbrev pub Served : Report → Option (List ℕ) → Option (List ℕ) → Option (List ℕ) → Option (List ℕ) → Type 0
Served k had left old new = (bytes : List ℕ) × Consumes had left bytes × IsAtEnd left × Written k old new bytes

-- nothing was written; or a beginning of what all that the reader had means
abbrev pub ServedFront : Report → Option (List ℕ) → Option (List ℕ) → Option (List ℕ) → Option (List ℕ) → Type 0
ServedFront k had left old new =
    (new ≡ old) ⊎ ((bytes : List ℕ) × Consumes had left bytes × IsAtEnd left × WrittenFront k old new bytes)

-- the same for each form of a command line; the usage is no success, and writes nothing
abbrev pub ServedAs : Form → Option (List ℕ) → Option (List ℕ) → Option (List ℕ) → Option (List ℕ) → Type 0
ServedAs (form.Run file) had left old new = Served trace had left old new
ServedAs (form.Table file) had left old new = Served table had left old new
ServedAs (form.Threads file) had left old new = Served replies had left old new
ServedAs (form.Check file) had left old new = Checked had left old new
ServedAs form.Usage had left old new = ⊥

abbrev pub ServedFrontAs : Form → Option (List ℕ) → Option (List ℕ) → Option (List ℕ) → Option (List ℕ) → Type 0
ServedFrontAs (form.Run file) had left old new = ServedFront trace had left old new
ServedFrontAs (form.Table file) had left old new = ServedFront table had left old new
ServedFrontAs (form.Threads file) had left old new = ServedFront replies had left old new
ServedFrontAs (form.Check file) had left old new = CheckedFront had left old new
ServedFrontAs form.Usage had left old new = new ≡ old

-- how many bytes a form takes at most: of a script or a trace one more than it may have, which tells that it is too
-- long
abbrev pub bytes_at_most : Form → ℕ
bytes_at_most (form.Run file) = max_bytes + 1
bytes_at_most (form.Table file) = max_bytes + 1
bytes_at_most (form.Threads file) = max_bytes + 1
bytes_at_most (form.Check file) = traces.max_bytes + 1
bytes_at_most form.Usage = 0
