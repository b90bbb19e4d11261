-- What was written of a script that was read and played.
use Rattle.std.proofs.Common.{◌≡◌, ℕ, List, ◌++◌, length, map, Option, None, Result, Ok, IfOk, refl, sym, ap, ◌∙◌, subst, MatchResult}
use Rattle.std.specs.List.{concat}
use Rattle.std.specs.Io.KnownBytes.{Appends}
use Rattle.memorymap.specs.Layouts.{Layout'}
use Rattle.protocol.specs.declared.note.Note.{Note}
use Rattle.protocol.specs.Machine.{State}
use Rattle.protocol.specs.Notes.{lines_from}
use Rattle.interleave.specs.declared.trace.Trace.{Trace}
use Rattle.interleave.specs.Runs.{IsLegalRun}
use Rattle.interleave.specs.Shown.{Shown, state_of}
use Rattle.script.specs.declared.command.Mode.TheVariants.{Run, Threads}
use Rattle.script.specs.declared.fault.ScriptFault.{ScriptFault}
use Rattle.script.specs.Scope.{Scope}
use Rattle.script.specs.Reading.{script_read}
use Rattle.script.specs.Playing.{layout_of, counters_of, first_state, events_in, overlong}
use Rattle.script.specs.Played.{IsPlayed}
use Rattle.script.proofs.Layouts.{run_layout}
use Rattle.std.proofs.lemmas.List.FromFn.{length-map-range_with_len}
use Rattle.script.specs.Deaths.{death_of}
use Rattle.script.specs.Jobs.{jobs_seen, jobs_of, dies_of}
use Rattle.script.specs.declared.workload.Phase.{Phase}
use Rattle.report.specs.declared.threads.Answers.{Answers}
use Rattle.report.specs.Threads.{HaveAnswered}
use Rattle.texts.specs.Replies.{replies_text}
use Rattle.streams.specs.Leaves.{AppendsFront}
use Rattle.texts.specs.Text.{head_line, line_text, end_line, trace_text}
use Rattle.texts.specs.Tables.{table_text}
use Rattle.report.specs.Served.{Report, trace, table, replies, mode_of, meaning, meant_table, RunsLegally, IsFoundLegal, Means, Answer, Tells, TellsFront, Written, WrittenFront}
use Rattle.script.proofs.Names.{length-map_of}
use Rattle.runs_judged.proofs.Scripts.{printed}

-- the text of the trace is the script's meaning
meaning-is : (s : Scope) (t : Trace) (m : Shown) → IsPlayed s t m → trace_text t ≡ meaning s
meaning-is s t m p =
    let conditions = p.numbers.conditions ∙ length-map_of (λ c. c.1.mutex) s.conditions in
    λ i. head_line (p.numbers.threads i) (p.numbers.mutexes i) (conditions i) ++ (concat (map line_text (lines_from 1 (p.notes i))) ++ end_line (length (p.notes i)))

-- the table of what was played is the script's
table-is : (s : Scope) (t : Trace) (m : Shown) → IsPlayed s t m → table_text s (state_of m) t.notes.items ≡ meant_table s
table-is s t m p = λ i. table_text s (p.machine i) (p.notes i)

-- what is reported of the script's events is reported of a legal run
runs_legally : (s : Scope) (t : Trace) (m : Shown) → IsPlayed s t m → RunsLegally s
runs_legally s t m p = subst (λ (ns : List Note). IsLegalRun (first_state s) (events_in s) ns) p.notes p.legal

-- the machine of a script that was played has the script's threads and mutexes
machine_layout : (s : Scope) (t : Trace) (m : Shown) → IsPlayed s t m → m.layout ≡ layout_of s
machine_layout s t m p = ap (λ (z : State). z.layout) p.machine ∙ run_layout (first_state s) (events_in s)

pub machine_threads : (s : Scope) (t : Trace) (m : Shown) → IsPlayed s t m → m.layout.threads ≡ length s.threads
machine_threads s t m p = ap (λ (l : Layout'). l.threads) (machine_layout s t m p)

pub machine_mutexes : (s : Scope) (t : Trace) (m : Shown) → IsPlayed s t m → m.layout.mutexes ≡ length s.mutexes
machine_mutexes s t m p = ap (λ (l : Layout'). l.mutexes) (machine_layout s t m p)

pub machine_conditions : (s : Scope) (t : Trace) (m : Shown) → IsPlayed s t m → length m.layout.conditions ≡ length s.conditions
machine_conditions s t m p = ap (λ (l : Layout'). length l.conditions) (machine_layout s t m p) ∙ length-map_of (λ c. c.1.mutex) s.conditions

-- what may be reported of a script that was read was written, or a beginning of it
pub wrote : (k : Report) (old new : Option (List ℕ)) (bytes : List ℕ) (s : Scope) (text : List ℕ) → script_read (mode_of k) bytes ≡ Ok s → Means k s text → Appends old new text → Written k old new bytes
wrote k old new bytes s text reads means a =
    subst (λ (r : Result Scope ScriptFault). MatchResult r (λ z. (text : List ℕ) × Means k z text × Appends old new text) (λ e. ⊥)) (sym reads) (text, means, a)

pub wrote_front : (k : Report) (old new : Option (List ℕ)) (bytes : List ℕ) (s : Scope) (text : List ℕ) → script_read (mode_of k) bytes ≡ Ok s → Means k s text → AppendsFront old new text → WrittenFront k old new bytes
wrote_front k old new bytes s text reads means a =
    subst (λ (r : Result Scope ScriptFault). MatchResult r (λ z. (text : List ℕ) × Means k z text × AppendsFront old new text) (λ e. ⊥)) (sym reads) (text, means, a)

-- the trace of a script that was played is what it means
means_trace : (bytes : List ℕ) (s : Scope) (t : Trace) (m : Shown) → script_read Run bytes ≡ Ok s → IsPlayed s t m → Means trace s (trace_text t)
means_trace bytes s t m reads p =
    let found : overlong s ≡ None → IsFoundLegal s = subst (λ (r : Result Scope ScriptFault). IfOk r (λ z. overlong z ≡ None → IsFoundLegal z)) reads (printed Run bytes) in
    (p.fits, runs_legally s t m p, found p.fits, meaning-is s t m p)

pub written : (old new : Option (List ℕ)) (bytes : List ℕ) (s : Scope) (t : Trace) (m : Shown) → script_read Run bytes ≡ Ok s → IsPlayed s t m → Appends old new (trace_text t) → Written trace old new bytes
written old new bytes s t m reads p a = wrote trace old new bytes s (trace_text t) reads (means_trace bytes s t m reads p) a

pub written_front : (old new : Option (List ℕ)) (bytes : List ℕ) (s : Scope) (t : Trace) (m : Shown) → script_read Run bytes ≡ Ok s → IsPlayed s t m → AppendsFront old new (trace_text t) → WrittenFront trace old new bytes
written_front old new bytes s t m reads p a = wrote_front trace old new bytes s (trace_text t) reads (means_trace bytes s t m reads p) a

-- and so is its table
pub tabled : (old new : Option (List ℕ)) (bytes : List ℕ) (s : Scope) (t : Trace) (m : Shown) → script_read Run bytes ≡ Ok s → IsPlayed s t m → Appends old new (table_text s (state_of m) t.notes.items) → Written table old new bytes
tabled old new bytes s t m reads p a = wrote table old new bytes s (table_text s (state_of m) t.notes.items) reads (p.fits, runs_legally s t m p, table-is s t m p) a

pub tabled_front : (old new : Option (List ℕ)) (bytes : List ℕ) (s : Scope) (t : Trace) (m : Shown) → script_read Run bytes ≡ Ok s → IsPlayed s t m → AppendsFront old new (table_text s (state_of m) t.notes.items) → WrittenFront table old new bytes
tabled_front old new bytes s t m reads p a = wrote_front table old new bytes s (table_text s (state_of m) t.notes.items) reads (p.fits, runs_legally s t m p, table-is s t m p) a

-- what was reported of a script's threads is what it means
pub told : (old new : Option (List ℕ)) (bytes : List ℕ) (s : Scope) (a : Answers) → script_read Threads bytes ≡ Ok s → Answer s a → Tells old new s a → Written replies old new bytes
told old new bytes s a reads answer tells = wrote replies old new bytes s (replies_text tells.0 tells.1 tells.2) reads (a, answer, tells.0, tells.1, tells.2, tells.3, refl) tells.4

pub told_front : (old new : Option (List ℕ)) (bytes : List ℕ) (s : Scope) (a : Answers) → script_read Threads bytes ≡ Ok s → Answer s a → TellsFront old new s a → WrittenFront replies old new bytes
told_front old new bytes s a reads answer front = wrote_front replies old new bytes s (replies_text front.0 front.1 front.2) reads (a, answer, front.0, front.1, front.2, front.3, refl) front.4

-- what real threads were answered is an answer to the script
pub answered : (s : Scope) (a : Answers) (phases : List Phase) (dies : List (Option ℕ)) → map jobs_seen phases ≡ jobs_of s → dies ≡ dies_of s → HaveAnswered (layout_of s) (counters_of s) phases dies a.replies.items a.died.items a.cells.items a.counters.items → Answer s a
answered s a phases dies asked same had = record {
  phases = phases;
  asked = asked;
  answered = subst (λ (ns : List (Option ℕ)). HaveAnswered (layout_of s) (counters_of s) phases ns a.replies.items a.died.items a.cells.items a.counters.items) same had;
}

pub as_many_dies : (s : Scope) → length (dies_of s) ≡ length s.threads
as_many_dies s = length-map-range_with_len (λ t. death_of t s.commands) 1 (length s.threads)
