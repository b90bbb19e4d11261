-- A script's calls on real threads.
--
-- *What threads were answered.* There were words of just this layout, with counters that begin so, on which each thread
-- made its calls, phase after phase, as far as it lived, and was answered so; the cells' words and the counters are
-- those at their end, where all passes meet.
use Rattle.std.specs.Prelude.{ℕ, ◌≡◌, ◌+◌, ◌<◌, Bool, true, Option, None, Some, List, [], ◌∷◌, ◌++◌}
use Rattle.std.specs.Prelude.{length, map, slice_index, All, Vec, slice_get, ◌==◌, if◌then◌else◌}
use Rattle.std.specs.declared.alloc.Global.{Global}
use Rattle.std.specs.List.{flat_map}
use Rattle.memorymap.specs.Layouts.{Layout', cell_place, counter_place}
use Rattle.lockword.specs.declared.reply.Reply.{Reply}
use Rattle.condvar.specs.declared.op.Op.{Op}
use Rattle.condvar.specs.Ops.{is_in}
use Rattle.ruledwords.specs.declared.pass.Last.{Last}
use Rattle.ruledwords.specs.declared.pass.Live.{Live}
use Rattle.ruledwords.specs.declared.pass.Pass.{Pass}
use Rattle.ruledwords.specs.declared.pass.Words.{Words}
use Rattle.ruledwords.specs.Passes.{card, layout_of, presets_of, last_layout, last_words}
use Rattle.ruledwords.specs.Rules.{first_card, Ends}
use Rattle.script.specs.declared.workload.Job.{Job as Ordered}
use Rattle.script.specs.declared.workload.Phase.{Phase}
use Rattle.threadbench.specs.declared.job.Job.{Job}
use Rattle.threadbench.specs.declared.job.Record.{Record}
use Rattle.threadbench.specs.declared.job.WorkerPass.{WorkerPass}
use Rattle.threadbench.specs.declared.job.WorkerPass.TheVariants.{Lives, Reaped}
use Rattle.threadbench.specs.Answered.{card_in, IsWorkerOf}
use Rattle.threadbench.specs.Jobs.{IsLeftOf, Worked}
use Rattle.report.specs.declared.threads.Worker.{Worker}
use Rattle.report.specs.Histories.{IsCountOf, StandTogether}
use Rattle.report.specs.Meetings.{is_reaped, HaveMet}

-- calls on the layout's mutexes and condition variables
abbrev pub ArePossible : Layout' → Vec Op Global → Type 0
ArePossible k calls = All (λ c. is_in k c ≡ true) calls.items

abbrev pub IsRightPhase : Layout' → Phase → Type 0
IsRightPhase k p = All (λ j. ArePossible k j.calls) p.jobs.items

abbrev pub AreRightPhases : Layout' → List Phase → Type 0
AreRightPhases k phases = All (IsRightPhase k) phases

-- the calls of thread t in a phase, in their order
abbrev pub calls_at : ℕ → Ordered → List Op
calls_at t j = if j.thread == t then j.calls.items else []

abbrev pub calls_in : ℕ → Phase → List Op
calls_in t p = flat_map (calls_at t) p.jobs.items

-- and in all of these phases
abbrev pub calls_over : ℕ → List Phase → List Op
calls_over t ps = flat_map (calls_in t) ps

-- the gate that lets every call through
abbrev pub open_gate : ℕ → ℕ → Op → Option Bool
open_gate = λ t i c. Some true

-- a thread with this pass and this number made these calls, as far as it lived, and was answered so. One that had died
-- makes none
abbrev pub WorksFrom : Words → List Op → Option ℕ → WorkerPass → List Reply → Worker → Type 0
WorksFrom w calls die (Lives a) rs v = Worked w open_gate (card a) calls rs v.pass × IsLeftOf die v.pass v.die
WorksFrom w calls die (Reaped d) rs v = (v.pass ≡ Reaped d) × (rs ≡ []) × (v.die ≡ None)

abbrev pub Works : Words → List Op → Worker → List Reply → Worker → Type 0
Works w calls u rs v = WorksFrom w calls u.die u.pass rs v

-- each pass and its thread's number, before the first phase
pub record AreFirst (passes : List (Pass Live)) (dies : List (Option ℕ)) (workers : List Worker) : Type 0 where
  pub as_many : length workers ≡ length passes
  pub each : (i : ℕ) (a : Pass Live) (v : Worker) → slice_get passes i ≡ Some a → slice_get workers i ≡ Some v
      → (v.pass ≡ Lives a) × (slice_get dies i ≡ Some v.die)

-- each thread, thread 1 first, has its job in a phase: all its calls, and what is left of its number
pub record AreAssigned (p : Phase) (workers : List Worker) (jobs : List Job) : Type 0 where
  pub as_many : length jobs ≡ length workers
  pub each : (i : ℕ) (v : Worker) (j : Job) → slice_get workers i ≡ Some v → slice_get jobs i ≡ Some j
      → (j.pass ≡ v.pass) × (j.die ≡ v.die) × (j.calls.items ≡ calls_in (i + 1) p)

-- what each record gives back, and its replies after those of its thread
pub record AreGathered (records : List Record) (workers : List Worker) (before after : List (Vec Reply Global)) : Type 0
  where
    pub as_many : length workers ≡ length records
    pub as_long : length after ≡ length before
    pub each : (i : ℕ) (k : Record) (v : Worker) (r r' : Vec Reply Global) → slice_get records i ≡ Some k
        → slice_get workers i ≡ Some v → slice_get before i ≡ Some r → slice_get after i ≡ Some r'
        → (v ≡ record { pass = k.pass; die = k.die }) × (r'.items ≡ r.items ++ k.replies.items)

-- a phase: each thread made its calls in it, and their replies stand after its others
pub record HaveWorked (w : Words) (p : Phase) (workers after : List Worker) (replies replies' : List (Vec Reply Global))
    : Type 0 where
  pub as_many : length after ≡ length workers
  pub as_long : length replies' ≡ length replies
  pub right : All (λ v. IsWorkerOf w v.pass) after
  pub each : (i : ℕ) (u v : Worker) (r r' : Vec Reply Global) → slice_get workers i ≡ Some u
      → slice_get after i ≡ Some v → slice_get replies i ≡ Some r → slice_get replies' i ≡ Some r'
      → (more : List Reply) × (r'.items ≡ r.items ++ more) × Works w (calls_in (i + 1) p) u more v

-- a phase: the threads made their calls in it, and were answered so, and then all met
pub record HasPassed (w : Words) (p : Phase) (workers met : List Worker) (replies replies' : List (Vec Reply Global)) :
    Type 0 where
  pub worked : List Worker
  pub work : HaveWorked w p workers worked replies replies'
  pub meeting : HaveMet w worked met

-- phases, one after the other, from threads with these replies on
abbrev pub HavePassed : Words → List Phase → List Worker → List (Vec Reply Global) → List Worker
    → List (Vec Reply Global) → Type 0
HavePassed w [] workers replies after replies' = (workers ≡ after) × (replies ≡ replies')
HavePassed w (p ∷ ps) workers replies after replies' = (met : List Worker) × (more : List (Vec Reply Global))
    × HasPassed w p workers met replies more × HavePassed w ps met more after replies'

-- from the first phase on, the threads made their calls in these phases, and were answered so
pub record HaveMade (w : Words) (ps : List Phase) (firsts workers : List Worker) (replies : List (Vec Reply Global)) :
    Type 0 where
  pub as_many : length workers ≡ length firsts
  pub as_long : length replies ≡ length firsts
  pub right : All (λ v. IsWorkerOf w v.pass) workers
  pub none : List (Vec Reply Global)
  pub each : length none ≡ length firsts
  pub empty : All (λ r. r.items ≡ []) none
  pub passed : HavePassed w ps firsts none workers replies

-- the words of all cells, that of mutex 0 first
pub record AreCells (l : Last) (cells : List ℕ) : Type 0 where
  pub as_many : length cells ≡ (last_layout l).mutexes
  pub each : (m : ℕ) → m < (last_layout l).mutexes
      → slice_index cells m ≡ slice_index (last_words l) (cell_place (last_layout l) m)

-- the words of all counters, that of condition variable 0 first
pub record AreCounters (l : Last) (counters : List ℕ) : Type 0 where
  pub as_many : length counters ≡ length (last_layout l).conditions
  pub each : (q : ℕ) → q < length (last_layout l).conditions
      → slice_index counters q ≡ slice_index (last_words l) (counter_place (last_layout l) q)

-- the end of words, where the passes of all these threads met; and these are the cells' words and the counters
pub record HasEnded (w : Words) (workers : List Worker) (cells counters : List ℕ) : Type 0 where
  pub last : Last
  pub same : last_layout last ≡ layout_of w
  pub ends : Ends (layout_of w) (presets_of w) (map (λ v. card_in v.pass) workers) (last_words last)
  pub words : AreCells last cells
  pub counts : AreCounters last counters

-- what came of the calls of the threads of a layout, each with its number or without, where the condition variables'
-- counters begin with these values: there were words of just that layout, each thread's process and each process's base
-- as it says, on which each thread made its calls in these phases from its first pass on, as far as it lived, and was
-- answered so; these threads died; and what is left of the words' cells and counters are these. All replies and deaths
-- of all threads are in one history of each mutex, whose signals and broadcasts the counters count
pub record HaveAnswered (k : Layout') (presets : List ℕ) (ps : List Phase) (dies : List (Option ℕ))
    (replies : List (Vec Reply Global)) (died : List Bool) (cells counters : List ℕ) : Type 0 where
  pub words : Words
  pub layout : layout_of words ≡ k
  pub begins : presets_of words ≡ presets
  pub passes : List (Pass Live)
  pub as_many : length passes ≡ k.threads
  pub cards : (i : ℕ) (a : Pass Live) → slice_get passes i ≡ Some a
      → card a ≡ first_card (layout_of words) presets (i + 1)
  pub firsts : List Worker
  pub numbers : AreFirst passes dies firsts
  pub workers : List Worker
  pub made : HaveMade words ps firsts workers replies
  pub dead : died ≡ map (λ v. is_reaped v.pass) workers
  pub ended : HasEnded words workers cells counters
  pub together : StandTogether (layout_of words) (λ t. calls_over t ps) (map (λ p. λ t. calls_in t p) ps) presets
      replies died cells counters

abbrev pub HaveReplies : List Phase → List (Vec Reply Global) → List Bool → Type 0
HaveReplies ps replies died = (i : ℕ) (r : Vec Reply Global) (d : Bool) → slice_get replies i ≡ Some r
    → slice_get died i ≡ Some d → IsCountOf d (length r.items) (length (calls_over (i + 1) ps))
