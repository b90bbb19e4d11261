-- Where the lines of a trace leave threads and mutexes.
use Rattle.std.specs.Prelude.{ℕ, ◌≡◌, ◌<◌, Bool, List, [], ◌∷◌, length, reverse, slice_index, take}
use Rattle.posixmutex.specs.declared.point.Operation.TheVariants.{TimedLock}
use Rattle.facts.specs.declared.fact.Begun.{Begun}
use Rattle.facts.specs.declared.fact.Fact.{Fact}
use Rattle.facts.specs.declared.fact.Line.{Line}
use Rattle.verdict.specs.declared.stage.Made.TheVariants.{Nothing}
use Rattle.verdict.specs.declared.stage.Stage.{Stage}
use Rattle.verdict.specs.declared.stage.Stage.TheVariants.{Resting, Calling}
use Rattle.verdict.specs.Earlier.{begun_at, chances_behind, freed_at, objects_after, told_of}
use Rattle.verdict.specs.Judges.{has_waited, object_at}
use Rattle.verdict.specs.Stages.{next}
use Rattle.verdict.specs.Verdicts.{AllFit}
use Rattle.histories.specs.declared.entry.Entry.{Entry}
use Rattle.histories.specs.declared.entry.Entry.TheVariants.{Told, Doom}
use Rattle.certificates.specs.declared.phase.Made.TheVariants as made
use Rattle.certificates.specs.declared.phase.Phase.TheVariants as phase
use Rattle.certificates.specs.declared.state.State.{State}
use Rattle.certificates.specs.Certificates.{trace_of}
use Rattle.certificates.specs.Phases.{stage_of}
use Rattle.certificates.specs.States.{Accepts, Moves, phase_at}

-- the lines of the first steps, this many of them; the newest first
abbrev pub told : ℕ → List Entry → List Line
told n steps = trace_of (reverse (take n steps))

-- where what is recorded of a thread leaves it: in which call, with which points, or dead; by the rules of the judge
-- of traces
abbrev pub stage_after : List Fact → Stage
stage_after [] = Resting
stage_after (f ∷ fs) = next (stage_after fs) f

-- two traces leave each thread and each mutex alike, so that what may come after one may come after the other
pub record LeaveAlike (a b : List Line) : Type 0 where
  pub threads : (t : ℕ) → stage_after (told_of t a) ≡ stage_after (told_of t b)
  pub mutexes : (m : ℕ) → objects_after a m ≡ objects_after b m
  -- for a lock with a time limit that has had no point: whether another thread has owned the mutex since it began
  pub waits : (t : ℕ) (c : Begun) (asleep : Bool) → stage_after (told_of t a) ≡ Calling c Nothing asleep
      → c.operation ≡ TimedLock → (chances_behind t c.mutex a).waited ≡ (chances_behind t c.mutex b).waited

-- what is kept is where the lines leave threads and mutexes
pub record Reaches (s : State) (lines : List Line) : Type 0 where
  pub threads : (t : ℕ) → stage_of (phase_at s.phases.items t) ≡ stage_after (told_of t lines)
  pub mutexes : object_at s.objects.items ≡ objects_after lines
  pub fits : AllFit (length s.objects.items) lines
  pub count : s.lines ≡ length lines
  pub begun : (t : ℕ) → t < length s.begun.items → slice_index s.begun.items t ≡ begun_at t lines
  pub freed : (m : ℕ) → m < length s.freed.items → slice_index s.freed.items m ≡ freed_at m lines

-- a step is taken; a doom is no line
abbrev pub Takes : State → Entry → State → Type 0
Takes s (Told f) k = Accepts s f × Moves s f s.doomed.items k
Takes s (Doom t) k = k ≡ s

-- ---- who has waited

-- whether another thread has owned mutex m since thread t began its call, by what is kept
abbrev pub may_time_out : State → ℕ → ℕ → Bool
may_time_out s t m = has_waited t (object_at s.objects.items m).owner (slice_index s.begun.items t)
    (slice_index s.freed.items m)

-- it is so in both, or in neither
pub record IsAlike (a b : State) (t m : ℕ) : Type 0 where
  pub thread : (t < length a.begun.items) × (t < length b.begun.items)
  pub mutex : (m < length a.freed.items) × (m < length b.freed.items)
  pub same : may_time_out a t m ≡ may_time_out b t m

-- of the mutex that thread t locks with a time limit, by a call that has had no point
abbrev pub WaitsAlike : State → State → ℕ → Type 0
WaitsAlike a b t = (c : Begun) → phase_at a.phases.items t ≡ phase.Calling c made.Nothing → c.operation ≡ TimedLock
    → IsAlike a b t c.mutex
