-- What the judge of traces has of threads and mutexes after some lines, and that a page has just that.
--
-- *What the judge has.* The stage that it has come to for a thread, by the thread's facts one after the other (`next`);
-- and what a judge keeps that has taken the lines one by one (`HasTaken`).
--
-- *The states are the judge's.* After lines of which each fits those before it, a thread's status agrees with its
-- stage: its call, how far the call's points have come, whether it sleeps, and that it was killed and reaped. Where it
-- sleeps, and since which line, is what its newest sleep or move tells; its newest point is the newest one that is
-- reported of it; it has lived once, and once more for each renewal. And each mutex is what the judge has of it.
use Rattle.std.specs.Prelude.{ℕ, ◌≡◌, ◌+◌, ◌<◌, ◌⊎◌, true, false, Option, Some, None, List, [], ◌∷◌, ◌++◌}
use Rattle.std.specs.Prelude.{length, reverse, slice_index_or, take}
use Rattle.std.specs.Option.{is_some}
use Rattle.std.specs.List.{count_by}
use Rattle.lockword.specs.declared.reply.Reply.TheVariants.{OK}
use Rattle.posixmutex.specs.declared.point.Operation.{Operation}
use Rattle.posixmutex.specs.declared.point.Operation.TheVariants.{Lock, TimedLock, Unlock, Wait, TimedWait}
use Rattle.facts.specs.Lives.{IsWait}
use Rattle.posixmutex.specs.Objects.{fresh}
use Rattle.facts.specs.declared.fact.Queue.{Queue}
use Rattle.facts.specs.declared.fact.Queue.TheVariants.{Mutex}
use Rattle.facts.specs.declared.fact.Fact.{Fact}
use Rattle.facts.specs.declared.fact.Fact.TheVariants.{Point, Sleep, Move}
use Rattle.facts.specs.declared.fact.Line.{Line}
use Rattle.facts.specs.Facts.{is_renewal, thread_of}
use Rattle.facts.specs.Lives.{Act}
use Rattle.facts.specs.Orders.{Each}
use Rattle.verdict.specs.declared.checking.Finding.{Finding}
use Rattle.verdict.specs.declared.head.Head.{Head}
use Rattle.verdict.specs.declared.misfit.TraceMisfit.{TraceMisfit}
use Rattle.verdict.specs.declared.judge.Judge.{Judge}
use Rattle.verdict.specs.declared.stage.Made.{Made}
use Rattle.verdict.specs.declared.stage.Made.TheVariants.{Nothing, Released, Decided}
use Rattle.verdict.specs.declared.stage.Stage.{Stage}
use Rattle.verdict.specs.declared.stage.Stage.TheVariants.{Resting, Calling, Dying, Reaped}
use Rattle.verdict.specs.declared.told.Told.{Told}
use Rattle.verdict.specs.Earlier.{told_of}
use Rattle.verdict.specs.Judges.{Accepts, IsNew, Moves, object_at, stage_at}
use Rattle.verdict.specs.Stages.{next}
use Rattle.verdict.specs.Told.{IsOf, trace_of}
use Rattle.verdict.specs.Verdicts.{AllFit, IsFound, IsReason}
use Rattle.page.specs.declared.status.Bed.{Bed}
use Rattle.page.specs.declared.status.Status.{Status}
use Rattle.page.specs.Data.{lines_shown, misfit_line}
use Rattle.page.specs.States.{Shown, state_behind}
use Rattle.page.specs.Statuses.{first_status}

-- ---- the judge

-- the stage of a thread of which these facts are reported, the newest first
abbrev pub stage_in : List Fact → Stage
stage_in [] = Resting
stage_in (f ∷ fs) = next (stage_in fs) f

-- that of thread t after these lines, the newest first
abbrev pub stage_of : ℕ → List Line → Stage
stage_of t es = stage_in (told_of t es)

-- a judge that has taken these lines of a trace with this head one by one, each as it went with what it kept so far
abbrev pub HasTaken : Head → List Line → Judge → Type 0
HasTaken h [] j = IsNew h j
HasTaken h (e ∷ es) j = (i : Judge) × HasTaken h es i × IsOf h e × Accepts i e × Moves i e j

-- ---- a status and a stage

-- the newest point of a call of this operation of which these are made: none; the release of a wait; or the one that
-- decided the call's reply: of its own operation, or a lock, that of a wait or of a lock before its time limit, or a
-- wait, as which one with a time limit is refused
abbrev pub IsPointOf : Operation → Made → Option Act → Type 0
IsPointOf a Nothing p = p ≡ None
IsPointOf a Released p = IsWait a × (p ≡ Some (Unlock, OK))
IsPointOf a (Decided x) p = (p ≡ Some (a, x)) ⊎ ((IsWait a ⊎ (a ≡ TimedLock)) × (p ≡ Some (Lock, x)))
    ⊎ ((a ≡ TimedWait) × (p ≡ Some (Wait, x)))

-- a status in no call has no point and no bed
pub record IsIdle (s : Status) : Type 0 where
  pub call : s.call ≡ None
  pub point : s.point ≡ None
  pub bed : s.bed ≡ None

-- the status says what the stage says
abbrev pub Agrees : Stage → Status → Type 0
Agrees Resting s = IsIdle s × (s.killed ≡ false) × (s.reaped ≡ false)
Agrees (Calling c made asleep) s = (s.call ≡ Some c) × IsPointOf c.operation made s.point × (is_some s.bed ≡ asleep)
    × (s.killed ≡ false) × (s.reaped ≡ false)
Agrees Dying s = IsIdle s × (s.killed ≡ true) × (s.reaped ≡ false)
Agrees Reaped s = IsIdle s × (s.killed ≡ true) × (s.reaped ≡ true)

-- ---- a status and the lines

-- where a fact tells that its thread sleeps now
abbrev pub queue_told : Fact → Option Queue
queue_told (Sleep t q) = Some q
queue_told (Move t m) = Some (Mutex m)
queue_told f = None

-- the point that a fact is
abbrev pub act_told : Fact → Option Act
act_told (Point d) = Some (d.operation, d.reply)
act_told f = None

-- of these lines, which stand newest first, the newest of thread t that tells one of a kind tells x; it is line k, the
-- first line after the head being line 2
pub record IsNewest {A : Type 0} (kind : Fact → Option A) (t : ℕ) (es : List Line) (x : A) (k : ℕ) : Type 0 where
  pub newer : List Line
  pub line : Line
  pub older : List Line
  pub all : es ≡ newer ++ line ∷ older
  pub here : k ≡ length older + 2
  pub own : thread_of line.fact ≡ t
  pub tells : kind line.fact ≡ Some x
  pub since : Each (λ e. thread_of e.fact ≡ t → kind e.fact ≡ None) newer

-- ---- the states

-- the status of thread t after these lines
pub record IsAsJudged (h : Head) (t : ℕ) (es : List Line) (s : Status) : Type 0 where
  pub stage : Agrees (stage_of t es) s
  -- which is the one that a judge has that has taken them
  pub judge : (j : Judge) → HasTaken h es j → stage_at j.stages.items t ≡ stage_of t es
  pub bed : (b : Bed) → s.bed ≡ Some b → IsNewest queue_told t es b.queue b.line
  pub point : (p : Act) → s.point ≡ Some p → (k : ℕ) × IsNewest act_told t es p k
  pub life : s.life ≡ 1 + count_by is_renewal (told_of t es)

-- a state of the threads and mutexes of a trace with this head
pub record IsTheJudges (h : Head) (es : List Line) (s : Shown) : Type 0 where
  pub each_thread : length s.threads ≡ h.threads + 1
  pub each_mutex : length s.mutexes ≡ h.mutexes
  pub threads : (t : ℕ) → t < h.threads + 1 → IsAsJudged h t es (slice_index_or s.threads t first_status)
  pub mutexes : (j : Judge) → HasTaken h es j → (m : ℕ) → m < h.mutexes
      → slice_index_or s.mutexes m fresh ≡ object_at j.objects.items m

abbrev pub StatesAreTheJudges : Type 0
StatesAreTheJudges =
    (h : Head) (es : List Line) → AllFit h.mutexes es → IsTheJudges h es (state_behind h.threads h.mutexes es)

-- ---- the lines

-- each line that is shown of a trace of which this was found fits those before it
abbrev pub ShownLinesFit : Type 0
ShownLinesFit =
    (t : Told) (f : Finding) → IsFound (trace_of t) f → AllFit t.head.mutexes (reverse (lines_shown t f))

-- and none of the first 100,000 is left out up to which all fit: that of place k, from 0, is shown
abbrev pub FittingLinesAreShown : Type 0
FittingLinesAreShown = (t : Told) (f : Finding) (k : ℕ) → IsFound (trace_of t) f → k < length t.lines.items → k < 100000
    → AllFit t.head.mutexes (reverse (take (k + 1) t.lines.items)) → k < length (lines_shown t f)

-- and where a line doesn't fit, that line is reported, unless it is the last line of the trace
abbrev pub MisfitsAreTold : Type 0
MisfitsAreTold = (t : Told) (why : TraceMisfit) (r : IsReason t.head.mutexes (reverse t.lines.items) why)
    → misfit_line t.lines.items why.line ≡ Some r.first.misfit
