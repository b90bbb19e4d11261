-- What the checker keeps of the lines so far.
use Rattle.std.specs.Prelude.{ℕ, ◌≡◌, ◌==◌, ◌+◌, ◌<◌, ◌≤◌, ◌⊎◌, nat_lt, not, Bool, true, false, Option, Some, None, List}
use Rattle.std.specs.Prelude.{length, slice_index_or, slice_index, slice_set, if◌then◌else◌}
use Rattle.lockword.specs.declared.reply.Reply.TheVariants.{ETIMEDOUT}
use Rattle.posixmutex.specs.declared.object.Object.{Object}
use Rattle.posixmutex.specs.declared.point.Decision.{Decision}
use Rattle.posixmutex.specs.Objects.{fresh}
use Rattle.posixmutex.specs.Histories.{held_by}
use Rattle.verdict.specs.declared.head.Head.{Head}
use Rattle.facts.specs.declared.fact.Fact.{Fact}
use Rattle.facts.specs.declared.fact.Fact.TheVariants.{Begin, Point, Death}
use Rattle.facts.specs.declared.fact.Line.{Line}
use Rattle.verdict.specs.declared.stage.Stage.{Stage}
use Rattle.verdict.specs.declared.stage.Stage.TheVariants.{Resting}
use Rattle.verdict.specs.declared.judge.Judge.{Judge}
use Rattle.verdict.specs.declared.reading.Read.{Read}
use Rattle.verdict.specs.declared.reading.Read.TheVariants.{Told, End}
use Rattle.facts.specs.Facts.{thread_of, decision_of}
use Rattle.verdict.specs.Earlier.{gives_up, moved}
use Rattle.verdict.specs.Fits.{Allows, OwnsNothing}
use Rattle.verdict.specs.declared.misfit.Misfit.{Misfit}
use Rattle.verdict.specs.declared.misfit.Misfit.TheVariants.{TooEarly}
use Rattle.verdict.specs.Misfits.{Refuses, OwnsSome}
use Rattle.verdict.specs.Stages.{Forbids, May, next}
use Rattle.verdict.specs.Places.{Clashes, Stands, placed, nowhere}

abbrev pub one : Bool → ℕ
one true = 1
one false = 0

abbrev pub object_at : List Object → ℕ → Object
object_at os m = slice_index_or os m fresh

abbrev pub stage_at : List Stage → ℕ → Stage
stage_at ss t = slice_index_or ss t Resting

-- each thread's count is that of the mutexes that it owns
abbrev pub AreCounted : List ℕ → List Object → Type 0
AreCounted held os = (t : ℕ) → t < length held → slice_index held t ≡ held_by t (object_at os) (length os)

-- the mutex that a fact's point or death is of is one of these
abbrev pub IsMutex : ℕ → Fact → Type 0
IsMutex n (Point d) = d.mutex < n
IsMutex n (Death t m) = m < n
IsMutex n f = Unit {0}

-- the fact is of a thread below `threads`, and of one of these mutexes
abbrev pub IsInside : ℕ → ℕ → Fact → Type 0
IsInside threads n f = (thread_of f < threads) × IsMutex n f

-- what a line after the head can tell
abbrev pub IsRead : Head → Read → Type 0
IsRead h (Told e) = (1 ≤ e.event) × IsInside (h.threads + 1) h.mutexes e.fact
IsRead h (End n) = Unit {0}

-- there is room for each thread and mutex, and counts are right
pub record IsSound (j : Judge) : Type 0 where
  pub few : length j.objects.items ≤ 4096
  pub each_held : length j.held.items ≡ length j.stages.items
  pub each_begun : length j.begun.items ≡ length j.stages.items
  pub each_freed : length j.freed.items ≡ length j.objects.items
  pub counted : AreCounted j.held.items j.objects.items

-- ---- time limits

-- whether another thread than t has owned a mutex since that event, in which t began a call that has neither taken nor
-- released it: by its owner now, and the event by which it lost its last one
abbrev pub has_waited : ℕ → Option ℕ → ℕ → ℕ → Bool
has_waited t None begun freed = nat_lt begun freed
has_waited t (Some u) begun freed = not (u == t)

abbrev pub may_time_out : Judge → Decision → Bool
may_time_out j d = has_waited d.thread (object_at j.objects.items d.mutex).owner (slice_index j.begun.items d.thread)
    (slice_index j.freed.items d.mutex)

-- a point tells of a time limit only where that is so
abbrev pub Awaits : Judge → Fact → Type 0
Awaits j (Point d) = d.reply ≡ ETIMEDOUT → may_time_out j d ≡ true
Awaits j f = Unit {0}

-- and it is too early where that isn't so
abbrev pub Hurries : Misfit → Judge → Fact → Type 0
Hurries (TooEarly i) j (Point d) =
    (i ≡ slice_index j.begun.items d.thread) × (d.reply ≡ ETIMEDOUT) × (may_time_out j d ≡ false)
Hurries m j f = ⊥

-- the events of the threads' newest begins, with one fact more, of this event
abbrev pub begun_next : List ℕ → ℕ → Fact → List ℕ
begun_next bs i (Begin t c) = slice_set bs t i
begun_next bs i f = bs

-- the events by which the mutexes lost their last owners, with one fact more, of this event
abbrev pub freed_next : List ℕ → ℕ → Fact → List ℕ
freed_next fs i (Point d) = if gives_up d.operation d.reply then slice_set fs d.mutex i else fs
freed_next fs i (Death t m) = slice_set fs m i
freed_next fs i f = fs

-- ---- an entry

-- an entry goes with what is kept
pub record Accepts (j : Judge) (e : Line) : Type 0 where
  pub stands : Stands j.place e
  pub may : May (stage_at j.stages.items (thread_of e.fact)) e.fact
  pub allowed : Allows (length j.objects.items) (object_at j.objects.items) (decision_of e.fact)
  pub awaits : Awaits j e.fact
  pub reaped : OwnsNothing (length j.objects.items) (object_at j.objects.items) e.fact

-- why an entry doesn't go with what is kept: its event is asked first, then its thread, then its mutex
abbrev pub Rejects : Misfit → Judge → Line → Type 0
Rejects m j e =
    Clashes m j.place e
    ⊎ (Stands j.place e × (Forbids m (stage_at j.stages.items (thread_of e.fact)) e.fact
    ⊎ (May (stage_at j.stages.items (thread_of e.fact)) e.fact
    × (Refuses m (length j.objects.items) (object_at j.objects.items) (decision_of e.fact)
    ⊎ ((Allows (length j.objects.items) (object_at j.objects.items) (decision_of e.fact) × Hurries m j e.fact)
    ⊎ OwnsSome m (length j.objects.items) (object_at j.objects.items) e.fact)))))

-- an entry that does is kept
pub record Moves (j : Judge) (e : Line) (k : Judge) : Type 0 where
  pub place : k.place ≡ placed j.place e
  pub stages : k.stages.items
      ≡ slice_set j.stages.items (thread_of e.fact) (next (stage_at j.stages.items (thread_of e.fact)) e.fact)
  pub objects : object_at k.objects.items ≡ moved (object_at j.objects.items) (decision_of e.fact)
  pub begun : k.begun.items ≡ begun_next j.begun.items e.event e.fact
  pub freed : k.freed.items ≡ freed_next j.freed.items e.event e.fact

-- before the first line after the head
pub record IsNew (h : Head) (j : Judge) : Type 0 where
  pub head : j.head ≡ h
  pub place : j.place ≡ nowhere
  pub stages : (t : ℕ) → stage_at j.stages.items t ≡ Resting
  pub objects : (m : ℕ) → object_at j.objects.items m ≡ fresh
  pub begun : (t : ℕ) → slice_index j.begun.items t ≡ 0
  pub freed : (m : ℕ) → slice_index j.freed.items m ≡ 0
  pub each_stage : length j.stages.items ≡ h.threads + 1
  pub each_object : length j.objects.items ≡ h.mutexes
  pub sound : IsSound j
