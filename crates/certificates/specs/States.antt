-- What is kept of a certificate's lines so far.
use Rattle.std.specs.Prelude.{ℕ, ◌≡◌, ◌+◌, ◌<◌, Bool, true, false, List, length, slice_index, slice_index_or, slice_set}
use Rattle.lockword.specs.declared.reply.Reply.TheVariants.{ETIMEDOUT}
use Rattle.posixmutex.specs.declared.object.Object.{Object}
use Rattle.posixmutex.specs.declared.point.Decision.{Decision}
use Rattle.posixmutex.specs.declared.point.Operation.TheVariants.{Unlock}
use Rattle.facts.specs.Lives.{IsWait}
use Rattle.posixmutex.specs.Objects.{fresh}
use Rattle.facts.specs.declared.fact.Fact.{Fact}
use Rattle.facts.specs.declared.fact.Fact.TheVariants.{Point}
use Rattle.facts.specs.Facts.{thread_of, decision_of}
use Rattle.verdict.specs.Earlier.{moved}
use Rattle.verdict.specs.Fits.{Allows, OwnsNothing}
use Rattle.verdict.specs.Judges.{AreCounted, IsMutex, begun_next, freed_next, has_waited, object_at}
use Rattle.verdict.specs.Stages.{May, next}
use Rattle.histories.specs.declared.head.Head.{Head}
use Rattle.certificates.specs.declared.phase.Phase.{Phase}
use Rattle.certificates.specs.declared.phase.Phase.TheVariants.{Resting, Calling}
use Rattle.certificates.specs.declared.state.State.{State}
use Rattle.certificates.specs.Phases.{stage_of}

abbrev pub phase_at : List Phase → ℕ → Phase
phase_at ps t = slice_index_or ps t Resting

abbrev pub doom_at : List Bool → ℕ → Bool
doom_at ds t = slice_index_or ds t false

-- there is room for each thread and mutex, and counts are right
pub record IsSound (s : State) : Type 0 where
  pub each_held : length s.held.items ≡ length s.phases.items
  pub each_doom : length s.doomed.items ≡ length s.phases.items
  pub each_begun : length s.begun.items ≡ length s.phases.items
  pub each_freed : length s.freed.items ≡ length s.objects.items
  pub counted : AreCounted s.held.items s.objects.items

-- a wait releases a consistent mutex
abbrev pub Releases : Phase → List Object → Fact → Type 0
Releases (Calling c m) os (Point d) =
    d.operation ≡ Unlock → IsWait c.operation → (object_at os d.mutex).inconsistent ≡ false
Releases p os f = Unit {0}

-- whether another thread has owned the point's mutex since its call began
abbrev pub may_time_out : State → Decision → Bool
may_time_out s d = has_waited d.thread (object_at s.objects.items d.mutex).owner (slice_index s.begun.items d.thread)
    (slice_index s.freed.items d.mutex)

-- a point tells of a time limit only where that is so
abbrev pub Awaits : State → Fact → Type 0
Awaits s (Point d) = d.reply ≡ ETIMEDOUT → may_time_out s d ≡ true
Awaits s f = Unit {0}

-- a fact goes with what is kept
pub record Accepts (s : State) (f : Fact) : Type 0 where
  pub thread : thread_of f < length s.phases.items
  pub may : May (stage_of (phase_at s.phases.items (thread_of f))) f
  pub releases : Releases (phase_at s.phases.items (thread_of f)) s.objects.items f
  pub inside : IsMutex (length s.objects.items) f
  pub allowed : Allows (length s.objects.items) (object_at s.objects.items) (decision_of f)
  pub awaits : Awaits s f
  pub reaped : OwnsNothing (length s.objects.items) (object_at s.objects.items) f

-- a fact that does is kept; then these are the threads that are doomed
pub record Moves (s : State) (f : Fact) (ds : List Bool) (k : State) : Type 0 where
  pub after : Phase
  pub goes : stage_of after ≡ next (stage_of (phase_at s.phases.items (thread_of f))) f
  pub phases : k.phases.items ≡ slice_set s.phases.items (thread_of f) after
  pub objects : object_at k.objects.items ≡ moved (object_at s.objects.items) (decision_of f)
  pub many : length k.objects.items ≡ length s.objects.items
  pub doomed : k.doomed.items ≡ ds
  pub lines : k.lines ≡ s.lines + 1
  pub begun : k.begun.items ≡ begun_next s.begun.items (s.lines + 1) f
  pub freed : k.freed.items ≡ freed_next s.freed.items (s.lines + 1) f

-- it was not killed in this life
abbrev pub IsAlive : Phase → Type 0
IsAlive Resting = Unit {0}
IsAlive (Calling c m) = Unit {0}
IsAlive p = ⊥

-- thread t, alive and not doomed yet, is doomed
pub record IsDoomed (s : State) (t : ℕ) (k : State) : Type 0 where
  pub thread : t < length s.phases.items
  pub free : doom_at s.doomed.items t ≡ false
  pub alive : IsAlive (phase_at s.phases.items t)
  pub phases : k.phases.items ≡ s.phases.items
  pub objects : k.objects.items ≡ s.objects.items
  pub doomed : k.doomed.items ≡ slice_set s.doomed.items t true
  pub lines : k.lines ≡ s.lines
  pub begun : k.begun.items ≡ s.begun.items
  pub freed : k.freed.items ≡ s.freed.items

-- before the first line
pub record IsNew (h : Head) (s : State) : Type 0 where
  pub phases : (t : ℕ) → phase_at s.phases.items t ≡ Resting
  pub objects : (m : ℕ) → object_at s.objects.items m ≡ fresh
  pub doomed : (t : ℕ) → doom_at s.doomed.items t ≡ false
  pub many : length s.objects.items ≡ h.mutexes
  pub lines : s.lines ≡ 0
  pub begun : (t : ℕ) → slice_index s.begun.items t ≡ 0
  pub freed : (m : ℕ) → slice_index s.freed.items m ≡ 0
  pub sound : IsSound s
