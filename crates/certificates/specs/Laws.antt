-- What holds of calls that still wait and shouldn't, and of the points of steps.
use Rattle.std.specs.Prelude.{ℕ, ◌≡◌, ◌≢◌, ◌⊎◌, ◌<◌, ◌≤◌, ◌-◌, false, Option, Some, None, List, [], ◌∷◌, ◌++◌, length, reverse}
use Rattle.std.specs.List.{AllPairs, Contains, count_by, slice_get}
use Rattle.lockword.specs.declared.reply.Reply.{Reply}
use Rattle.lockword.specs.Threads.{named_threads}
use Rattle.posixmutex.specs.declared.object.Object.{Object}
use Rattle.posixmutex.specs.declared.point.Operation.TheVariants.{Lock, TimedLock}
use Rattle.posixmutex.specs.Objects.{Does}
use Rattle.posixmutex.specs.Histories.{held_by}
use Rattle.facts.specs.declared.fact.Begun.{Begun}
use Rattle.facts.specs.declared.fact.Fact.TheVariants.{Begin, Kill}
use Rattle.facts.specs.declared.fact.Line.{Line}
use Rattle.verdict.specs.Earlier.{call_in, objects_after, points_in, told_of}
use Rattle.verdict.specs.Verdicts.{point_lines}
use Rattle.histories.specs.declared.entry.Entry.{Entry}
use Rattle.histories.specs.declared.entry.Entry.TheVariants.{Told, Doom}
use Rattle.histories.specs.declared.entry.HistoryLine.{HistoryLine}
use Rattle.certificates.specs.declared.waiting.Waiter.{Waiter}
use Rattle.certificates.specs.Certificates.{IsCertificate, entries, is_doomed, is_point_step, seen_of, trace_of}
use Rattle.certificates.specs.Waiters.{waiters}

-- thread t is in this call, a lock, with a time limit or without, that has had no point, of a mutex that nobody owns
pub record IsStuck (t : ℕ) (told : List Line) (call : Begun) : Type 0 where
  pub in_call : call_in (told_of t told) ≡ Some call
  pub lock : (call.operation ≡ Lock) ⊎ (call.operation ≡ TimedLock)
  pub unmade : points_in (told_of t told) ≡ []
  pub unowned : (objects_after told call.mutex).owner ≡ None

-- the mutex's object has a reply for it, which its next point, a lock, may tell; n is the number of mutexes
abbrev pub IsAnswered : ℕ → ℕ → List Line → ℕ → Type 0
IsAnswered n t told m = (x : Reply) × (new : Object)
    × Does (held_by t (objects_after told) n) (objects_after told m) t Lock x new

-- a call that is named: its thread is in such a lock, which would be answered, and it began at the line that is named;
-- and the mutex is unusable, where that is said
pub record IsNamed (n : ℕ) (history : List Entry) (told : List Line) (w : Waiter) : Type 0 where
  pub call : Begun
  pub mutex : w.mutex ≡ call.mutex
  pub unusable : w.unusable ≡ (objects_after told w.mutex).unusable
  pub stuck : IsStuck w.thread told call
  pub answered : IsAnswered n w.thread told w.mutex
  pub began : slice_get history (w.begin - 1) ≡ Some (Told (Begin w.thread call))

-- each call that is named is such a one
abbrev pub NamedCallsAreStuck : Type 0
NamedCallsAreStuck = (n : ℕ) (history : List HistoryLine) (steps : List Entry) (w : Waiter)
    → IsCertificate n history steps → Contains (waiters (reverse steps)) w
    → IsNamed n (entries history) (trace_of (reverse steps)) w

-- and each such call of a thread that isn't doomed is named
abbrev pub StuckCallsAreNamed : Type 0
StuckCallsAreNamed = (t : ℕ) (steps : List Entry) (call : Begun) → 0 < t → t ≤ named_threads
    → IsStuck t (trace_of (reverse steps)) call → is_doomed t (reverse steps) ≡ false
    → (w : Waiter) × (w.thread ≡ t) × Contains (waiters (reverse steps)) w

-- the points of steps are those of the trace that they are, as the judge of traces counts them
abbrev pub PointsAreTheJudges : Type 0
PointsAreTheJudges = (steps : List Entry) → count_by is_point_step steps ≡ point_lines (trace_of (reverse steps))

-- ---- since when

-- step e, the next one after these, leaves mutex m without an owner
pub record LeavesUnowned (m : ℕ) (e : Entry) (es : List Entry) : Type 0 where
  pub owned : (objects_after (trace_of es) m).owner ≢ None
  pub unowned : (objects_after (trace_of (e ∷ es)) m).owner ≡ None

-- no step of these does
abbrev pub NoneLeaves : ℕ → List Entry → Type 0
NoneLeaves m es = (later : List Entry) (e : Entry) (earlier : List Entry) → es ≡ later ++ e ∷ earlier
    → LeavesUnowned m e earlier → ⊥

-- one does, and no later one; this many lines of the history stand before it
pub record IsLastLeft (m : ℕ) (es : List Entry) (n : ℕ) : Type 0 where
  pub later : List Entry
  pub step : Entry
  pub earlier : List Entry
  pub all : es ≡ later ++ step ∷ earlier
  pub leaves : LeavesUnowned m step earlier
  pub lines : n ≡ length (seen_of earlier)
  pub none_later : (last : List Entry) (e : Entry) (between : List Entry) → later ≡ last ++ e ∷ between
      → LeavesUnowned m e (between ++ step ∷ earlier) → ⊥

abbrev pub IsSince : ℕ → List Entry → Option ℕ → Type 0
IsSince m es None = NoneLeaves m es
IsSince m es (Some n) = IsLastLeft m es n

-- of a call that is named, it is said since when its mutex has had no owner: the last step that left it so, if any did
abbrev pub SinceIsTheLast : Type 0
SinceIsTheLast = (steps : List Entry) (w : Waiter) → Contains (waiters (reverse steps)) w
    → IsSince w.mutex (reverse steps) w.since

-- ---- each once

-- the calls that are named are of different threads, in the order of their ids; and who was doomed has been killed since
pub record WaitersAreInOrder : Type 0 where
  pub rising : (steps : List Entry) → AllPairs (λ a b. a.thread < b.thread) (waiters (reverse steps))
  pub killed : (steps : List Entry) (w : Waiter) (later earlier : List Entry) → Contains (waiters (reverse steps)) w
      → reverse steps ≡ later ++ Doom w.thread ∷ earlier → Contains later (Told (Kill w.thread))
