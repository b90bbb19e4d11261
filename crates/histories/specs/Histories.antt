-- What a legal history is.
--
-- *Legal history.* A trace's points and deaths are seen by nobody, and when a thread was killed is seldom known. A
-- history has what is seen, and `doom` where a thread is last heard of. It is legal where some trace shows just its
-- lines, in their order: each line of the trace fits those before it, as the judge of traces has it (`Fits`); a wait
-- releases its mutex only where that is consistent; and for each doom there is one kill, after it.
--
-- The trace's numbers are its own: nothing is said of how many events it has.
use Rattle.std.specs.Prelude.{ℕ, ◌≡◌, ◌==◌, Bool, true, false, Some, List, [], ◌∷◌, ◌++◌, if◌then◌else◌}
use Rattle.posixmutex.specs.declared.point.Operation.TheVariants.{Unlock}
use Rattle.facts.specs.Lives.{IsWait}
use Rattle.facts.specs.declared.fact.Begun.{Begun}
use Rattle.facts.specs.declared.fact.Fact.{Fact}
use Rattle.facts.specs.declared.fact.Fact.TheVariants.{Point, Death, Sleep, Wake, Move, Kill}
use Rattle.facts.specs.declared.fact.Line.{Line}
use Rattle.facts.specs.Facts.{thread_of}
use Rattle.facts.specs.Orders.{Each}
use Rattle.verdict.specs.declared.checking.Verdict.TheVariants.{Legal}
use Rattle.verdict.specs.Earlier.{call_in, is_killed, objects_after, told_of}
use Rattle.verdict.specs.Explained.{Explains}
use Rattle.verdict.specs.Judges.{IsMutex}
use Rattle.verdict.specs.Reading.{Trace}
use Rattle.verdict.specs.Verdicts.{AllFit, IsJudged}
use Rattle.histories.specs.declared.entry.Entry.{Entry}
use Rattle.histories.specs.declared.entry.Entry.TheVariants.{Told, Doom}

-- ---- what is seen of a trace

-- nobody outside sees it
abbrev pub is_hidden : Fact → Bool
is_hidden (Point d) = true
is_hidden (Death t m) = true
is_hidden (Sleep t q) = true
is_hidden (Wake t) = true
is_hidden (Move t m) = true
is_hidden f = false

-- threads that are doomed, and not killed yet: none, one more, one less
abbrev pub nobody : ℕ → Bool
nobody t = false

abbrev pub with : ℕ → (ℕ → Bool) → ℕ → Bool
with t d u = if t == u then true else d u

abbrev pub without : ℕ → (ℕ → Bool) → ℕ → Bool
without t d u = if t == u then false else d u

-- these lines of a trace show that history, both the newest first; d are the threads that are doomed after them. What
-- is doomed is alive, and tells nothing more but its kill
pub data Shows : (ℕ → Bool) → List Line → List Entry → Type 0 where
  Nothing : Shows nobody [] []
  Hides : (d : ℕ → Bool) (e : Line) (trace : List Line) (h : List Entry) → is_hidden e.fact ≡ true → Shows d trace h
      → Shows d (e ∷ trace) h
  Tells : (d : ℕ → Bool) (e : Line) (trace : List Line) (h : List Entry) → is_hidden e.fact ≡ false
      → d (thread_of e.fact) ≡ false → Shows d trace h → Shows d (e ∷ trace) (Told e.fact ∷ h)
  Dooms : (d : ℕ → Bool) (t : ℕ) (trace : List Line) (h : List Entry) → d t ≡ false
      → is_killed (told_of t trace) ≡ false → Shows d trace h → Shows (with t d) trace (Doom t ∷ h)
  Kills : (d : ℕ → Bool) (t : ℕ) (e : Line) (trace : List Line) (h : List Entry) → e.fact ≡ Kill t → d t ≡ true
      → Shows d trace h → Shows (without t d) (e ∷ trace) h

-- ---- legal histories

-- a wait releases a consistent mutex: of an inconsistent one it is refused
abbrev pub ReleasesWell : List Line → Fact → Type 0
ReleasesWell earlier (Point d) = (k : Begun) → d.operation ≡ Unlock → call_in (told_of d.thread earlier) ≡ Some k
    → IsWait k.operation → (objects_after earlier d.mutex).inconsistent ≡ false
ReleasesWell earlier f = Unit {0}

abbrev pub AllReleaseWell : List Line → Type 0
AllReleaseWell [] = Unit {0}
AllReleaseWell (e ∷ es) = ReleasesWell es e.fact × AllReleaseWell es

-- this trace of n mutexes, after which the threads d are doomed, shows the history legal; both the newest first
pub record Certifies (n : ℕ) (d : ℕ → Bool) (trace : List Line) (h : List Entry) : Type 0 where
  pub fits : AllFit n trace
  pub waits : AllReleaseWell trace
  pub inside : Each (λ e. IsMutex n e.fact) trace
  pub shows : Shows d trace h

-- a history of n mutexes is legal
pub record LegalHistory (n : ℕ) (h : List Entry) : Type 0 where
  pub trace : List Line
  pub doomed : ℕ → Bool
  pub certifies : Certifies n doomed trace h

-- ---- laws

abbrev pub BeginningsAreLegal : Type 0
BeginningsAreLegal = (n : ℕ) (newer older : List Entry) → LegalHistory n (newer ++ older) → LegalHistory n older

abbrev pub CertificatesSuffice : Type 0
CertificatesSuffice = (t : Trace) (d : ℕ → Bool) (h : List Entry) (points : ℕ) → IsJudged t (Legal points)
    → AllReleaseWell t.told → Each (λ e. IsMutex t.head.mutexes e.fact) t.told → Shows d t.told h
    → LegalHistory t.head.mutexes h

-- what a trace shows, no thread being doomed
abbrev pub seen : List Line → List Entry
seen [] = []
seen (e ∷ es) = if is_hidden e.fact then seen es else Told e.fact ∷ seen es

abbrev pub TracesAreHistories : Type 0
TracesAreHistories = (n : ℕ) (trace : List Line) → AllFit n trace → AllReleaseWell trace
    → Each (λ e. IsMutex n e.fact) trace → LegalHistory n (seen trace)

-- a legal history has a trace that explains itself
pub record IsExplained (n : ℕ) (h : List Entry) : Type 0 where
  pub trace : List Line
  pub doomed : ℕ → Bool
  pub shows : Shows doomed trace h
  pub explains : Explains n trace

abbrev pub HistoriesAreExplained : Type 0
HistoriesAreExplained = (n : ℕ) (h : List Entry) → LegalHistory n h → IsExplained n h
