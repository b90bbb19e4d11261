-- Waits that make their mutexes unusable: which line of a trace tells of one. A run has none, since there a wait of an
-- inconsistent mutex replies X_STATE (the law `waits_release_consistent_mutexes` of `protocol`; pthread_cond_wait(3p)).
use Rattle.std.specs.Prelude.{ℕ, ◌≡◌, ◌-◌, ◌<◌, ◌≤◌, ◌==◌, ◌&&◌, Bool, true, false, List, length, take, reverse}
use Rattle.std.specs.Prelude.{slice_index_or, Option, Some, None}
use Rattle.lockword.specs.declared.reply.Reply.{Reply}
use Rattle.lockword.specs.declared.reply.Reply.TheVariants.{OK}
use Rattle.posixmutex.specs.declared.point.Operation.{Operation}
use Rattle.posixmutex.specs.declared.point.Operation.TheVariants.{Death, Unlock, Wait, TimedWait}
use Rattle.posixmutex.specs.declared.point.Decision.{Decision}
use Rattle.facts.specs.declared.fact.Begun.{Begun}
use Rattle.facts.specs.declared.fact.Line.{Line}
use Rattle.facts.specs.Facts.{decision_of}
use Rattle.verdict.specs.Earlier.{call_in, objects_after, told_of}
use Rattle.explain.specs.declared.spoiling.Past.{Past}
use Rattle.explain.specs.Origins.{newest_line, step_at}

-- ---- which line tells of one

abbrev pub is_wait : Operation → Bool
is_wait Wait = true
is_wait TimedWait = true
is_wait op = false

-- the call that a thread is in is a wait
abbrev pub is_waiting : Option Begun → Bool
is_waiting None = false
is_waiting (Some c) = is_wait c.operation

-- it gives up its mutex
abbrev pub is_release : Operation → Reply → Bool
is_release Unlock OK = true
is_release op x = false

-- after these lines, which stand newest first, the step is the release of a wait whose mutex is inconsistent: that
-- makes it unusable
abbrev pub spoils : List Line → Option Decision → Bool
spoils earlier None = false
spoils earlier (Some d) = is_release d.operation d.reply
    && (is_waiting (call_in (told_of d.thread earlier)) && (objects_after earlier d.mutex).inconsistent)

-- of these lines, the first of which is line 2, line n tells of such a release
abbrev pub spoils_at : List Line → ℕ → Bool
spoils_at es n = spoils (reverse (take (n - 2) es)) (step_at es n)

-- no line does, or this one is the first
abbrev pub IsFirstSpoiling : List Line → Option ℕ → Type 0
IsFirstSpoiling es None = (n : ℕ) → 2 ≤ n → spoils_at es n ≡ false
IsFirstSpoiling es (Some line) =
    (2 ≤ line) × (spoils_at es line ≡ true) × ((n : ℕ) → 2 ≤ n → n < line → spoils_at es n ≡ false)

-- ---- the death that it goes back to

abbrev pub is_death : Operation → Reply → Bool
is_death Death OK = true
is_death op x = false

-- a death that is said of mutex m
abbrev pub is_death_of : ℕ → Option Decision → Bool
is_death_of m None = false
is_death_of m (Some d) = (d.mutex == m) && is_death d.operation d.reply

abbrev pub is_death_like : Option Decision → Option Decision → Bool
is_death_like None o = false
is_death_like (Some d) o = is_death_of d.mutex o

-- the newest line before line n that tells a death of line n's mutex
abbrev pub death_before : List Line → ℕ → Option ℕ
death_before es n = newest_line (λ a. is_death_like (step_at es n) (decision_of a.fact)) (reverse (take (n - 2) es))

-- ---- what is kept of the lines so far, which stand newest first

abbrev pub waits_at : List Bool → ℕ → Bool
waits_at ws t = slice_index_or ws t false

abbrev pub death_at : List (Option ℕ) → ℕ → Option ℕ
death_at ds m = slice_index_or ds m None

-- mutex m isn't inconsistent; or it is, and this is the line of its last owner's death
abbrev pub IsDeathOf : ℕ → List Line → Option ℕ → Type 0
IsDeathOf m earlier None = (objects_after earlier m).inconsistent ≡ false
IsDeathOf m earlier (Some n) = ((objects_after earlier m).inconsistent ≡ true)
    × (newest_line (λ a. is_death_of m (decision_of a.fact)) earlier ≡ Some n)

pub record Recalls (past : Past) (earlier : List Line) : Type 0 where
  pub waits : (t : ℕ) → t < length past.waits.items
      → waits_at past.waits.items t ≡ is_waiting (call_in (told_of t earlier))
  pub deaths : (m : ℕ) → m < length past.deaths.items → IsDeathOf m earlier (death_at past.deaths.items m)

-- the step makes nothing unusable; or it does, and this is the line of its mutex's last owner's death
abbrev pub IsSpoiledBy : List Line → Option Decision → Option ℕ → Type 0
IsSpoiledBy earlier step None = spoils earlier step ≡ false
IsSpoiledBy earlier step (Some n) = (spoils earlier step ≡ true)
    × (newest_line (λ a. is_death_like step (decision_of a.fact)) earlier ≡ Some n)
