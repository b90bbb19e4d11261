-- Which lines a trace may have, and that each is read as what was written.
--
-- *Written and read back.* Which lines a trace may have, by its first line: their numbers are in their ranges, their
-- operations those that calls have. Each is one line, whatever stands after it, and is read as what it was written
-- of.
use Rattle.std.specs.Prelude.{ℕ, ◌≡◌, ◌<◌, ◌≤◌, Option, Some, None, List, ◌∷◌, ◌++◌, Ok}
use Rattle.posixmutex.specs.declared.point.Operation.{Operation}
use Rattle.posixmutex.specs.declared.point.Operation.TheVariants.{Lock, TimedLock, TryLock, Unlock, Consistent}
use Rattle.posixmutex.specs.declared.point.Operation.TheVariants.{Wait, TimedWait, Signal, Broadcast, Death, Reinit}
use Rattle.facts.specs.declared.fact.Queue.{Queue}
use Rattle.facts.specs.declared.fact.Queue.TheVariants.{Mutex, Condition}
use Rattle.facts.specs.declared.fact.Fact.{Fact}
use Rattle.facts.specs.declared.fact.Fact.TheVariants as fact
use Rattle.facts.specs.declared.fact.Line.{Line}
use Rattle.lines.specs.Lines.{lines_of}
use Rattle.texts.specs.Text.{head_line, line_text, end_line}
use Rattle.verdict.specs.declared.head.Head.{Head}
use Rattle.verdict.specs.declared.reading.Read.TheVariants.{Told, End}
use Rattle.verdict.specs.Limits.{max_conditions, max_events}
use Rattle.verdict.specs.Reading.{IsHead, head_read, line_read}

-- ---- what a line may tell, in a trace with this first line

-- threads are numbered from 1, mutexes and condition variables from 0
abbrev pub IsThreadOf : Head → ℕ → Type 0
IsThreadOf h t = (1 ≤ t) × (t ≤ h.threads)

-- a call on a mutex, as a reinit is recorded too, or on the condition variable with this number
abbrev pub IsCallOf : Head → Operation → Option ℕ → Type 0
IsCallOf h Lock None = Unit {0}
IsCallOf h TimedLock None = Unit {0}
IsCallOf h TryLock None = Unit {0}
IsCallOf h Unlock None = Unit {0}
IsCallOf h Consistent None = Unit {0}
IsCallOf h Reinit None = Unit {0}
IsCallOf h Wait (Some k) = k < h.conditions
IsCallOf h TimedWait (Some k) = k < h.conditions
IsCallOf h Signal (Some k) = k < h.conditions
IsCallOf h Broadcast (Some k) = k < h.conditions
IsCallOf h op k = ⊥

-- no call dies
abbrev pub IsCalled : Operation → Type 0
IsCalled Death = ⊥
IsCalled op = Unit {0}

abbrev pub IsQueueOf : Head → Queue → Type 0
IsQueueOf h (Mutex m) = m < h.mutexes
IsQueueOf h (Condition k) = k < h.conditions

abbrev pub IsFactOf : Head → Fact → Type 0
IsFactOf h (fact.Begin t c) = IsThreadOf h t × (c.mutex < h.mutexes) × IsCallOf h c.operation c.condition
IsFactOf h (fact.Point d) = IsThreadOf h d.thread × (d.mutex < h.mutexes) × IsCalled d.operation
IsFactOf h (fact.Death t m) = IsThreadOf h t × (m < h.mutexes)
IsFactOf h (fact.Sleep t q) = IsThreadOf h t × IsQueueOf h q
IsFactOf h (fact.Wake t) = IsThreadOf h t
IsFactOf h (fact.Move t m) = IsThreadOf h t × (m < h.mutexes)
IsFactOf h (fact.Return t x) = IsThreadOf h t
IsFactOf h (fact.Kill t) = IsThreadOf h t
IsFactOf h (fact.Reap t) = IsThreadOf h t
IsFactOf h (fact.Renew t) = IsThreadOf h t

pub record IsLineOf (h : Head) (l : Line) : Type 0 where
  pub first : 1 ≤ l.event
  pub most : l.event ≤ max_events
  pub fact : IsFactOf h l.fact

-- ---- reading is the inverse of writing

-- whatever stands after it, what is written is one line, of which this holds without its line feed
abbrev pub IsLine : List ℕ → (List ℕ → Type 0) → Type 0
IsLine written Holds =
    (text : List ℕ) × ((behind : List ℕ) → lines_of (written ++ behind) ≡ text ∷ lines_of behind) × Holds text

-- its numbers, that of its condition variables too, are in their ranges
abbrev pub IsWhole : Head → Type 0
IsWhole h = IsHead h × (h.conditions ≤ max_conditions)

-- the first line, each line after it and the last one are read as what they were written of
pub record LinesAreReadBack : Type 0 where
  pub head : (h : Head) → IsWhole h
      → IsLine (head_line h.threads h.mutexes h.conditions) (λ text. head_read text ≡ Ok h)
  pub line : (h : Head) (l : Line) → IsWhole h → IsLineOf h l
      → IsLine (line_text l) (λ text. line_read h text ≡ Ok (Told l))
  pub end : (h : Head) (n : ℕ) → n ≤ max_events → IsLine (end_line n) (λ text. line_read h text ≡ Ok (End n))
