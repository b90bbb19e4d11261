-- Why no order of the calls explains a line: what may be wrong with it, by its thread's own lines before it.
--
-- *Where a thread is.* Its newest line says so: a begin, that it is in this call; a kill or a doom, that it is dead; its
-- reaping, that it is reaped; a return or a renewal, that it rests. Who has told nothing yet rests.
--
-- *The reason.* A line is out of its thread's turn: a begin in a call, a return in none, a line of who is dead or reaped,
-- the reaping of who is alive, the renewal of who isn't reaped. Else a return has one: it names the call that the thread
-- is in, with the reply, and the line where it began. No other line in its turn has one.
--
-- *What it says is so.* Law `reasons_hold`, of any lines: a thread's newest line is one after which only other threads
-- have lines. The call that is named began at its thread's newest line, and the reply is the line's own. Law
-- `turns_have_reasons`: whatever is out of turn has a reason.
--
-- Lines stand newest first.
use Rattle.std.specs.Prelude.{ℕ, ◌≡◌, ◌≢◌, ◌==◌, ◌+◌, Bool, true, false, Option, Some, None}
use Rattle.std.specs.Prelude.{List, [], ◌∷◌, ◌++◌, All, length, if◌then◌else◌}
use Rattle.lockword.specs.declared.reply.Reply.{Reply}
use Rattle.posixmutex.specs.declared.point.Operation.{Operation}
use Rattle.facts.specs.declared.fact.Begun.{Begun}
use Rattle.facts.specs.declared.fact.Fact.TheVariants.{Begin, Return, Kill, Reap, Renew}
use Rattle.histories.specs.declared.entry.Entry.{Entry}
use Rattle.histories.specs.declared.entry.Entry.TheVariants.{Told, Doom}
use Rattle.histories.specs.Histories.{is_hidden}
use Rattle.certificates.specs.Certificates.{whose}
use Rattle.judge.specs.declared.reason.OutOfTurn.{OutOfTurn as OutOfTurn'}
use Rattle.judge.specs.declared.reason.OutOfTurn.TheVariants as turn
use Rattle.judge.specs.declared.reason.Reason.{Reason}
use Rattle.judge.specs.declared.reason.Reason.TheVariants.{OutOfTurn, NoOrder}
use Rattle.judge.specs.declared.reason.Standing.{Standing}
use Rattle.judge.specs.declared.reason.Standing.TheVariants.{Resting, Calling, Dead, Reaped}

-- ---- where a thread is

-- where a line leaves its thread; it is the history's line n, counted from 1
abbrev pub standing_after : Entry → ℕ → Standing
standing_after (Told (Begin t c)) n = Calling c n
standing_after (Told (Kill t)) n = Dead
standing_after (Told (Reap t)) n = Reaped
standing_after (Told f) n = Resting
standing_after (Doom t) n = Dead

-- where thread t is after lines
abbrev pub standing_behind : ℕ → List Entry → Standing
standing_behind t [] = Resting
standing_behind t (e ∷ es) = if whose e == t then standing_after e (length es + 1) else standing_behind t es

-- ---- what may be wrong with its line

-- it was killed, is doomed or was reaped
abbrev pub death_reason : Standing → Option Reason
death_reason Dead = Some (OutOfTurn turn.Dead)
death_reason Reaped = Some (OutOfTurn turn.Reaped)
death_reason s = None

abbrev pub begin_reason : Standing → Option Reason
begin_reason (Calling c n) = Some (OutOfTurn turn.InCall)
begin_reason s = death_reason s

abbrev pub return_reason : Standing → Reply → Option Reason
return_reason Resting x = Some (OutOfTurn turn.NoCall)
return_reason (Calling c n) x = Some (NoOrder c.operation c.mutex x n)
return_reason s x = death_reason s

abbrev pub reap_reason : Standing → Option Reason
reap_reason Dead = None
reap_reason Reaped = Some (OutOfTurn turn.Reaped)
reap_reason s = Some (OutOfTurn turn.Alive)

abbrev pub renewal_reason : Standing → Option Reason
renewal_reason Reaped = None
renewal_reason s = Some (OutOfTurn turn.NotReaped)

abbrev pub reason_by : Standing → Entry → Option Reason
reason_by s (Told (Begin t c)) = begin_reason s
reason_by s (Told (Return t x)) = return_reason s x
reason_by s (Told (Kill t)) = death_reason s
reason_by s (Told (Reap t)) = reap_reason s
reason_by s (Told (Renew t)) = renewal_reason s
reason_by s (Told f) = None
reason_by s (Doom t) = death_reason s

-- what may be wrong with a line after these
abbrev pub reason_of : List Entry → Entry → Option Reason
reason_of es e = reason_by (standing_behind (whose e) es) e

-- ---- what it says is so

abbrev pub begins : Entry → Bool
begins (Told (Begin t c)) = true
begins e = false

abbrev pub returns : Entry → Bool
returns (Told (Return t x)) = true
returns e = false

abbrev pub dies : Entry → Bool
dies (Told (Kill t)) = true
dies (Doom t) = true
dies e = false

abbrev pub reaps : Entry → Bool
reaps (Told (Reap t)) = true
reaps e = false

abbrev pub renews : Entry → Bool
renews (Told (Renew t)) = true
renews e = false

-- this is thread t's newest line
pub record IsNewest (t : ℕ) (es : List Entry) (newest : Entry) : Type 0 where
  pub later : List Entry
  pub earlier : List Entry
  pub all : es ≡ later ++ newest ∷ earlier
  pub own : whose newest ≡ t
  pub others : All (λ e. whose e ≢ t) later

-- its newest line is such a one; or isn't, if there is any
abbrev pub Newest : (Entry → Bool) → ℕ → List Entry → Type 0
Newest such t es = (newest : Entry) × IsNewest t es newest × (such newest ≡ true)

abbrev pub NotNewest : (Entry → Bool) → ℕ → List Entry → Type 0
NotNewest such t es = (newest : Entry) → IsNewest t es newest → such newest ≡ false

-- thread t gets x for the call, with this operation and mutex, that its newest line began, the history's line
-- n
pub record IsReturn (t : ℕ) (es : List Entry) (e : Entry) (operation : Operation) (m : ℕ) (x : Reply) (n : ℕ) : Type 0 where
  pub line : e ≡ Told (Return t x)
  pub call : Begun
  pub newest : IsNewest t es (Told (Begin t call))
  pub operation_is : call.operation ≡ operation
  pub mutex_is : call.mutex ≡ m
  pub place : n ≡ length newest.earlier + 1

-- after lines, what is recorded of a line is so
abbrev pub IsSo : List Entry → Entry → Reason → Type 0
IsSo es e (OutOfTurn turn.InCall) = (begins e ≡ true) × Newest begins (whose e) es
IsSo es e (OutOfTurn turn.NoCall) = (returns e ≡ true) × NotNewest begins (whose e) es
IsSo es e (OutOfTurn turn.Dead) = (reaps e ≡ false) × Newest dies (whose e) es
IsSo es e (OutOfTurn turn.Reaped) = (renews e ≡ false) × Newest reaps (whose e) es
IsSo es e (OutOfTurn turn.Alive) = (reaps e ≡ true) × NotNewest dies (whose e) es
IsSo es e (OutOfTurn turn.NotReaped) = (renews e ≡ true) × NotNewest reaps (whose e) es
IsSo es e (NoOrder op m x n) = IsReturn (whose e) es e op m x n

abbrev pub ReasonsHold : Type 0
ReasonsHold = (es : List Entry) (e : Entry) (why : Reason) → reason_of es e ≡ Some why → IsSo es e why

-- nobody outside sees points, deaths, sleep, wakes and moves; each other line is a history's
abbrev pub IsSeen : Entry → Type 0
IsSeen (Told f) = is_hidden f ≡ false
IsSeen (Doom t) = Unit {0}

-- and the other way round: a line of a history that is out of its thread's turn has such a reason, and a return of a call
-- has the reason that names it
pub record AreGivenReasons : Type 0 where
  pub turns : (es : List Entry) (e : Entry) (why : OutOfTurn') → IsSeen e → IsSo es e (OutOfTurn why)
      → (told : OutOfTurn') × (reason_of es e ≡ Some (OutOfTurn told))
  pub returns : (es : List Entry) (e : Entry) (op : Operation) (m : ℕ) (x : Reply) (n : ℕ) → IsSo es e (NoOrder op m x n)
      → reason_of es e ≡ Some (NoOrder op m x n)
