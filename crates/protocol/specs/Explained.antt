-- What a trace tells of each thread, and how its lines follow each other.
--
-- *Explained.* What a trace tells of each thread is its lives, one after the other, each but the last ended by its
-- reaping and followed by its renewal (`Lives`; `facts/specs/Lives.antt`); in a life each call has the points of its
-- operation, on its mutex, or a beginning of them; lines are in order, and of those of one event a begin is the first,
-- a return or a reaping the last, a renewal the only one, and wakes and moves stand after the point, but where a lock
-- ends for its time limit, whose wake stands before its point; and each line but a wake or a move is of an event of its
-- own thread. The law `trace_is_explained` states it of every layout and list of events, and `Machine::run` of what the
-- machine did.
use Rattle.std.specs.Prelude.{ℕ, ◌≡◌, ◌+◌, ◌==◌, Bool, true, false, List, [], ◌∷◌, if◌then◌else◌}
use Rattle.lockword.specs.declared.reply.Reply.{Reply}
use Rattle.lockword.specs.declared.reply.Reply.TheVariants.{ETIMEDOUT}
use Rattle.memorymap.specs.Layouts.{Layout', IsLayout}
use Rattle.facts.specs.declared.fact.Fact.{Fact}
use Rattle.facts.specs.declared.fact.Fact.TheVariants.{Begin, Point, Return, Reap}
use Rattle.facts.specs.declared.fact.Line.{Line}
use Rattle.facts.specs.Facts.{thread_of, is_passive, decides, is_renewal}
use Rattle.facts.specs.Lives.{own, Lives}
use Rattle.facts.specs.Orders.{Each, Orderly}
use Rattle.protocol.specs.declared.event.Event.{Event}
use Rattle.protocol.specs.declared.event.Event.TheVariants as event
use Rattle.protocol.specs.declared.note.Note.{Note}
use Rattle.protocol.specs.Notes.{lines_from}
use Rattle.protocol.specs.Machine.{start, notes}

-- the thread that an event gives a turn
abbrev pub caller : Event → ℕ
caller (event.Begin t o) = t
caller (event.Step t) = t
caller (event.Kill t) = t
caller (event.Leave t) = t
caller (event.Expire t) = t
caller (event.Decline t) = t
caller (event.Renew t) = t
caller (event.Remake t m) = t
caller (event.Spare t by) = t

-- the thread of event n, the first of the events having number i; 0 where there is no such event
abbrev pub caller_of : ℕ → List Event → ℕ → ℕ
caller_of i [] n = 0
caller_of i (e ∷ es) n = if n == i then caller e else caller_of (i + 1) es n

-- ---- the lines of one event

-- a call begins
abbrev pub is_begin : Fact → Bool
is_begin (Begin t c) = true
is_begin f = false

-- a call, or the walk of a dead thread's list, has ended
abbrev pub is_last : Fact → Bool
is_last (Return t x) = true
is_last (Reap t) = true
is_last f = false

-- not that a time limit came
abbrev is_in_time : Reply → Bool
is_in_time ETIMEDOUT = false
is_in_time x = true

-- it stands before the wakes and moves of its event: a death, or a point, but of a lock that ends for its time limit
abbrev pub decides_first : Fact → Bool
decides_first (Point d) = is_in_time d.reply
decides_first f = decides f

-- how line b may be after line a, near or far, where both are of one event: a begin is its first line, a return and
-- a reaping are its last, whom it wakes or moves stands after its point, or the death that it tells, but where a lock
-- ends for its time limit, and a renewal is its only line
pub record Within (a b : Line) : Type 0 where
  pub first : a.event ≡ b.event → is_begin b.fact ≡ false
  pub last : a.event ≡ b.event → is_last a.fact ≡ false
  pub decided : a.event ≡ b.event → is_passive a.fact ≡ true → decides_first b.fact ≡ false
  pub alone : a.event ≡ b.event → (is_renewal a.fact ≡ false) × (is_renewal b.fact ≡ false)

abbrev pub AreWithin : List Line → Type 0
AreWithin [] = Unit {0}
AreWithin (l ∷ ls) = Each (Within l) ls × AreWithin ls

-- ---- all lines

-- what the notes tell is in order, each line but a wake or a move is of an event of its own thread, and what is
-- recorded of each thread is its lives, each but the last ended by its reaping and followed by its renewal. In each
-- life its begins, points and returns belong together: a call has one point at most, of its own operation and mutex,
-- whose reply it returns; but a wait that isn't refused has an unlock and then a lock, whose reply it returns, or
-- ETIMEDOUT for OK where it has a time limit
pub record IsExplained (events : List Event) (told : List Note) : Type 0 where
  pub orderly : Orderly (lines_from 1 told)
  pub within : AreWithin (lines_from 1 told)
  pub callers : Each (λ l. is_passive l.fact ≡ false → thread_of l.fact ≡ caller_of 1 events l.event)
      (lines_from 1 told)
  pub lives : (t : ℕ) → Lives t (own t (lines_from 1 told))

-- whatever happens, with any values of the counters at the beginning
abbrev pub TraceIsExplained : Type 0
TraceIsExplained = (l : Layout') (counters : ℕ → ℕ) (events : List Event) → IsLayout l
    → IsExplained events (notes (start l counters) events)
