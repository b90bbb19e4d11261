-- The lines that notes stand for, in their order.
--
-- *What a note tells.* Facts, one after the other: a begin, a point, a sleep, wakes, moves, a return; a kill, a death
-- of a mutex's owner, a reaping, a renewal; of a leave a wake; of an expiry a wake, and of a lock's a point; of a
-- remake a begin, a point and a return. A call that is refused at once is decided and returns at its begin.
use Rattle.std.specs.Prelude.{ℕ, ◌+◌, Bool, true, false, Option, Some, None, List, [], ◌∷◌, ◌++◌, map}
use Rattle.lockword.specs.declared.reply.Reply.{Reply}
use Rattle.lockword.specs.declared.reply.Reply.TheVariants.{OK, ETIMEDOUT}
use Rattle.posixmutex.specs.declared.point.Operation.TheVariants as operation
use Rattle.posixmutex.specs.declared.point.Decision.{Decision}
use Rattle.protocol.specs.declared.note.Note.{Note}
use Rattle.protocol.specs.declared.note.Note.TheVariants.{Nothing, Began, Stepped, Killed}
use Rattle.protocol.specs.declared.note.Note.TheVariants.{Walked, Left, Expired, Renewed, Reinited}
use Rattle.facts.specs.declared.fact.Begun.{Begun}
use Rattle.facts.specs.declared.fact.Queue.{Queue}
use Rattle.facts.specs.declared.fact.Queue.TheVariants.{Mutex, Condition}
use Rattle.facts.specs.declared.fact.Fact.{Fact}
use Rattle.facts.specs.declared.fact.Fact.TheVariants.{Begin, Point, Sleep, Wake, Move}
use Rattle.facts.specs.declared.fact.Fact.TheVariants.{Return, Kill, Death, Reap, Renew}
use Rattle.facts.specs.declared.fact.Line.{Line}

abbrev pub return_facts : ℕ → Option Reply → List Fact
return_facts t None = []
return_facts t (Some x) = Return t x ∷ []

abbrev pub point_facts : Option Decision → List Fact
point_facts None = []
point_facts (Some d) = Point d ∷ []

-- a call that is refused at once is decided and returns
abbrev pub refusal_facts : ℕ → Begun → Option Reply → List Fact
refusal_facts t c None = []
refusal_facts t c (Some x) =
    Point (record { thread = t; mutex = c.mutex; operation = c.operation; reply = x }) ∷ Return t x ∷ []

abbrev pub sleep_facts : ℕ → Option Queue → List Fact
sleep_facts t None = []
sleep_facts t (Some q) = Sleep t q ∷ []

-- a thread that is moved to a mutex's queue
abbrev pub moves_to : ℕ → ℕ → Fact
moves_to m u = Move u m

abbrev pub death_facts : ℕ → Option ℕ → List Fact
death_facts t None = []
death_facts t (Some m) = Death t m ∷ []

abbrev pub reap_facts : ℕ → Bool → List Fact
reap_facts t false = []
reap_facts t true = Reap t ∷ []

-- a reinit of mutex m, as its begin is recorded
abbrev pub reinit_of : ℕ → Begun
reinit_of m = record { operation = operation.Reinit; mutex = m; condition = None }

-- what an event did, one thing after the other; a remake is recorded as a call of one event
abbrev pub facts_of : Note → List Fact
facts_of Nothing = []
facts_of (Began t c refused) = Begin t c ∷ refusal_facts t c refused
facts_of (Stepped t m point slept woken moved returned) = point_facts point
    ++ (sleep_facts t slept ++ (map Wake woken ++ (map (moves_to m) moved ++ return_facts t returned)))
facts_of (Killed t) = Kill t ∷ []
facts_of (Left t) = Wake t ∷ []
facts_of (Expired t (Mutex m)) = Wake t
    ∷ Point (record { thread = t; mutex = m; operation = operation.TimedLock; reply = ETIMEDOUT }) ∷ []
facts_of (Expired t (Condition k)) = Wake t ∷ []
facts_of (Renewed t) = Renew t ∷ []
facts_of (Reinited t m) = Begin t (reinit_of m)
    ∷ Point (record { thread = t; mutex = m; operation = operation.Reinit; reply = OK }) ∷ Return t OK ∷ []
facts_of (Walked t death woken reaped) = death_facts t death ++ (map Wake woken ++ reap_facts t reaped)

abbrev pub line_of : ℕ → Fact → Line
line_of i f = record { event = i; fact = f }

-- the lines of events of which the first has number i
abbrev pub lines_from : ℕ → List Note → List Line
lines_from i [] = []
lines_from i (n ∷ ns) = map (line_of i) (facts_of n) ++ lines_from (i + 1) ns
