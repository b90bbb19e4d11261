-- What holds of every run of the machine, wherever threads are killed and renewed, and mutexes reinitialised.
--
-- *A legal run.* All that is promised of events from a state on and of what was recorded of them: each is noted,
-- once and in its order; after each event the points and deaths so far are a history of the machine, the notes tell
-- who sleeps, no sleeper is stranded, and no reaped thread owns a mutex; the calls are explained; nobody is passed
-- by; and deaths are recorded. `Machine::run` states it clause by clause, `play` of the trace of a script
-- (`IsPlayed`), and `serve` of the run whose trace or table it wrote (`RunsLegally`).
use Rattle.std.specs.Prelude.{ℕ, ◌≡◌, List, take}
use Rattle.protocol.specs.declared.event.Event.{Event}
use Rattle.protocol.specs.declared.note.Note.{Note}
use Rattle.protocol.specs.Machine.{State, run, notes}
use Rattle.protocol.specs.Sleepers.{RunsAlone}
use Rattle.protocol.specs.Deaths.{ReportsDeaths}
use Rattle.protocol.specs.Headline.{NoReapedOwns}
use Rattle.protocol.specs.Explained.{IsExplained}
use Rattle.protocol.specs.PassedBy.{PassesNobody}
use Rattle.interleave.specs.Reached.{AtEachMoment, TellsAtEachMoment}

-- from state s these events led on, and this was recorded of them: a legal history of robust mutexes, in which each
-- call is explained, nobody who sleeps is stranded, and nobody who died owns a mutex once reaped
pub record IsLegalRun (s : State) (events : List Event) (told : List Note) : Type 0 where
  -- each event was noted, once and in its order, as what it did
  pub noted : told ≡ notes s events
  -- after each event the points and deaths told so far are one legal history: they lead from free mutexes to what each
  -- cell says of its owner, OWNER_DIED and UNUSABLE
  pub history : AtEachMoment s events told
  -- a call that returned had one point, between its begin and its return, and returned that point's reply; a wait that
  -- isn't refused had an unlock and then a lock; no point belongs to any other call; nothing of an event stands after
  -- its return or its reaping, nor before a begin, and whom it wakes or moves stands after its point. What is
  -- recorded of a thread is one life after the other, each but the last ended by its reaping and its renewal
  pub explained : IsExplained events told
  -- after each event a thread stands in a queue exactly where the last of its sleeps, moves, wakes and kills told so
  -- far is a sleep or a move, in the one that this names; each queue is in the order in which they came, as it was
  -- recorded, and whoever another's event wakes, or moves, is its front
  pub sleeps : TellsAtEachMoment s.layout s events told
  -- no wait that released its mutex before a signal or a broadcast counted falls asleep there after it; where a
  -- signal returns OK it wakes the first of its condition variable's queue, if any, and where a broadcast does it
  -- moves all of it and leaves nobody there
  pub passed : PassesNobody s events
  -- after each event some awake thread owes whoever sleeps on a mutex that nobody owns, whoever is awake and runs alone
  -- comes to rest, and a call that no other event divides returns what its object replies, or sleeps
  pub runs_alone : (n : ℕ) → RunsAlone (run s (take n events))
  -- after each event a thread that was reaped, and isn't renewed yet, owns no mutex
  pub reaped : (n : ℕ) → NoReapedOwns (run s (take n events))
  -- until it is renewed, a killed thread's death is recorded, once, of each mutex that it owned then and has lost
  -- since, and of no other
  pub deaths : ReportsDeaths s events
