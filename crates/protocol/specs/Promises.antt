-- What the algorithm promises, as README lists it.
--
-- *The promises.* For every layout and every list of events: replies and deaths are one legal history; each call takes
-- effect at one moment, a wait at two, and each mutex of a dead thread is marked once; a reaped thread owns nothing; a
-- mutex that nobody owns has somebody awake for its sleepers; what a thread does alone comes to an end, and most calls
-- never wait; no wait is passed by; and no event that can happen is ignored. The law `promises_are_kept`.
use Rattle.protocol.specs.Headline.{HistoryIsLegal, NoReapedOwner}
use Rattle.protocol.specs.Explained.{TraceIsExplained}
use Rattle.protocol.specs.Deaths.{DeathsAreTold}
use Rattle.protocol.specs.Sleepers.{NoSleeperIsStranded, LoneThreadsComeToRest}
use Rattle.protocol.specs.Bounded.{OnlyLocksAndWaitsWait}
use Rattle.protocol.specs.PassedBy.{NobodyIsPassedBy}
use Rattle.protocol.specs.Signals.{SignalsAreRight}
use Rattle.protocol.specs.Applies.{EventsApply}

pub record Promises : Type 0 where
  -- 1. Mutual exclusion
  pub mutual_exclusion : HistoryIsLegal
  -- 2. One moment for each call, and one death for each mutex that a dead thread owned
  pub moments : TraceIsExplained
  pub deaths : DeathsAreTold
  -- 3. After the walk over its list, a dead thread owns nothing
  pub no_reaped_owner : NoReapedOwner
  -- 4. No wake is lost
  pub no_lost_wake : NoSleeperIsStranded
  -- 5. A thread alone returns or falls asleep, and all calls except lock and wait return, in bounded numbers of accesses
  pub alone : LoneThreadsComeToRest
  pub bounded : OnlyLocksAndWaitsWait
  -- 6. No wait is passed by, and a signal or a broadcast reaches the first sleepers
  pub no_wait_passed_by : NobodyIsPassedBy
  pub signals : SignalsAreRight
  -- 7. An event that can happen is never ignored
  pub nothing_ignored : EventsApply
