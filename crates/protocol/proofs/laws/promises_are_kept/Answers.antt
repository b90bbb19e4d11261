use Rattle.protocol.proofs.Runs.{legal}
use Rattle.protocol.proofs.Lives.{explained}
use Rattle.protocol.proofs.Deaths.{told_deaths}
use Rattle.protocol.proofs.Reaped.{nobody_reaped_owns}
use Rattle.protocol.proofs.Undivided.{nobody_stranded, all_rest}
use Rattle.protocol.proofs.Bounded.{only_they_wait}
use Rattle.protocol.proofs.Emptied.{nobody_passed}
use Rattle.protocol.proofs.Signalling.{right_signals}
use Rattle.protocol.proofs.Applying.{applied}
use Rattle.protocol.specs.Promises.{Promises}
use Rattle.protocol.proofs.laws.promises_are_kept.Goals as goal

pub returns : goal.returns
returns c = record {
  mutual_exclusion = legal;
  moments = explained;
  deaths = told_deaths;
  no_reaped_owner = nobody_reaped_owns;
  no_lost_wake = nobody_stranded;
  alone = all_rest;
  bounded = only_they_wait;
  no_wait_passed_by = nobody_passed;
  signals = right_signals;
  nothing_ignored = applied;
}
