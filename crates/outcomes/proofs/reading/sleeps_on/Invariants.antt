use Rattle.std.proofs.Common.{◌≡◌, drop}
use Rattle.protocol.specs.Machine.{stands_in}
use Rattle.interleave.specs.Saved.{sleepers_at}
use Rattle.outcomes.proofs.reading.sleeps_on.Given as goal

abbrev pub invariant-loop-sleeper : goal.invariant-loop-sleeper
invariant-loop-sleeper l = stands_in l.thread (sleepers_at l.sleepers l.place) ≡ stands_in l.thread (sleepers_at (drop l.sleeper-index l.sleepers) l.place)
