use Rattle.std.proofs.Common.{take}
use Rattle.std.specs.Prelude.{All}
use Rattle.buckets.specs.Queues.{StandsNowhere}
use Rattle.buckets.proofs.bucket.Bucket.fits.Given as goal

abbrev pub invariant-loop-place : goal.invariant-loop-place
invariant-loop-place l = All (StandsNowhere l.other) (take l.place l.queue)
