-- How far an answer brought a call.
use Rattle.std.specs.Prelude.{Option}
use Rattle.posixmutex.specs.declared.point.Point.{Point}
use Rattle.stepprograms.specs.declared.program.Progress.{Progress}
use Rattle.stepprograms.specs.declared.program.Progress.TheVariants.{Goes, Returns}
use Rattle.mutex.specs.declared.row.Row.{Row}
use Rattle.mutex.specs.declared.row.Row.TheVariants.{Ended}

abbrev pub progress_at : Option Point → Row → Progress
progress_at point (Ended x) = Returns x point
progress_at point r = Goes point
