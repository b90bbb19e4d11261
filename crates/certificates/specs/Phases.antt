-- How far a thread has come, in the words of the judge of traces.
use Rattle.std.specs.Prelude.{false}
use Rattle.verdict.specs.declared.stage.Made.{Made as TheirMade}
use Rattle.verdict.specs.declared.stage.Made.TheVariants as made
use Rattle.verdict.specs.declared.stage.Stage.{Stage}
use Rattle.verdict.specs.declared.stage.Stage.TheVariants as stage
use Rattle.certificates.specs.declared.phase.Made.{Made}
use Rattle.certificates.specs.declared.phase.Made.TheVariants.{Nothing, Released, Decided}
use Rattle.certificates.specs.declared.phase.Phase.{Phase}
use Rattle.certificates.specs.declared.phase.Phase.TheVariants.{Resting, Calling, Dying, Reaped}

abbrev pub made_of : Made → TheirMade
made_of Nothing = made.Nothing
made_of Released = made.Released
made_of (Decided x) = made.Decided x

-- nobody sleeps in a certificate
abbrev pub stage_of : Phase → Stage
stage_of Resting = stage.Resting
stage_of (Calling c m) = stage.Calling c (made_of m) false
stage_of Dying = stage.Dying
stage_of Reaped = stage.Reaped
