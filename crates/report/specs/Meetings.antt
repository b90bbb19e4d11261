-- Threads whose passes meet between two phases.
use Rattle.std.specs.Prelude.{◌≡◌, Bool, true, false, List, map, All}
use Rattle.ruledwords.specs.declared.pass.EitherPass.{EitherPass}
use Rattle.ruledwords.specs.declared.pass.EitherPass.TheVariants.{First, Second}
use Rattle.ruledwords.specs.declared.pass.Live.{Live}
use Rattle.ruledwords.specs.declared.pass.Reaped.{Reaped as ReapedThread}
use Rattle.ruledwords.specs.declared.pass.Words.{Words}
use Rattle.ruledwords.specs.Meetings.{KnowAll}
use Rattle.threadbench.specs.declared.job.WorkerPass.{WorkerPass}
use Rattle.threadbench.specs.declared.job.WorkerPass.TheVariants.{Lives, Reaped}
use Rattle.threadbench.specs.Answered.{card_in, IsWorkerOf}
use Rattle.report.specs.declared.threads.Worker.{Worker}

-- whether its thread died
abbrev pub is_reaped : WorkerPass → Bool
is_reaped (Lives p) = false
is_reaped (Reaped p) = true

-- a worker's pass, as one of two kinds, and back
abbrev pub as_either : WorkerPass → EitherPass Live ReapedThread
as_either (Lives p) = First p
as_either (Reaped p) = Second p

abbrev pub as_worker : EitherPass Live ReapedThread → WorkerPass
as_worker (First p) = Lives p
as_worker (Second p) = Reaped p

-- threads met: all of them know one history of each mutex now, which has all that any of them had seen, and of each of
-- them just its own points. Who lived lives, and keeps its number
pub record HaveMet (w : Words) (workers met : List Worker) : Type 0 where
  pub know : KnowAll (map (λ v. card_in v.pass) workers) (map (λ v. card_in v.pass) met)
  pub right : All (λ v. IsWorkerOf w v.pass) met
  pub lives : map (λ v. is_reaped v.pass) met ≡ map (λ v. is_reaped v.pass) workers
  pub numbers : map (λ v. v.die) met ≡ map (λ v. v.die) workers
