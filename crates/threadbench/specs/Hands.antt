-- Jobs that were handed to a worker's thread, and those that no thread was started for.
--
-- *Workers begin, or none does.* They may begin where each job that has calls has its worker. What became of a job is
-- known by what its worker was told: it began and its job is done, or it didn't and the job is as it was.
use Rattle.std.specs.Prelude.{ℕ, Bool, false, Option, None, Some, ◌≡◌}
use Rattle.std.specs.declared.sync.OnceToken.{OnceToken}
use Rattle.threadbench.specs.declared.job.Job.{Job}
use Rattle.threadbench.specs.declared.hand.Hand.{Hand}
use Rattle.threadbench.specs.declared.hand.Hand.TheVariants.{There, Idle}
use Rattle.threadbench.specs.declared.phase.Phase.{Phase}
use Rattle.threadbench.specs.Jobs.{HasNoWork}

-- workers were told not to begin, if they were told anything, by this lock
abbrev pub IsStop : ℕ → Option (OnceToken Bool) → Type 0
IsStop id None = Unit {0}
IsStop id (Some t) = (t.of ≡ id) × (t.value ≡ false)

module _ {G : Type 0} where
  -- the job that the hand is for
  abbrev pub job_of : Hand G → Job
  job_of (There h) = h.promise.job.value
  job_of (Idle j) = j

  -- its worker, if it has one, is one of these
  abbrev pub IsHandIn : Phase G → Hand G → Type 0
  IsHandIn f (There h) = h.promise.phase.now ≡ f
  IsHandIn f (Idle j) = Unit {0}

  -- nothing is missing for its calls: it has a worker where it has calls to make
  abbrev pub MayBegin : Hand G → Type 0
  MayBegin (There h) = Unit {0}
  MayBegin (Idle j) = HasNoWork j.pass j.calls.items
