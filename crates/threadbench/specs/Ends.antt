-- What became of a worker's job.
use Rattle.std.specs.Prelude.{ℕ, Bool, true, false, Option, ◌≡◌}
use Rattle.condvar.specs.declared.op.Op.{Op}
use Rattle.ruledwords.specs.declared.pass.Words.{Words}
use Rattle.threadbench.specs.declared.job.Job.{Job}
use Rattle.threadbench.specs.declared.worker.End.{End}
use Rattle.threadbench.specs.declared.worker.End.TheVariants.{Done, Kept}
use Rattle.threadbench.specs.declared.worker.Post.{Post}
use Rattle.threadbench.specs.declared.worker.Post.TheVariants.{Manned, Left}
use Rattle.threadbench.specs.Jobs.{IsJobOf, IsDone}

-- the worker was told by this lock: to begin, and its job is done; or not to begin, and its job is as it was
abbrev pub HasEnded : Words → (ℕ → ℕ → Op → Option Bool) → ℕ → Job → End → Type 0
HasEnded w says id j (Done r t) = (t.of ≡ id) × (t.value ≡ true) × IsDone w says j r
HasEnded w says id j (Kept k t) = (t.of ≡ id) × (t.value ≡ false) × (k ≡ j)

-- the worker's job is one of these words
abbrev pub IsMannedFor : Words → Post → Type 0
IsMannedFor w (Manned v) = IsJobOf w v.job
IsMannedFor w Left = ⊥

abbrev pub HasLeft : Words → (ℕ → ℕ → Op → Option Bool) → ℕ → Post → End → Type 0
HasLeft w says id (Manned v) e = HasEnded w says id v.job e
HasLeft w says id Left e = ⊥
