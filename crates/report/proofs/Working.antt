-- What came of the calls of a thread.
use Rattle.std.proofs.Common.{◌≡◌, ◌≢◌, ⊎_elim, ℕ, ◌+◌, true, Option, Some, List, [], ◌∷◌, length, take, slice_get, refl, sym, ap, ◌∙◌, subst}
use Rattle.lockword.specs.declared.reply.Reply.{Reply}
use Rattle.condvar.specs.declared.op.Op.{Op}
use Rattle.ruledwords.specs.declared.pass.Card.{Card}
use Rattle.ruledwords.specs.declared.pass.Live.{Live}
use Rattle.ruledwords.specs.declared.pass.Pass.{Pass}
use Rattle.ruledwords.specs.declared.pass.Words.{Words}
use Rattle.ruledwords.specs.Passes.{card, layout_of}
use Rattle.threadbench.specs.declared.job.Job.{Job}
use Rattle.threadbench.specs.declared.job.Record.{Record}
use Rattle.threadbench.specs.declared.job.WorkerPass.{WorkerPass}
use Rattle.threadbench.specs.declared.job.WorkerPass.TheVariants.{Lives, Reaped}
use Rattle.threadbench.specs.Answered.{Answered}
use Rattle.threadbench.specs.Jobs.{IsDone, IsDoneFrom, Worked}
use Rattle.report.specs.declared.threads.Worker.{Worker}
use Rattle.report.specs.Threads.{open_gate, Works, WorksFrom}

-- ---- lists

all_taken : {A : Type 0} (xs : List A) → take (length xs) xs ≡ xs
all_taken [] = refl
all_taken (x ∷ xs) = ap (λ ys. x ∷ ys) (all_taken xs)

-- ---- calls

-- after the open gate all calls of a thread that lives are answered
pub as_many : (w : Words) (a : Card) (xs : List Op) (rs : List Reply) (b : Pass Live) → Worked w open_gate a xs rs (Lives b) → length rs ≡ length xs
as_many w a xs rs b worked = ⊎_elim (λ (same : length rs ≡ length xs). same) (λ (stopped : (call : Op) × (slice_get xs (length rs) ≡ Some call) × (open_gate a.thread (length rs + 1) call ≢ Some true)). absurd (stopped.2 refl)) worked.stops.2

pub all_answered : (w : Words) (a : Card) (xs : List Op) (rs : List Reply) (b : Pass Live) → Worked w open_gate a xs rs (Lives b) → Answered (layout_of w) a xs rs (card b)
all_answered w a xs rs b worked =
    let same = as_many w a xs rs b worked in
    let answered = subst (λ (cs : List Op). Answered (layout_of w) a cs rs worked.last) (ap (λ (n : ℕ). take n xs) same ∙ all_taken xs) worked.answered in
    subst (λ (c : Card). Answered (layout_of w) a xs rs c) (sym worked.stops.1) answered

-- ---- threads

-- what came of a job
done_from : (w : Words) (j : Job) (k : Record) (pass : WorkerPass) → IsDoneFrom w open_gate j pass k → WorksFrom w j.calls.items j.die pass k.replies.items (record { pass = k.pass; die = k.die })
done_from w j k (Lives a) done = done
done_from w j k (Reaped d) done = done

pub done_works : (w : Words) (cs : List Op) (u v : Worker) (j : Job) (k : Record) → j.pass ≡ u.pass → j.die ≡ u.die → j.calls.items ≡ cs → v ≡ record { pass = k.pass; die = k.die } → IsDone w open_gate j k → Works w cs u k.replies.items v
done_works w cs u v j k pass die calls given done =
    subst (λ (z : Worker). WorksFrom w cs u.die u.pass k.replies.items z) (sym given)
    (subst (λ (z : WorkerPass × Option ℕ × List Op). WorksFrom w z.2 z.1 z.0 k.replies.items (record { pass = k.pass; die = k.die })) (λ i. (pass i, die i, calls i)) (done_from w j k j.pass done))
