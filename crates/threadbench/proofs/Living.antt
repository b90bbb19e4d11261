-- What becomes of the threads of jobs.
use Rattle.std.proofs.Common.{◌≡◌, inl, ℕ, Bool, Option, None, Some, List, [], Vec, length, refl, sym, ap, subst, arith}
use Rattle.std.specs.declared.alloc.Global.{Global}
use Rattle.lockword.specs.declared.reply.Reply.{Reply}
use Rattle.condvar.specs.declared.op.Op.{Op}
use Rattle.ruledwords.specs.declared.pass.Live.{Live}
use Rattle.ruledwords.specs.declared.pass.Pass.{Pass}
use Rattle.ruledwords.specs.declared.pass.Words.{Words}
use Rattle.ruledwords.specs.Passes.{card, IsLive}
use Rattle.threadbench.specs.declared.job.Job.{Job}
use Rattle.threadbench.specs.declared.job.Record.{Record}
use Rattle.threadbench.specs.declared.job.WorkerPass.{WorkerPass}
use Rattle.threadbench.specs.declared.job.WorkerPass.TheVariants.{Lives, Reaped}
use Rattle.threadbench.specs.Answered.{IsWorkerOf}
use Rattle.threadbench.specs.Jobs.{HasNoWork, IsDone, IsDoneFrom, IsJobOf, IsLeftOf, Worked}

-- whoever lives or not, it is a worker of these words still
still_there : (w : Words) (says : ℕ → ℕ → Op → Option Bool) (j : Job) (pass : WorkerPass) (r : Record) (after : WorkerPass) → IsDoneFrom w says j pass (record r { pass = after }) → IsWorkerOf w pass → IsWorkerOf w after
still_there w says j (Lives a) r (Lives b) done of = done.0.stops.0
still_there w says j (Lives a) r (Reaped d) done of = done.0.stops.0
still_there w says j (Reaped d) r after done of = subst (IsWorkerOf w) (sym done.0) of

pub works_on : (w : Words) (says : ℕ → ℕ → Op → Option Bool) (j : Job) (r : Record) → IsDone w says j r → IsWorkerOf w j.pass → IsWorkerOf w r.pass
works_on w says j r done of = still_there w says j j.pass r r.pass done of

-- where a job has no work, there is nothing to be done
left_as_it_was : (n : Option ℕ) (a : Pass Live) → IsLeftOf n (Lives a) n
left_as_it_was None a = refl
left_as_it_was (Some n) a = λ none. absurd (cc none)

nothing_done : (w : Words) (says : ℕ → ℕ → Op → Option Bool) (calls : List Op) (die : Option ℕ) (a : Pass Live) → IsLive w a → calls ≡ [] → Worked w says (card a) calls [] (Lives a) × IsLeftOf die (Lives a) die
nothing_done w says calls die a live none = (
  record {
    few = omega arith;
    last = card a;
    answered = refl;
    let_through = λ i call low at. absurd (omega (arith, low));
    stops = (live, refl, inl (sym (ap length none)));
  },
  left_as_it_was die a,
)

pub rests : (w : Words) (says : ℕ → ℕ → Op → Option Bool) (j : Job) (a : Pass Live) (r : Vec Reply Global) → r.items ≡ [] → j.pass ≡ Lives a → HasNoWork j.pass j.calls.items → IsJobOf w j → IsDone w says j (record { pass = j.pass; replies = r; die = j.die })
rests w says j a r quiet is none of =
    subst (λ (z : WorkerPass). IsWorkerOf w z → HasNoWork z j.calls.items → IsDoneFrom w says j z (record { pass = z; replies = r; die = j.die })) (sym is)
    (λ live no_calls. subst (λ (l : List Reply). Worked w says (card a) j.calls.items l (Lives a) × IsLeftOf j.die (Lives a) j.die) (sym quiet) (nothing_done w says j.calls.items j.die a live no_calls)) of.0 none
