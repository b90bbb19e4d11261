-- Jobs and what came of them.
use Rattle.std.specs.Prelude.{ℕ, ◌≡◌, ◌<◌, ◌≤◌, ◌+◌, ◌≢◌, ◌⊎◌, Bool, true, false, Option}
use Rattle.std.specs.Prelude.{None, Some, List, [], All, length, slice_get, take}
use Rattle.lockword.specs.declared.reply.Reply.{Reply}
use Rattle.memorymap.specs.Layouts.{Layout'}
use Rattle.condvar.specs.declared.op.Op.{Op}
use Rattle.condvar.specs.Ops.{is_in}
use Rattle.ruledwords.specs.declared.pass.Card.{Card}
use Rattle.ruledwords.specs.declared.pass.Words.{Words}
use Rattle.ruledwords.specs.Deaths.{IsReaped}
use Rattle.ruledwords.specs.Passes.{card, layout_of, IsLive, IsPassOf}
use Rattle.threadbench.specs.declared.job.WorkerPass.{WorkerPass}
use Rattle.threadbench.specs.declared.job.WorkerPass.TheVariants.{Lives, Reaped}
use Rattle.threadbench.specs.declared.job.Job.{Job}
use Rattle.threadbench.specs.declared.job.Record.{Record}
use Rattle.threadbench.specs.Answered.{Answered, DiesIn, IsWorkerOf}
use Rattle.threadbench.specs.Each.{EachWith}

-- the job's pass is one of these words, and its calls are on mutexes and condition variables of their layout
abbrev pub IsJobOf : Words → Job → Type 0
IsJobOf w j = IsWorkerOf w j.pass × All (λ c. is_in (layout_of w) c ≡ true) j.calls.items

-- a thread with these calls makes none: there is none, or the thread has died
abbrev pub HasNoWork : WorkerPass → List Op → Type 0
HasNoWork (Lives p) calls = calls ≡ []
HasNoWork (Reaped p) calls = Unit {0}

-- the thread whose card was c died in the call, and its list was walked: the death of its owner is recorded for each mutex
-- that it held, and it holds nothing
pub record WasLost (k : Layout') (c : Card) (call : Op) (d : Card) : Type 0 where
  pub dead : Card
  pub died : DiesIn k c call dead
  pub reaped : IsReaped k dead d

-- a thread that was answered n of these calls, and had the card c then, ended so. It lives: that is its pass, and all
-- calls are answered, or the gate may have refused the next. Or it died in the next call, which the gate doesn't surely
-- refuse
abbrev pub StopsAs : Words → (ℕ → Op → Option Bool) → List Op → ℕ → Card → WorkerPass → Type 0
StopsAs w says calls n c (Lives p) = IsLive w p × (card p ≡ c)
    × ((n ≡ length calls) ⊎ ((call : Op) × (slice_get calls n ≡ Some call) × (says (n + 1) call ≢ Some true)))
StopsAs w says calls n c (Reaped p) = IsPassOf w p
    × ((call : Op) × (slice_get calls n ≡ Some call) × (says (n + 1) call ≢ Some false)
    × WasLost (layout_of w) c call (card p))

-- the thread whose card was a made these calls up to one, in their order, and they were answered so: all calls, or
-- those before the one that the gate may have refused or in which the thread died. Of none that was made does the gate
-- surely say no. (It says so of a thread's call by its number, from 1, and by what is called.)
pub record Worked (w : Words) (says : ℕ → ℕ → Op → Option Bool) (a : Card) (calls : List Op) (replies : List Reply)
    (pass : WorkerPass) : Type 0 where
  pub few : length replies ≤ length calls
  pub last : Card
  pub answered : Answered (layout_of w) a (take (length replies) calls) replies last
  pub let_through : (i : ℕ) (call : Op) → i < length replies → slice_get calls i ≡ Some call
      → says a.thread (i + 1) call ≢ Some false
  pub stops : StopsAs w (says a.thread) calls (length replies) last pass

-- where a thread with a number lives, some of the number is left. Nothing is left where it died, by its number or by a
-- kill, nor where there was none
abbrev pub IsLeftOf : Option ℕ → WorkerPass → Option ℕ → Type 0
IsLeftOf None p left = left ≡ None
IsLeftOf (Some n) (Lives p) left = left ≢ None
IsLeftOf (Some n) (Reaped p) left = left ≡ None

-- what came of a job with this pass: the calls of a thread that lived were made and answered so. One that had died
-- makes none
abbrev pub IsDoneFrom : Words → (ℕ → ℕ → Op → Option Bool) → Job → WorkerPass → Record → Type 0
IsDoneFrom w says j (Lives a) r =
    Worked w says (card a) j.calls.items r.replies.items r.pass × IsLeftOf j.die r.pass r.die
IsDoneFrom w says j (Reaped d) r = (r.pass ≡ Reaped d) × (r.replies.items ≡ []) × (r.die ≡ None)

abbrev pub IsDone : Words → (ℕ → ℕ → Op → Option Bool) → Job → Record → Type 0
IsDone w says j r = IsDoneFrom w says j j.pass r

-- the thread lives, and its pass is one of these words
abbrev pub LivesOn : Words → WorkerPass → Type 0
LivesOn w (Lives p) = IsLive w p
LivesOn w (Reaped p) = ⊥

-- each job has its record
abbrev pub AreDone : Words → (ℕ → ℕ → Op → Option Bool) → List Job → List Record → Type 0
AreDone w says js rs = EachWith (IsDone w says) js rs
