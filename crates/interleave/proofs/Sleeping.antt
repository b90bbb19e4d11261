-- Threads that stand in a queue, as kernels say it and as the machine does.
use Rattle.std.proofs.Common.{◌≡◌, ℕ, zero, suc, ◌<◌, ◌==◌, Bool, true, false, List, [], ◌∷◌, length, refl, sym, ap, ◌∙◌, arith, slice_index_or, eq-eqb, eqb-true}
use Rattle.std.specs.Prelude.{if◌then◌else◌, Contains, MatchBool}
use Rattle.mutex.specs.Whole.{whole_access, whole_led}
use Rattle.syscalls.specs.Kernels.{Kernel', queue_of, IsAsleep, IsAwake}
use Rattle.protocol.specs.declared.event.Event.TheVariants.{Step}
use Rattle.protocol.specs.declared.thread.Stage.{Stage}
use Rattle.protocol.specs.declared.thread.Stage.TheVariants.{Idle, Calling, AtCondition, Dying, Reaped}
use Rattle.facts.specs.declared.fact.Queue.TheVariants.{Mutex}
use Rattle.condvar.specs.Ops.{mutex_of}
use Rattle.protocol.specs.Machine.{State, nothing, has_thread, answer_of, led, went, stepped, stands_in, sleeps, is_asleep, happens}
use Rattle.protocol.proofs.Queued.{out_awake}
use Rattle.interleave.specs.Steps.{SleepsInItsCall}

-- whoever is at some place of a queue stands in it
found : (t : ℕ) (q : List ℕ) (k : ℕ) → k < length q → slice_index_or q k t ≡ t → stands_in t q ≡ true
found t [] k lt e = absurd (omega arith)
found t (u ∷ us) zero lt e = ap (λ (b : Bool). if b then true else stands_in t us) (eq-eqb u t e)
found t (u ∷ us) (suc k) lt e = go (u == t) (found t us k (omega arith) e)
  where
    go : (b : Bool) → stands_in t us ≡ true → (if b then true else stands_in t us) ≡ true
    go true later = refl
    go false later = later

pub contained : (t : ℕ) (q : List ℕ) → Contains q t → stands_in t q ≡ true
contained t q h = found t q h.0 h.1 h.2

-- and the other way round
pub contains : (t : ℕ) (q : List ℕ) → stands_in t q ≡ true → Contains q t
contains t [] e = absurd cc
contains t (u ∷ us) e = go (u == t) refl e (contains t us)
  where
    go : (b : Bool) → (u == t) ≡ b → (if b then true else stands_in t us) ≡ true → (stands_in t us ≡ true → Contains us t) → Contains (u ∷ us) t
    go true is h further = (0, omega arith, eqb-true u t is)
    go false is h further = let later = further h in (suc later.0, let lt = later.1 in omega arith, later.2)

-- who isn't in a queue isn't in it
pub outside : (t : ℕ) (q : List ℕ) → ¬ Contains q t → stands_in t q ≡ false
outside t q none = go (stands_in t q) refl
  where
    go : (b : Bool) → stands_in t q ≡ b → b ≡ false
    go true is = absurd (none (contains t q is))
    go false is = refl

-- a thread that sleeps makes no step
rests : (s : State) (t held : ℕ) (g : Stage) → sleeps s t g ≡ true → stepped s t held g ≡ nothing s
rests s t held Idle e = refl
rests s t held (AtCondition c p) e = absurd cc
rests s t held (Dying w) e = absurd cc
rests s t held Reaped e = refl
rests s t held (Calling o p) e = ap (λ (b : Bool). if b then nothing s else went s t held (mutex_of s.layout o) (Mutex (mutex_of s.layout o)) (whole_access p) (led o p (whole_led p (answer_of s t (whole_access p))))) e

pub asleep_step : (s : State) (t : ℕ) → is_asleep s t ≡ true → happens s (Step t) ≡ nothing s
asleep_step s t e = go (has_thread s t)
  where
    go : (b : Bool) → (if b then stepped s t (s.threads t).held (s.threads t).stage else nothing s) ≡ nothing s
    go true = rests s t (s.threads t).held (s.threads t).stage e
    go false = refl

-- what a kernel says of a thread is what the machine says, where it sleeps in its call
pub told_asleep : (s : State) (k : Kernel') (t : ℕ) → ((key : ℕ) → s.queues key ≡ queue_of k key) → SleepsInItsCall s t → (b : Bool) → MatchBool b (IsAsleep k t) (IsAwake k t) → b ≡ is_asleep s t
told_asleep s k t same sleeps true h = sym (sleeps h.0 (ap (stands_in t) (same h.0) ∙ contained t (queue_of k h.0) h.1))
told_asleep s k t same sleeps false h = sym (out_awake s t (λ key. ap (stands_in t) (same key) ∙ outside t (queue_of k key) (h key)))

-- the same in the machine's words
pub told_standing : (s : State) (k : Kernel') (t : ℕ) → ((key : ℕ) → s.queues key ≡ queue_of k key) → (b : Bool) → MatchBool b (IsAsleep k t) (IsAwake k t)
    → MatchBool b ((key : ℕ) × (stands_in t (s.queues key) ≡ true)) ((key : ℕ) → stands_in t (s.queues key) ≡ false)
told_standing s k t same true h = (h.0, ap (stands_in t) (same h.0) ∙ contained t (queue_of k h.0) h.1)
told_standing s k t same false h = λ key. ap (stands_in t) (same key) ∙ outside t (queue_of k key) (h key)
