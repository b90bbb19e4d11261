-- Locks and waits whose time limit comes: a write into the lists is a write into the state.
use Rattle.std.proofs.Common.{◌≡◌, ◌≢◌, ℕ, zero, suc, ◌+◌, ◌<◌, ◌≤◌, ◌==◌, ◌&&◌, Bool, true, false, Some, None, List, [], ◌∷◌, length, refl, sym, ap, ◌∙◌, arith, slice_set, eqb-true, eq-eqb}
use Rattle.std.specs.Prelude.{if◌then◌else◌, slice_get}
use Rattle.std.proofs.lemmas.Bool.Decides.{nat_tests}
use Rattle.std.proofs.lemmas.Grind.{common_steps}
use mathlib.Core.Path.{fun_ext}
use Rattle.memorymap.specs.Layouts.{Layout'}
use Rattle.mutex.specs.declared.call.Call.{Call}
use Rattle.mutex.specs.declared.call.Call.TheVariants as call
use Rattle.mutex.specs.Standings.{Whole}
use Rattle.mutex.specs.Whole.{may_expire, timed_out, expired}
use Rattle.condvar.specs.declared.call.CondCall.{CondCall}
use Rattle.condvar.specs.declared.call.CondCall.TheVariants as cond_call
use Rattle.condvar.specs.declared.call.Limit.{Limit}
use Rattle.condvar.specs.declared.call.Limit.TheVariants.{Past}
use Rattle.condvar.specs.Calls as condition
use Rattle.condvar.specs.Calls.{condition_of}
use Rattle.condvar.specs.declared.op.Op.TheVariants.{OnMutex, OnCondition}
use Rattle.facts.specs.declared.fact.Queue.TheVariants.{Mutex, Condition}
use Rattle.syscalls.specs.Kernels.{Kernel', Leaves, queue_of}
use Rattle.protocol.specs.declared.event.Event.TheVariants.{Expire}
use Rattle.protocol.specs.declared.note.Note.TheVariants.{Expired}
use Rattle.protocol.specs.declared.thread.Thread.{Thread}
use Rattle.protocol.specs.declared.thread.Stage.TheVariants.{Calling}
use Rattle.protocol.specs.Machine as machine
use Rattle.protocol.specs.Machine.{State, After, has_thread, is_timed, nothing, lapsed, overslept, sleeps, stands_in, waits_on, put, happens}
use Rattle.protocol.proofs.Queues.{without_same}
use Rattle.interleave.specs.Shown.{state_at, thread_at}
use Rattle.interleave.specs.Steps.{SleepsInItsCall}
use Rattle.interleave.proofs.Sleeping.{outside, told_asleep}
use Rattle.interleave.proofs.Views.{threads-set}

-- ---- who stands in a queue

pub got_stands : (t : ℕ) (q : List ℕ) (i : ℕ) → slice_get q i ≡ Some t → stands_in t q ≡ true
got_stands t [] i e = absurd (grind (arith, common_steps))
got_stands t (u ∷ us) zero e = let same : u ≡ t = grind (arith, common_steps) in ap (λ (b : Bool). if b then true else stands_in t us) (eq-eqb u t same)
got_stands t (u ∷ us) (suc i) e = go (u == t) (got_stands t us i (grind (arith, common_steps)))
  where
    go : (b : Bool) → stands_in t us ≡ true → (if b then true else stands_in t us) ≡ true
    go true later = refl
    go false later = later

pub none_stands : (t : ℕ) (q : List ℕ) → ((i : ℕ) → i < length q → slice_get q i ≢ Some t) → stands_in t q ≡ false
none_stands t [] none = refl
none_stands t (u ∷ us) none = go (u == t) refl (none_stands t us (λ i below e. none (suc i) (omega (arith, below)) (grind (arith, common_steps))))
  where
    go : (b : Bool) → (u == t) ≡ b → stands_in t us ≡ false → (if b then true else stands_in t us) ≡ false
    go true is later = let same : u ≡ t = eqb-true u t is in absurd (none 0 (omega arith) (grind (arith, common_steps)))
    go false is later = later

-- ---- where the limit comes

-- where the call isn't a lock with a time limit, nothing happens
pub untimed_rests : (s : State) (t : ℕ) (c : Call) (p : Whole) → (s.threads t).stage ≡ Calling (OnMutex c) p → ((m : ℕ) → c ≢ call.TimedLock m) → happens s (Expire t) ≡ nothing s
untimed_rests s t c p is other = go (has_thread s t)
  where
    untimed : (x : Call) → ((m : ℕ) → x ≢ call.TimedLock m) → is_timed (OnMutex x) ≡ false
    untimed (call.Lock m) ne = refl
    untimed (call.TryLock m) ne = refl
    untimed (call.TimedLock m) ne = absurd (ne m refl)
    untimed (call.Unlock m) ne = refl
    untimed (call.Consistent m) ne = refl

    go : (b : Bool) → (if b then machine.expired s t (s.threads t).held (s.threads t).stage else nothing s) ≡ nothing s
    go true =
        ap (machine.expired s t (s.threads t).held) is
        ∙ ap (λ (b : Bool). if b && may_expire p.phase && sleeps s t (Calling (OnMutex c) p) then lapsed s t (s.threads t).held (OnMutex c) p else nothing s) (untimed c other)
    go false = refl

-- nor where it is a wait with none
pub unlimited_rests : (s : State) (t : ℕ) (c : CondCall) (p : Whole) → (s.threads t).stage ≡ Calling (OnCondition c) p → ((k : ℕ) (x : Limit) → c ≢ cond_call.TimedWait k x) → happens s (Expire t) ≡ nothing s
unlimited_rests s t c p is other = go (has_thread s t)
  where
    untimed : (x : CondCall) → ((k : ℕ) (y : Limit) → x ≢ cond_call.TimedWait k y) → is_timed (OnCondition x) ≡ false
    untimed (cond_call.Wait k) ne = refl
    untimed (cond_call.TimedWait k y) ne = absurd (ne k y refl)
    untimed (cond_call.Signal k) ne = refl
    untimed (cond_call.Broadcast k) ne = refl

    go : (b : Bool) → (if b then machine.expired s t (s.threads t).held (s.threads t).stage else nothing s) ≡ nothing s
    go true =
        ap (machine.expired s t (s.threads t).held) is
        ∙ ap (λ (b : Bool). if b && waits_on s t (condition_of c) then overslept s t (s.threads t).held (condition_of c) p else nothing s) (untimed c other)
    go false = refl

-- nor where its thread doesn't sleep on the condition variable
pub awake_rests : (s : State) (t k : ℕ) (x : Limit) (p : Whole) → (s.threads t).stage ≡ Calling (OnCondition (cond_call.TimedWait k x)) p → false ≡ waits_on s t k → happens s (Expire t) ≡ nothing s
awake_rests s t k x p is awake = go (has_thread s t)
  where
    go : (b : Bool) → (if b then machine.expired s t (s.threads t).held (s.threads t).stage else nothing s) ≡ nothing s
    go true =
        ap (machine.expired s t (s.threads t).held) is
        ∙ ap (λ (b : Bool). if b then overslept s t (s.threads t).held k p else nothing s) (sym awake)
    go false = refl

-- where it does, its wait is out of time
pub overslept_is : (s : State) (t k : ℕ) (x : Limit) (p : Whole) (th : Thread) → has_thread s t ≡ true → s.threads t ≡ th → th.stage ≡ Calling (OnCondition (cond_call.TimedWait k x)) p → true ≡ waits_on s t k
    → happens s (Expire t) ≡ overslept s t th.held k p
overslept_is s t k x p th there e is waits =
    ap (λ (b : Bool). if b then machine.expired s t (s.threads t).held (s.threads t).stage else nothing s) there
    ∙ ap (λ (z : Thread). machine.expired s t z.held z.stage) e
    ∙ ap (machine.expired s t th.held) is
    ∙ ap (λ (b : Bool). if b then overslept s t th.held k p else nothing s) (sym waits)

pub early_rests : (s : State) (t m : ℕ) (p : Whole) → (s.threads t).stage ≡ Calling (OnMutex (call.TimedLock m)) p → None ≡ expired p → happens s (Expire t) ≡ nothing s
early_rests s t m p is none = go (has_thread s t)
  where
    early : (b : Bool) → None ≡ (if b then Some (timed_out p) else None) → b ≡ false
    early true e = absurd cc
    early false e = refl

    go : (b : Bool) → (if b then machine.expired s t (s.threads t).held (s.threads t).stage else nothing s) ≡ nothing s
    go true =
        ap (machine.expired s t (s.threads t).held) is
        ∙ ap (λ (b : Bool). if b && sleeps s t (Calling (OnMutex (call.TimedLock m)) p) then lapsed s t (s.threads t).held (OnMutex (call.TimedLock m)) p else nothing s) (early (may_expire p.phase) none)
    go false = refl

-- a lock that may be out of time, and whose thread was asked to leave its queue
module _ (l : Layout') (ws : List ℕ) (kernel after : Kernel') (ts : List Thread) (k t m : ℕ) (p q : Whole) (th : Thread) (first : 1 ≤ t) (known : t ≤ l.threads) (at : k + 1 ≡ t) (len : length ts ≡ l.threads)
    (e : thread_at ts t ≡ th) (is : th.stage ≡ Calling (OnMutex (call.TimedLock m)) p) (may : Some q ≡ expired p) (in_call : SleepsInItsCall (state_at l ws kernel ts) t) where
  abbrev was : State
  was = state_at l ws kernel ts

  abbrev lapses : After
  lapses = lapsed was t th.held (OnMutex (call.TimedLock m)) p

  so : (b : Bool) → Some q ≡ (if b then Some (timed_out p) else None) → (b ≡ true) × (q ≡ timed_out p)
  so true x = (refl, cc)
  so false x = absurd cc

  ran : (b : Bool) → Leaves kernel after t b → happens was (Expire t) ≡ (if b then lapses else nothing was)
  ran b left =
      let there : has_thread was t ≡ true = grind (arith, nat_tests) in
      ap (λ (x : Bool). if x then machine.expired was t (thread_at ts t).held (thread_at ts t).stage else nothing was) there
      ∙ ap (λ (z : Thread). machine.expired was t z.held z.stage) e
      ∙ ap (machine.expired was t th.held) is
      ∙ ap (λ (x : Bool). if x && sleeps was t (Calling (OnMutex (call.TimedLock m)) p) then lapses else nothing was) (so (may_expire p.phase) may).0
      ∙ ap (λ (x : Bool). if x then lapses else nothing was)
      (sym (ap (sleeps was t) (ap (λ (z : Thread). z.stage) e ∙ is)) ∙ sym (told_asleep was kernel t (λ key. refl) in_call b left.answer))

  -- whoever stood in no queue stays
  module _ (left : Leaves kernel after t false) where
    same : (key : ℕ) → queue_of after key ≡ queue_of kernel key
    same key = left.queues key ∙ without_same t (queue_of kernel key) (outside t (queue_of kernel key) (left.answer key))

    pub stayed_state : state_at l ws after ts ≡ (happens was (Expire t)).state
    stayed_state = (λ i. record was { queues = fun_ext same i }) ∙ sym (ap (λ (a : After). a.state) (ran false left))

    pub stayed_note : (nothing was).note ≡ (happens was (Expire t)).note
    stayed_note = sym (ap (λ (a : After). a.note) (ran false left))

  -- whoever was in one is out of time
  module _ (left : Leaves kernel after t true) where
    pub lapsed_state : state_at l ws after (slice_set ts k (record { stage = Calling (OnMutex (call.TimedLock m)) q; held = th.held })) ≡ (happens was (Expire t)).state
    lapsed_state =
        let threads : thread_at (slice_set ts k (record { stage = Calling (OnMutex (call.TimedLock m)) q; held = th.held })) ≡ put (thread_at ts) t (record { stage = Calling (OnMutex (call.TimedLock m)) (timed_out p); held = th.held }) =
        threads-set ts k t (record { stage = Calling (OnMutex (call.TimedLock m)) q; held = th.held }) at (omega arith) ∙ (λ i. put (thread_at ts) t (record { stage = Calling (OnMutex (call.TimedLock m)) ((so (may_expire p.phase) may).1 i); held = th.held })) in
        (λ i. record was { queues = fun_ext left.queues i; threads = threads i }) ∙ sym (ap (λ (a : After). a.state) (ran true left))

    pub lapsed_note : Expired t (Mutex m) ≡ (happens was (Expire t)).note
    lapsed_note = sym (ap (λ (a : After). a.note) (ran true left))

-- a call that is put out of time is a wait with a limit
pub some_late : (c late : CondCall) → Some late ≡ condition.expired c → (k : ℕ) × (x : Limit) × (c ≡ cond_call.TimedWait k x) × (late ≡ cond_call.TimedWait k Past)
some_late (cond_call.Wait k) late e = absurd cc
some_late (cond_call.TimedWait k x) late e = (k, x, refl, cc)
some_late (cond_call.Signal k) late e = absurd cc
some_late (cond_call.Broadcast k) late e = absurd cc

-- a wait whose thread sleeps on the condition variable, and left the queue
module _ (l : Layout') (ws : List ℕ) (kernel after : Kernel') (ts : List Thread) (k t cond : ℕ) (x : Limit) (p : Whole) (th : Thread) (first : 1 ≤ t) (known : t ≤ l.threads) (at : k + 1 ≡ t) (len : length ts ≡ l.threads)
    (e : thread_at ts t ≡ th) (is : th.stage ≡ Calling (OnCondition (cond_call.TimedWait cond x)) p) (b : Bool) (left : Leaves kernel after t b) (waits : true ≡ waits_on (state_at l ws kernel ts) t cond) where
  abbrev asleep : State
  asleep = state_at l ws kernel ts

  there : has_thread asleep t ≡ true
  there = grind (arith, nat_tests)

  expires_so : happens asleep (Expire t) ≡ overslept asleep t th.held cond p
  expires_so = overslept_is asleep t cond x p th there e is waits

  pub overslept_state : state_at l ws after (slice_set ts k (record { stage = Calling (OnCondition (cond_call.TimedWait cond Past)) p; held = th.held })) ≡ (happens asleep (Expire t)).state
  overslept_state =
      let threads : thread_at (slice_set ts k (record { stage = Calling (OnCondition (cond_call.TimedWait cond Past)) p; held = th.held })) ≡ put (thread_at ts) t (record { stage = Calling (OnCondition (cond_call.TimedWait cond Past)) p; held = th.held }) =
      threads-set ts k t (record { stage = Calling (OnCondition (cond_call.TimedWait cond Past)) p; held = th.held }) at (omega arith) in
      (λ i. record asleep { queues = fun_ext left.queues i; threads = threads i }) ∙ sym (ap (λ (a : After). a.state) expires_so)

  pub overslept_note : Expired t (Condition cond) ≡ (happens asleep (Expire t)).note
  overslept_note = sym (ap (λ (a : After). a.note) expires_so)
