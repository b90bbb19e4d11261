-- What an expiry does, and what is left of its call.
use Rattle.std.proofs.Common.{◌≡◌, inl, inr, ℕ, ◌+◌, ◌≤◌, Bool, true, false, [], ◌∷◌, refl, sym, ap, ◌∙◌, subst, arith}
use Rattle.protocol.proofs.Vocabulary.{Call, Layout', OnMutex, State, After, Thread, Calling, Clearing, Step, facts_of, run, start, happens, nothing, went, stepped, sleeps, is_asleep, is_met, led, whole_led, whole_access}
use Rattle.protocol.proofs.Vocabulary.{Whole, Op, Mutex, mutex_of, lapsed, answer_of, place_met, head_place, place_in, address_sum, put, if◌then◌else◌}
use Rattle.lockword.specs.declared.reply.Reply.TheVariants.{ETIMEDOUT}
use Rattle.posixmutex.specs.declared.point.Operation.TheVariants.{TimedLock}
use Rattle.facts.specs.declared.fact.Fact.TheVariants.{Point, Return, Wake}
use Rattle.mutex.specs.Whole.{may_expire}
use Rattle.mutex.proofs.Addresses.{head_word_again}
use Rattle.protocol.specs.Expiries.{OnlyExpires, OnlyReturns, ReturnsNext, LockExpiresSo, WaitExpiresSo, ExpiresSo, ExpiriesAreLone}
use Rattle.protocol.proofs.Puts.{put-same, put-other}
use Rattle.protocol.proofs.Cases.{by_same}
use Rattle.protocol.proofs.Kept.{Kept}
use Rattle.protocol.proofs.Places.{mine_is_valid}
use Rattle.protocol.proofs.Steps.{after, call_note, call_step, unmoved, went-is}
use Rattle.protocol.proofs.Accesses.{fits_in}
use Rattle.protocol.proofs.Stepping.{SleepsAs}
use Rattle.protocol.proofs.Queues.{without_gone}
use Rattle.protocol.proofs.Queued.{Queued, asleep_there}
use Rattle.protocol.proofs.Departures.{asleep_where}
use Rattle.protocol.proofs.Events.{is_known}
use Rattle.protocol.proofs.Oversleeping.{oversleep_goes}
use Rattle.protocol.proofs.Vocabulary.{CondCall, OnCondition, Past}
use Rattle.protocol.proofs.Expiring.{expires_at, lapse_goes, lapse_kept, lapse_queued, loads_next}
use Rattle.protocol.proofs.QueueRuns.{run_queued}
use Rattle.protocol.proofs.Runs.{run_kept, run_layout, start_kept}
use Rattle.condvar.specs.declared.call.Limit.TheVariants.{Ahead}
use Rattle.condvar.specs.Ops.{reply_of}
use Rattle.lockword.specs.declared.reply.Reply.{Reply}

-- whoever is out of time in a lock returns so, whatever the call
out_of_time : (o : Op) → reply_of o ETIMEDOUT ≡ ETIMEDOUT
out_of_time (OnMutex c) = refl
out_of_time (OnCondition (CondCall.Wait k)) = refl
out_of_time (OnCondition (CondCall.TimedWait k Past)) = refl
out_of_time (OnCondition (CondCall.TimedWait k Ahead)) = refl
out_of_time (OnCondition (CondCall.Signal k)) = refl
out_of_time (OnCondition (CondCall.Broadcast k)) = refl

-- a call that is about to clear its pending entry
module _ (s : State) (t : ℕ) (o : Op) (p : Whole) (inv : Kept s) (queued : Queued s) (pos : 1 ≤ t) (known : t ≤ s.layout.threads) (is : (s.threads t).stage ≡ Calling o (record p { phase = Clearing ETIMEDOUT })) where
  abbrev q : Whole
  q = record p { phase = Clearing ETIMEDOUT }

  -- it is awake
  awake : is_asleep s t ≡ false
  awake = go (is_asleep s t) refl
    where
      go : (b : Bool) → is_asleep s t ≡ b → is_asleep s t ≡ false
      go false e = e
      go true e =
          let there = asleep_where s t e in
          let slept : SleepsAs s.layout there.0 (Calling o q) = subst (SleepsAs s.layout there.0) is (queued.sleeps there.0 t there.1).2 in
          absurd (cc slept.0)

  -- its store meets its thread's pending entry
  meets : place_met s.layout t (whole_access q) ≡ head_place t + 2
  meets = ap (λ (h : ℕ). place_in s.layout t (address_sum h 2)) (fits_in s t o q inv pos known is).0.head ∙ head_word_again s.layout t inv.layout pos known 2 (omega arith)

  valid : is_met s.layout t (whole_access q) ≡ true
  valid = mine_is_valid s t (place_met s.layout t (whole_access q)) pos known (inr (inl meets))

  steps : happens s (Step t) ≡ record { state = after s t (call_step s t o q); note = call_note s t o q }
  steps =
      ap (λ (b : Bool). if b then stepped s t (s.threads t).held (s.threads t).stage else nothing s) (is_known s t pos known)
      ∙ ap (stepped s t (s.threads t).held) is
      ∙ ap (λ (b : Bool). if b then nothing s else went s t (s.threads t).held (mutex_of s.layout o) (Mutex (mutex_of s.layout o)) (whole_access q) (led o q (whole_led q (answer_of s t (whole_access q))))) (sym (ap (sleeps s t) is) ∙ awake)
      ∙ went-is s t (mutex_of s.layout o) (Mutex (mutex_of s.layout o)) (Calling o q) (whole_access q) (λ a. led o q (whole_led q a)) valid

  queue_stays : (key : ℕ) → put s.queues (place_met s.layout t (whole_access q)) (s.queues (place_met s.layout t (whole_access q))) key ≡ s.queues key
  queue_stays key =
      by_same key (place_met s.layout t (whole_access q))
      (λ same. ap (put s.queues (place_met s.layout t (whole_access q)) (s.queues (place_met s.layout t (whole_access q)))) same ∙ put-same s.queues (place_met s.layout t (whole_access q)) _ ∙ ap s.queues (sym same))
      (λ apart. put-other s.queues (place_met s.layout t (whole_access q)) _ key apart)

  returns_next : ReturnsNext s t
  returns_next =
      subst (λ (a : After). OnlyReturns s a.state t × (facts_of a.note ≡ Return t ETIMEDOUT ∷ [])) (sym steps) (
        record {
          pending = ap (λ (x : ℕ). put s.words (place_met s.layout t (whole_access q)) 0 x) (sym meets) ∙ put-same s.words (place_met s.layout t (whole_access q)) 0;
          words = λ x apart. put-other s.words (place_met s.layout t (whole_access q)) 0 x (λ at. apart (at ∙ meets));
          queues = queue_stays;
          ended = ap (λ (z : Thread). z.stage) (put-same s.threads t _);
          held = ap (λ (z : Thread). z.held) (put-same s.threads t _) ∙ unmoved p.operation (s.threads t).held;
          others = λ u apart. put-other s.threads t _ u apart;
        },
        ap (λ (y : Reply). Return t y ∷ []) (out_of_time o),
      )

-- an expiry
module _ (s : State) (t : ℕ) (inv : Kept s) (queued : Queued s) (pos : 1 ≤ t) (known : t ≤ s.layout.threads) where
  behind : (m : ℕ) (p : Whole) → (s.threads t).stage ≡ Calling (OnMutex (Call.TimedLock m)) p → is_asleep s t ≡ true → may_expire p.phase ≡ true → ReturnsNext (lapsed s t (s.threads t).held (OnMutex (Call.TimedLock m)) p).state t
  behind m p is asleep may =
      let e = expires_at p.phase may in
      returns_next (lapsed s t (s.threads t).held (OnMutex (Call.TimedLock m)) p).state t (OnMutex (Call.TimedLock m)) p (lapse_kept s t (OnMutex (Call.TimedLock m)) p is e.0 e.1 inv pos known)
      (lapse_queued s t (OnMutex (Call.TimedLock m)) p is e.0 e.1 queued asleep) pos known (ap (λ (z : Thread). z.stage) (put-same s.threads t _))

  lock_expires : LockExpiresSo s t
  lock_expires m there (p, is) =
      let asleep = asleep_there s t there.0 queued there.1 in
      let may : may_expire p.phase ≡ true = ap may_expire (loads_next s t (OnMutex (Call.TimedLock m)) p queued is asleep) in
      subst (λ (a : After). OnlyExpires s a.state t × (facts_of a.note ≡ Wake t ∷ Point (record { thread = t; mutex = m; operation = TimedLock; reply = ETIMEDOUT }) ∷ []) × ReturnsNext a.state t)
      (sym (lapse_goes s t m p pos known is asleep may)) (
        record {
          words = λ x. refl;
          mutexes = λ k. refl;
          held = ap (λ (z : Thread). z.held) (put-same s.threads t _);
          others = λ u apart. put-other s.threads t _ u apart;
          queues = λ key. refl;
          gone = λ key. without_gone t (s.queues key);
        },
        refl,
        behind m p is asleep may,
      )

  wait_expires : WaitExpiresSo s t
  wait_expires k x p there is =
      subst (λ (a : After). OnlyExpires s a.state t × (facts_of a.note ≡ Wake t ∷ []) × ((a.state.threads t).stage ≡ Calling (OnCondition (CondCall.TimedWait k Past)) p))
      (sym (oversleep_goes s t k x p pos known is there)) (
        record {
          words = λ y. refl;
          mutexes = λ m. refl;
          held = ap (λ (z : Thread). z.held) (put-same s.threads t _);
          others = λ u apart. put-other s.threads t _ u apart;
          queues = λ key. refl;
          gone = λ key. without_gone t (s.queues key);
        },
        refl,
        ap (λ (z : Thread). z.stage) (put-same s.threads t _),
      )

  expires_so : ExpiresSo s t
  expires_so = (lock_expires, wait_expires)

pub lone_expiries : ExpiriesAreLone
lone_expiries l counters events is t pos known =
    expires_so (run (start l counters) events) t (run_kept (start l counters) events (start_kept l counters is)) (run_queued l counters events is) pos
    (subst (λ (k : Layout'). t ≤ k.threads) (sym (run_layout (start l counters) events (start_kept l counters is))) known)
