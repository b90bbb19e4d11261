-- A wait with a time limit returns ETIMEDOUT only where its limit came, and OK only where it didn't.
use Rattle.std.proofs.Common.{◌≡◌, ◌≢◌, ⊎_elim, ℕ, ◌≤◌, ◌==◌, Bool, true, false, not, Option, Some, None, Ok, Err, List, [], ◌∷◌, refl, sym, ap, ◌∙◌, subst, arith, eq-eqb}
use Rattle.protocol.proofs.Vocabulary.{Answer, answer_of, Reply, OK, XHELD, Return, facts_of, Call, CondCall, Limit, Past, Ahead, CondWhole, CondPhase, Phase, Whole, Fields, Op, OnMutex, OnCondition, Stage, Idle, Calling, AtCondition, Thread}
use Rattle.protocol.proofs.Vocabulary.{State, After, Event, Begun, Operation, Joins, begun, begun_of, first_stage, happens, nothing, notes, run, start, stepped, stage_after, stage_at, returned, returned_at, mutex_of, overslept, may_begin}
use Rattle.protocol.proofs.Vocabulary.{whole_access, whole_led, cond_access, cond_led, put, if◌then◌else◌, nat_tests}
use Rattle.lockword.specs.declared.reply.Reply.TheVariants.{ETIMEDOUT}
use Rattle.condvar.specs.Calls.{is_ahead, reply_of}
use Rattle.condvar.specs.Whole as condition
use Rattle.mutex.specs.Calls as mutex
use Rattle.protocol.specs.Applies.{IsTold}
use Rattle.protocol.specs.Machine.{Led, has_thread}
use Rattle.protocol.specs.Sleepers.{IsAmong}
use Rattle.protocol.specs.TimeLimits.{late_next, late_after, LateWaitsTimeOut}
use Rattle.protocol.proofs.Puts.{by_put, put-same}
use Rattle.protocol.proofs.Phases.{decided_at}
use Rattle.protocol.proofs.Arrivals.{ended_or_not}
use Rattle.protocol.proofs.Cases.{by_same}
use Rattle.protocol.proofs.Kept.{Kept, AtPhase}
use Rattle.protocol.proofs.Steps.{met_no_move, answer-is, onto}
use Rattle.protocol.proofs.CallSteps.{CallStep}
use Rattle.protocol.proofs.Accesses.{goes, fits_in}
use Rattle.protocol.proofs.CondAccesses.{fits_at}
use Rattle.protocol.proofs.Declines.{spared_is}
use Rattle.protocol.proofs.Sparing.{spare_is, next_of}
use Rattle.protocol.proofs.Events.{begins_at, by_event, by_stage, first_is, may_so, HowSpared, Of_unlock, Of_wait}
use Rattle.protocol.proofs.Renewals.{renewed_thread, renewed_other}
use Rattle.protocol.proofs.Emptied.{returned_noted}
use Rattle.protocol.proofs.Lives.{timed_is, timely}
use Rattle.protocol.proofs.CallsTold.{told_run}
use Rattle.protocol.proofs.WalkSteps.{by_walked}
use Rattle.protocol.proofs.Emptied.{no_return_walked}
use Rattle.condvar.specs.Ops.{may_call}
use Rattle.protocol.proofs.Events.{at_rest}
use Rattle.mutex.specs.declared.phase.Phase.TheVariants.{Ended}
use Rattle.protocol.proofs.Vocabulary.{Clearing, renewed}
use Rattle.std.specs.Prelude.{Result}
use Rattle.protocol.proofs.Runs.{sound, start_kept, run_kept}

-- ---- where a thread stands, and whether its wait is late

abbrev InTime : Phase → Type 0
InTime f = decided_at f ≢ Some ETIMEDOUT

-- a wait in the lock that ends it is late exactly where its limit is past, and that lock has no limit; before that none is
abbrev IsLateAt : Stage → Bool → Type 0
IsLateAt (Calling (OnCondition c) p) late = (is_ahead c ≡ not late) × InTime p.phase
IsLateAt (AtCondition c p) late = (is_ahead c ≡ true) × (late ≡ false)
IsLateAt g late = Unit {0}

-- ---- an access of the lock

joined_in_time : (d x y : Option Reply) → Joins d x y → d ≢ Some ETIMEDOUT → x ≢ Some ETIMEDOUT → y ≢ Some ETIMEDOUT
joined_in_time d x y joins before now = grind (arith)

module _ (s : State) (t : ℕ) (o : Op) (p : Whole) (inv : Kept s) (pos : 1 ≤ t) (known : t ≤ s.layout.threads) (is : (s.threads t).stage ≡ Calling o p) where
  abbrev then_phase : Phase
  then_phase = (whole_led p (answer_of s t (whole_access p))).phase

  then_in_time : InTime p.phase → InTime then_phase
  then_in_time before =
      let g : CallStep s t o p = goes s t o p inv pos known is in
      let valid = met_no_move s.layout t (whole_access p) g.no_move ∙ g.valid in
      subst (λ (a : Answer). InTime (whole_led p a).phase) (sym (answer-is s t (whole_access p) valid))
      (joined_in_time (decided_at p.phase) (onto s t p).point (decided_at (onto s t p).phase) g.moves.joins before
      (timely _ _ t p.operation (onto s t p).point (timed_is s.layout o p.operation (fits_in s t o p inv pos known is).1) g.tells))

-- it goes on, or ends
late_there : (o : Op) (p : Whole) (f : Phase) (late : Bool) → IsLateAt (Calling o p) late → (InTime p.phase → InTime f) → IsLateAt (Calling o (record p { phase = f })) late
late_there (OnMutex c) p f late h on = tt
late_there (OnCondition c) p f late h on = (h.0, on h.1)

late_call : (o : Op) (p : Whole) (f : Phase) (late : Bool) → IsLateAt (Calling o p) late → (InTime p.phase → InTime f) → IsLateAt (stage_after o p f) late
late_call o p f late h on =
    ⊎_elim (λ ended. subst (λ (y : Phase). IsLateAt (stage_after o p y) late) (sym ended.1) tt)
    (λ further. subst (λ (g : Stage). IsLateAt g late) (sym (further o p)) (late_there o p f late h on))
    (ended_or_not f)

-- ---- an access before that

-- the lock begins undecided
fresh_lock : (t held : ℕ) (op : Operation) (p : CondWhole) (f : CondPhase) (z : Fields) (a : Answer) (w : Whole) → AtPhase t held op p f z → (condition.phase_led p f a).phase ≡ CondPhase.Locking w → InTime w.phase
fresh_lock t held op p f z a w stands e = grind (arith)

-- and no other reply is ETIMEDOUT
cond_timely : (t held : ℕ) (op : Operation) (p : CondWhole) (f : CondPhase) (z : Fields) (a : Answer) (x : Reply) → AtPhase t held op p f z → returned_at (condition.phase_led p f a).phase ≡ Some x → x ≢ ETIMEDOUT
cond_timely t held op p f z a x stands e = grind (arith)

late_at : (c : CondCall) (p : CondWhole) (f : CondPhase) (late : Bool) → IsLateAt (AtCondition c p) late → ((w : Whole) → f ≡ CondPhase.Locking w → InTime w.phase) → IsLateAt (stage_at c p f) late
late_at c p (CondPhase.Ended x) late h fresh = tt
late_at c p (CondPhase.Locking w) late h fresh = (h.0 ∙ sym (ap not h.1), fresh w refl)
late_at c p (CondPhase.AtWords r) late h fresh = h
late_at c p (CondPhase.Announcing seen) late h fresh = h
late_at c p (CondPhase.Unlinking u seen) late h fresh = h

-- ---- events

module _ (s : State) (t : ℕ) (late : Bool) (h : IsLateAt (s.threads t).stage late) where
  abbrev Stays : After → Type 0
  Stays a = IsLateAt (a.state.threads t).stage (late_next t late a.note)

  -- thread u comes to stand elsewhere, and no limit is recorded
  changes : (u : ℕ) (z : Thread) → (IsLateAt (s.threads u).stage late → IsLateAt z.stage late) → IsLateAt (put s.threads u z t).stage late
  changes u z on = by_put (λ (y : Thread). IsLateAt y.stage late) s.threads u z t (λ is. on (subst (λ (v : ℕ). IsLateAt (s.threads v).stage late) is h)) (λ apart. h)

  from_stage : (u : ℕ) (g : Stage) (z : Thread) → (s.threads u).stage ≡ g → (IsLateAt g late → IsLateAt z.stage late) → IsLateAt (put s.threads u z t).stage late
  from_stage u g z is on = changes u z (λ was. on (subst (λ (y : Stage). IsLateAt y late) is was))

  -- by a test on whose event it is
  by_whose : (u : ℕ) (b : Bool) (g : Stage) → (t ≡ u → IsLateAt g b) → (t ≢ u → IsLateAt g late) → IsLateAt g (if u == t then b else late)
  by_whose u b g mine theirs =
      by_same u t
      (λ same. subst (λ (x : Bool). IsLateAt g (if x then b else late)) (sym (eq-eqb u t same)) (mine (sym same)))
      (λ apart. go (u == t) refl apart)
    where
      go : (x : Bool) → (u == t) ≡ x → u ≢ t → IsLateAt g (if x then b else late)
      go false e apart = theirs (λ same. apart (sym same))
      go true e apart = absurd (apart (grind (arith, nat_tests)))

  begins : (u : ℕ) (o : Op) → Stays (happens s (Event.Begin u o))
  begins u o = go (may_begin s u o) refl
    where
      may_here : may_begin s u o ≡ true → may_call s.layout o ≡ true
      may_here may = grind (arith, nat_tests)

      idle_here : may_begin s u o ≡ true → (s.threads u).stage ≡ Idle
      idle_here may = at_rest (s.threads u).stage (grind (arith, nat_tests))

      at_first : (l : Op) → may_call s.layout l ≡ true → IsLateAt (begins_at s.layout u l) false
      at_first (OnMutex c) may = tt
      at_first (OnCondition c) may = ((may_so s.layout (OnCondition c) may).1, refl)

      begun_so : may_begin s u o ≡ true → (b : Bool) → Stays (begun s u o (if b then Err XHELD else Ok (begins_at s.layout u o)))
      begun_so may true =
          by_whose u false (s.threads t).stage
          (λ same. subst (λ (v : ℕ). IsLateAt (s.threads v).stage false) (sym same) (subst (λ (g : Stage). IsLateAt g false) (sym (idle_here may)) tt))
          (λ apart. h)
      begun_so may false =
          by_whose u false (put s.threads u (record (s.threads u) { stage = begins_at s.layout u o }) t).stage
          (λ same. subst (λ (v : ℕ). IsLateAt (put s.threads u (record (s.threads u) { stage = begins_at s.layout u o }) v).stage false) (sym same)
          (subst (λ (z : Thread). IsLateAt z.stage false) (sym (put-same s.threads u _)) (at_first o (may_here may))))
          (λ apart. by_put (λ (y : Thread). IsLateAt y.stage late) s.threads u _ t (λ same. absurd (apart same)) (λ other. h))

      go : (b : Bool) → may_begin s u o ≡ b → Stays (if b then begun s u o (first_stage s.layout u (s.threads u).held o) else nothing s)
      go false e = h
      go true may = subst (λ (r : Result Stage Reply). Stays (begun s u o r)) (sym (first_is s.layout u (s.threads u).held o)) (begun_so may _)

  -- a wait's limit comes
  oversleeps : (u k : ℕ) (x : Limit) (p : Whole) → (s.threads u).stage ≡ Calling (OnCondition (CondCall.TimedWait k x)) p → Stays (overslept s u (s.threads u).held k p)
  oversleeps u k x p is =
      by_whose u true (put s.threads u late_thread t).stage
      (λ same. subst (λ (v : ℕ). IsLateAt (put s.threads u late_thread v).stage true) (sym same)
      (subst (λ (z : Thread). IsLateAt z.stage true) (sym (put-same s.threads u late_thread)) (refl, (subst (λ (g : Stage). IsLateAt g late) is (subst (λ (v : ℕ). IsLateAt (s.threads v).stage late) same h)).1)))
      (λ apart. by_put (λ (y : Thread). IsLateAt y.stage late) s.threads u late_thread t (λ same. absurd (apart same)) (λ other. h))
    where
      late_thread : Thread
      late_thread = record { stage = Calling (OnCondition (CondCall.TimedWait k Past)) p; held = (s.threads u).held }

  -- an unlock trims, or wakes one, and then is through
  unlocks_on : (o : Op) (p : Whole) → IsLateAt (Calling o p) late → IsLateAt (Calling o (record p { phase = Clearing OK })) late
  unlocks_on (OnMutex c) p was = tt
  unlocks_on (OnCondition c) p was = (was.0, (λ e. cc e))

  spares : (u m : ℕ) (g : Led) (how : HowSpared s u m g) → IsLateAt (s.threads u).stage late → IsLateAt (next_of s u m g how) late
  spares u m g (Of_unlock o p is mutex at leads) was = unlocks_on o p (subst (λ (y : Stage). IsLateAt y late) is was)
  spares u m g (Of_wait c p seen is mutex at leads) was = subst (λ (y : Stage). IsLateAt y late) is was

  abbrev IsNoBegin : Event → Type 0
  IsNoBegin (Event.Begin u o) = ⊥
  IsNoBegin e = Unit {0}

  others : (e : Event) → Kept s → IsNoBegin e → Stays (happens s e)
  others e inv =
      by_event s (λ (x : Event) (a : After). IsNoBegin x → Stays a)
      (λ x other. h)
      (λ u o pos known inside idle b full other. absurd other)
      (λ u pos known other.
      by_stage s u Stays (λ rests. h)
      (λ o p is awake. from_stage u (Calling o p) _ is (λ was. late_call o p (then_phase s u o p inv pos known is) late was (then_in_time s u o p inv pos known is)))
      (λ c p is awake. from_stage u (AtCondition c p) _ is
      (λ was. late_at c p (cond_led p (answer_of s u (cond_access p))).phase late was (λ w e. fresh_lock u (s.threads u).held _ p p.phase _ _ w (fits_at s u c p inv pos known is).stands e)))
      (λ w is awake. changes u _ (λ was. by_walked (λ (g : Stage). IsLateAt g late) w _ (λ ended. tt) (λ going. tt))))
      (λ u pos known alive other. changes u _ (λ was. tt))
      (λ u pos known asleep other. h)
      (λ u m p pos known is asleep may other. changes u _ (λ was. tt))
      (λ u k x p pos known is there other. oversleeps u k x p is)
      (λ u o p pos known is awake trims other. subst Stays (sym (spared_is s u o p is trims inv pos known)) (from_stage u (Calling o p) _ is (unlocks_on o p)))
      (λ u pos known gone other. renewed_on u pos known)
      (λ u m may other. h)
      (λ u m g sp other. subst Stays (sym (spare_is s u m g sp inv)) (changes u _ (spares u m g sp.how)))
      e
    where
      renewed_on : (u : ℕ) → 1 ≤ u → u ≤ s.layout.threads → IsLateAt ((renewed s u).state.threads t).stage late
      renewed_on u pos known =
          by_same u t
          (λ same. subst (λ (v : ℕ). IsLateAt ((renewed s u).state.threads v).stage late) same (subst (λ (z : Thread). IsLateAt z.stage late) (sym (renewed_thread s u pos known)) tt))
          (λ apart. subst (λ (z : Thread). IsLateAt z.stage late) (sym (renewed_other s u pos known t (λ e. apart (sym e)))) h)

  late_on : (e : Event) → Kept s → Stays (happens s e)
  late_on (Event.Begin u o) inv = begins u o
  late_on (Event.Step u) inv = others (Event.Step u) inv tt
  late_on (Event.Kill u) inv = others (Event.Kill u) inv tt
  late_on (Event.Leave u) inv = others (Event.Leave u) inv tt
  late_on (Event.Expire u) inv = others (Event.Expire u) inv tt
  late_on (Event.Decline u) inv = others (Event.Decline u) inv tt
  late_on (Event.Renew u) inv = others (Event.Renew u) inv tt
  late_on (Event.Remake u m) inv = others (Event.Remake u m) inv tt
  late_on (Event.Spare u by) inv = others (Event.Spare u by) inv tt

-- ---- runs

late_run : (s : State) (es : List Event) (t : ℕ) (late : Bool) → Kept s → IsLateAt (s.threads t).stage late → IsLateAt ((run s es).threads t).stage (late_after t late (notes s es))
late_run s [] t late inv h = h
late_run s (e ∷ es) t late inv h = late_run (happens s e).state es t (late_next t late (happens s e).note) (sound s e inv).kept (late_on s t late h e inv)

-- ---- what it returns

-- one that is late doesn't return OK
late_no_ok : (k : ℕ) (y : Reply) → reply_of (CondCall.TimedWait k Past) y ≡ OK → ⊥
late_no_ok k OK e = cc e
late_no_ok k y e = cc e

turned : (late : Bool) → false ≡ not late → late ≡ true
turned true e = refl
turned false e = absurd (cc e)

turned_back : (late : Bool) → true ≡ not late → late ≡ false
turned_back false e = refl
turned_back true e = absurd (cc e)

replies_so : (c : CondCall) (y : Reply) (late : Bool) → is_ahead c ≡ not late → y ≢ ETIMEDOUT → (reply_of c y ≡ ETIMEDOUT → late ≡ true) × (reply_of c y ≡ OK → late ≡ false)
replies_so (CondCall.TimedWait k Past) y late is timely = ((λ e. turned late is), (λ e. absurd (late_no_ok k y e)))
replies_so (CondCall.TimedWait k Ahead) y late is timely = ((λ e. absurd (timely e)), (λ e. turned_back late is))
replies_so (CondCall.Wait k) y late is timely = ((λ e. absurd (timely e)), (λ e. turned_back late is))
replies_so (CondCall.Signal k) y late is timely = ((λ e. absurd (timely e)), (λ e. turned_back late is))
replies_so (CondCall.Broadcast k) y late is timely = ((λ e. absurd (timely e)), (λ e. turned_back late is))

-- no lock of a mutex is recorded as a wait
no_wait : (c : Call) → mutex.operation_of c ≢ Operation.TimedWait
no_wait (Call.Lock m) e = cc e
no_wait (Call.TimedLock m) e = cc e
no_wait (Call.TryLock m) e = cc e
no_wait (Call.Unlock m) e = cc e
no_wait (Call.Consistent m) e = cc e

module _ (s : State) (t : ℕ) (late : Bool) (inv : Kept s) (h : IsLateAt (s.threads t).stage late) (b : Begun) (told : IsTold s.layout (s.threads t).stage (Some b)) (waits : b.operation ≡ Operation.TimedWait) (x : Reply) where
  abbrev Replies : After → Type 0
  Replies a = IsAmong (Return t x) (facts_of a.note) → (x ≡ ETIMEDOUT → late ≡ true) × (x ≡ OK → late ≡ false)

  same_call : (d : Begun) → Some b ≡ Some d → b ≡ d
  same_call d e = cc e

  of_lock : (o : Op) (p : Whole) (f : Phase) → (s.threads t).stage ≡ Calling o p → (InTime p.phase → InTime f) → returned o f ≡ Some x → (x ≡ ETIMEDOUT → late ≡ true) × (x ≡ OK → late ≡ false)
  of_lock (OnMutex c) p f is on back =
      let same = same_call (begun_of s.layout (OnMutex c)) (subst (λ (g : Stage). IsTold s.layout g (Some b)) is told) in
      absurd (no_wait c (sym (ap (λ (d : Begun). d.operation) same) ∙ waits))
  of_lock (OnCondition c) p f is on back =
      let here = subst (λ (g : Stage). IsLateAt g late) is h in
      go f (on here.1) back here.0
    where
      go : (y : Phase) → InTime y → returned (OnCondition c) y ≡ Some x → is_ahead c ≡ not late → (x ≡ ETIMEDOUT → late ≡ true) × (x ≡ OK → late ≡ false)
      go (Ended z) timely_there e ahead =
          let same : reply_of c z ≡ x = some_is (reply_of c z) x e in
          let so = replies_so c z late ahead (λ (out : z ≡ ETIMEDOUT). timely_there (ap Some out)) in
          ((λ out. so.0 (same ∙ out)), (λ ok. so.1 (same ∙ ok)))
        where
          some_is : (a d : Reply) → Some a ≡ Some d → a ≡ d
          some_is a d eq = cc eq
      go y timely_there e ahead = absurd (cc e)

  step_replies : 1 ≤ t → t ≤ s.layout.threads → Replies (stepped s t (s.threads t).held (s.threads t).stage)
  step_replies pos known =
      by_stage s t Replies (λ rests among. absurd among)
      (λ o p is awake among. of_lock o p (then_phase s t o p inv pos known is) is (then_in_time s t o p inv pos known is) (returned_noted t t (mutex_of s.layout o) x _ _ _ _ _ among))
      (λ c p is awake among.
      let back = returned_noted t t (mutex_of s.layout (OnCondition c)) x _ _ _ _ _ among in
      let here = subst (λ (g : Stage). IsLateAt g late) is h in
      ((λ out. absurd (cond_timely t (s.threads t).held _ p p.phase _ _ x (fits_at s t c p inv pos known is).stands back out)), (λ ok. here.1)))
      (λ w is awake among. absurd (no_return_walked t t x _ _ _ among))

  replies : Replies (happens s (Event.Step t))
  replies = go (has_thread s t) refl
    where
      go : (there : Bool) → has_thread s t ≡ there → Replies (if there then stepped s t (s.threads t).held (s.threads t).stage else nothing s)
      go true there = step_replies (grind (arith, nat_tests)) (grind (arith, nat_tests))
      go false e = λ among. absurd among

pub late : LateWaitsTimeOut
late l counters events is t b x told waits =
    let inv = start_kept l counters is in
    let s : State = run (start l counters) events in
    replies s t (late_after t false (notes (start l counters) events)) (run_kept (start l counters) events inv)
    (late_run (start l counters) events t false inv tt) b
    (subst (IsTold s.layout (s.threads t).stage) told (told_run (start l counters) events t None tt)) waits x
