-- Mutexes that are unusable: what a remake does, and that nothing else changes them.
use Rattle.std.proofs.Common.{◌≡◌, ◌≢◌, ◌⊎◌, inl, inr, ℕ, ◌<◌, ◌≤◌, Bool, true, false, Option, Some, None, Ok, Err, List, [], ◌∷◌, refl, sym, ap, ◌∙◌, subst, arith}
use Rattle.protocol.proofs.Vocabulary.{CondCall, CondWhole, cond_access, cond_led, condition_of, Mutex, Condition, Object, Operation, Permits, Layout', cell_place, Fields, Reply, XHELD, whole_access, whole_led, answer_among, Op, OnMutex, OnCondition, mutex_of}
use Rattle.protocol.proofs.Vocabulary.{Event, Calling, AtCondition, State, After, Call, Sleeps, sleepers, stands_in, seen, start, happens, nothing, begun, walked, run, facts_of, is_asleep, sleeps_at, Note, led, led_at, decided_at, if◌then◌else◌, reinited, waiters_of, MayRemake}
use Rattle.condvar.specs.Ops.{operation_of}
use Rattle.condvar.specs.Calls as condition
use Rattle.exitwalk.specs.Standings as walks
use Rattle.protocol.specs.Machine.{may_remake}
use Rattle.protocol.specs.Reinits.{OnlyRemakes, RemakesSo, reinit_told, RemakesForgetNobody, NobodyReinits, UnusableStays, NobodyJoinsAnUnusableMutex}
use Rattle.protocol.proofs.Kept.{Kept, IsFor, AtPhase}
use Rattle.protocol.proofs.Steps.{Transition, Tells, after, went-is, call_step, cond_step, place_of, met}
use Rattle.protocol.proofs.Stepping.{Stepping}
use Rattle.protocol.proofs.CallSteps.{call_stepping}
use Rattle.protocol.proofs.Accesses.{goes, fits_in}
use Rattle.protocol.proofs.CondAccesses.{cond_stepping, fits_at}
use Rattle.protocol.proofs.WalkStepping.{walk_stepping}
use Rattle.protocol.proofs.WalkSteps.{walk_transition, walked-is}
use Rattle.protocol.proofs.Frames.{knows_at}
use Rattle.protocol.proofs.Events.{begins_at, by_event, by_stage, remake_so, remake_again}
use Rattle.protocol.proofs.Working.{by_step, walk_is}
use Rattle.protocol.proofs.Queues.{without_stands}
use Rattle.protocol.proofs.Queued.{Queued, Carried, stood}
use Rattle.protocol.proofs.QueueRuns.{run_queued, queued_on}
use Rattle.protocol.proofs.Runs.{sound, start_kept, run_kept, run_layout}
use Rattle.protocol.proofs.Declines.{spared_is}
use Rattle.protocol.proofs.Renewals.{renewed_seen}
use Rattle.protocol.proofs.Reinits.{waiters_say_nothing, reinited_word, reinited_elsewhere, reinited_seen, reinited_far}
use Rattle.protocol.proofs.Cases.{at_or_else}

-- ---- a remake

remakes : (s : State) (t m : ℕ) → RemakesSo s t m
remakes s t m = record {
  anew = λ may.
      let says = waiters_say_nothing was in
      subst (λ (a : After). OnlyRemakes s a.state m × (facts_of a.note ≡ reinit_told t m)) (sym (ap (λ (b : Bool). if b then reinited s t m (waiters_of was) else nothing s) (remake_again s t m may))) (
        record {
          layout = refl;
          free = reinited_seen s t m (waiters_of was) says may;
          word = reinited_word s t m (waiters_of was) says may;
          words = λ p apart. reinited_elsewhere s t m (waiters_of was) says may p apart;
          mutexes = λ k apart. reinited_far s t m (waiters_of was) says may k apart;
          queues = λ key. refl;
          threads = λ u. refl;
        },
        refl,
      );
  else_nothing = λ never. go never (may_remake s t m) refl;
}
  where
    was : ℕ
    was = s.words (cell_place s.layout m)

    go : ¬ MayRemake s t m → (b : Bool) → may_remake s t m ≡ b → (if b then reinited s t m (waiters_of was) else nothing s) ≡ nothing s
    go never false e = refl
    go never true e = absurd (never (remake_so s t m e))

pub remakes_forget_nobody : RemakesForgetNobody
remakes_forget_nobody l counters events is t m = remakes (run (start l counters) events) t m

-- ---- which operations steps decide

-- no call's
calls_reinit_none : (c : Call) → operation_of (OnMutex c) ≢ Operation.Reinit
calls_reinit_none c = grind (arith)

called_no_reinit : (l : Layout') (o : Op) (op : Operation) → IsFor l o op → op ≢ Operation.Reinit
called_no_reinit l o op is = grind (arith)

cond_no_reinit : (t held : ℕ) (c : CondCall) (p : CondWhole) (z : Fields) (w : ℕ) (q : List ℕ) → AtPhase t held (condition.acts_as c) p p.phase z → decided_at (condition.acts_as c) (cond_led p (answer_among (cond_access p) w q)).point ≢ Operation.Reinit
cond_no_reinit t held c p z w q stands = grind (arith)

-- whatever else is decided leaves it unusable
permits_unusable : (o n : Object) (t : ℕ) (op : Operation) (x : Reply) → op ≢ Operation.Reinit → o.unusable ≡ true → Permits o t op x n → n.unusable ≡ true
permits_unusable o n t op x other lost p = grind (arith)

-- ---- one event

-- it doesn't reinitialise mutex m
abbrev IsOther : ℕ → Event → Type 0
IsOther m (Event.Remake t k) = k ≢ m
IsOther m e = Unit {0}

module _ (s : State) (m : ℕ) (inv : Kept s) (lost : (seen s m).unusable ≡ true) where
  abbrev Stays : After → Type 0
  Stays a = (seen a.state m).unusable ≡ true

  access_stays : (t : ℕ) (v : Transition) → Stepping s t v → v.operation ≢ Operation.Reinit → (seen (after s t v) m).unusable ≡ true
  access_stays t v g other =
      at_or_else (λ (k : ℕ). (seen s k).unusable ≡ true → (seen (after s t v) k).unusable ≡ true) v.mutex m
      (told v.point g.tells)
      (λ apart was. ap (λ (o : Object). o.unusable) (g.far m apart) ∙ was) lost
    where
      told : (x : Option Reply) → Tells t (seen s v.mutex) v.operation x (seen (after s t v) v.mutex) → (seen s v.mutex).unusable ≡ true → (seen (after s t v) v.mutex).unusable ≡ true
      told None same was = ap (λ (o : Object). o.unusable) same ∙ was
      told (Some x) permits was = permits_unusable (seen s v.mutex) (seen (after s t v) v.mutex) t v.operation x other was permits

  stays : (e : Event) → IsOther m e → Stays (happens s e)
  stays e =
      by_event s (λ (x : Event) (a : After). IsOther m x → Stays a)
      (λ x other. lost)
      (λ t o pos known named idle b full other. begins_so t o b)
      (λ t pos known other.
      by_stage s t Stays (λ rests. lost)
      (λ o p is awake.
      let fits = fits_in s t o p inv pos known is in
      let step = call_stepping s t o p (goes s t o p inv pos known is) fits.0 in
      subst Stays (sym (went-is s t (mutex_of s.layout o) (Mutex (mutex_of s.layout o)) (Calling o p) (whole_access p) (λ a. led o p (whole_led p a)) step.valid))
      (access_stays t (call_step s t o p) step (called_no_reinit s.layout o p.operation fits.1)))
      (λ c p is awake.
      let step = cond_stepping s t c p inv pos known is in
      subst Stays (sym (went-is s t (mutex_of s.layout (OnCondition c)) (Condition (condition_of c)) (AtCondition c p) (cond_access p) (λ a. led_at c p (cond_led p a)) step.valid))
      (access_stays t (cond_step s t c p) step (cond_no_reinit t (s.threads t).held c p _ _ _ (fits_at s t c p inv pos known is).stands)))
      (λ w is awake.
      let there = walk_is s t w inv pos known is in
      let g : Stepping s t (walk_transition s t w.row) = walk_stepping s t w.row inv pos known there.0.going (knows_at s.layout t w there.0) there.2 in
      subst (λ (z : walks.Standing). Stays (walked s t (s.threads t).held z)) there.1
      (subst Stays (sym (walked-is s t w.row g.valid)) (access_stays t (walk_transition s t w.row) g (λ e. cc)))))
      (λ t pos known alive other. lost)
      (λ t pos known asleep other. lost)
      (λ t k p pos known is asleep may other. lost)
      (λ t k x p pos known is there other. lost)
      (λ t o p pos known is awake trims other. subst Stays (sym (spared_is s t o p is trims inv pos known)) lost)
      (λ t pos known gone other. ap (λ (o : Object). o.unusable) (renewed_seen s t pos known m) ∙ lost)
      (λ t k may other. ap (λ (o : Object). o.unusable) (reinited_far s t k _ (waiters_say_nothing (s.words (cell_place s.layout k))) may m (λ e. other (sym e))) ∙ lost)
      (λ t k g sp other. lost)
      e
    where
      begins_so : (t : ℕ) (o : Op) (b : Bool) → Stays (begun s t o (if b then Err XHELD else Ok (begins_at s.layout t o)))
      begins_so t o true = lost
      begins_so t o false = lost

  -- ---- who comes to sleep there

  module _ (queued : Queued s) (inside : m < s.layout.mutexes) where
    abbrev Joins_none : After → Type 0
    Joins_none a = (u : ℕ) → stands_in u (a.state.queues (cell_place s.layout m)) ≡ true → Sleeps s u m

    nobodys : (seen s m).owner ≡ None
    nobodys = inv.sound m lost

    -- whoever falls asleep, or is moved, comes to a mutex that is owned
    access_joins : (t : ℕ) (v : Transition) (n : Note) (g : Stepping s t v) (pos : 1 ≤ t) (known : t ≤ s.layout.threads) (is : (s.threads t).stage ≡ v.from) (awake : is_asleep s t ≡ false) → Joins_none (record { state = after s t v; note = n })
    access_joins t v n g pos known is awake u there = go (stood s t v g pos known is queued awake u (cell_place s.layout m) there)
      where
        go : ((u ≢ t) × (stands_in u (sleepers s m) ≡ true)) ⊎ (((u ≡ t) × (sleeps_at v.access (met s t v) ≡ true) × (cell_place s.layout m ≡ place_of s t v)) ⊎ Carried s t v g pos known is queued awake u (cell_place s.layout m)) → Sleeps s u m
        go (inl before) = before.1
        go (inr (inl (me, on, at))) = absurd ((g.asleep on m inside (sym at)).1 nobodys)
        go (inr (inr c)) = absurd (let to = c.to in let same : m ≡ v.mutex = omega (arith, to) in c.owned (subst (λ (k : ℕ). (seen s k).owner ≡ None) same nobodys))

    joins_none : (e : Event) → Joins_none (happens s e)
    joins_none e =
        by_event s (λ (x : Event) (a : After). Joins_none a)
        (λ x u there. there)
        (λ t o pos known named idle b full. begins_so t o b)
        (λ t pos known.
        by_step s t inv pos known Joins_none (λ rests u there. there)
        (λ v n is awake g noted. access_joins t v n g pos known is awake))
        (λ t pos known alive u there. (without_stands t u (sleepers s m) there).0)
        (λ t pos known asleep u there. (without_stands t u (sleepers s m) there).0)
        (λ t k p pos known is asleep may u there. (without_stands t u (sleepers s m) there).0)
        (λ t k x p pos known is stands u there. (without_stands t u (sleepers s m) there).0)
        (λ t o p pos known is awake trims u there. there)
        (λ t pos known gone u there. there)
        (λ t k may u there. there)
        (λ t k g sp u there. there)
        e
      where
        begins_so : (t : ℕ) (o : Op) (b : Bool) → Joins_none (begun s t o (if b then Err XHELD else Ok (begins_at s.layout t o)))
        begins_so t o true u there = there
        begins_so t o false u there = there

-- ---- runs

-- the next event and those after it
parted : (m : ℕ) (e : Event) (es : List Event) → NobodyReinits m (e ∷ es) → IsOther m e × NobodyReinits m es
parted m (Event.Remake t k) es none = none
parted m (Event.Begin t o) es none = (tt, none)
parted m (Event.Step t) es none = (tt, none)
parted m (Event.Kill t) es none = (tt, none)
parted m (Event.Leave t) es none = (tt, none)
parted m (Event.Spare t by) es none = (tt, none)
parted m (Event.Expire t) es none = (tt, none)
parted m (Event.Decline t) es none = (tt, none)
parted m (Event.Renew t) es none = (tt, none)

stay_on : (s : State) (es : List Event) (m : ℕ) → Kept s → (seen s m).unusable ≡ true → NobodyReinits m es → (seen (run s es) m).unusable ≡ true
stay_on s [] m inv lost none = lost
stay_on s (e ∷ es) m inv lost none = let each = parted m e es none in stay_on (happens s e).state es m (sound s e inv).kept (stays s m inv lost e each.0) each.1

pub unusable_stays : UnusableStays
unusable_stays l counters before after m is lost none = stay_on (run (start l counters) before) after m (run_kept (start l counters) before (start_kept l counters is)) lost none

-- after one event
joins_next : (s : State) (m : ℕ) → Kept s → Queued s → m < s.layout.mutexes → (seen s m).unusable ≡ true → (e : Event) (u : ℕ) → Sleeps (happens s e).state u m → Sleeps s u m
joins_next s m inv queued inside lost e u there = joins_none s m inv lost queued inside e u (subst (λ (l : Layout'). stands_in u ((happens s e).state.queues (cell_place l m)) ≡ true) (sound s e inv).same there)

-- after several
joins_later : (s : State) (es : List Event) (m : ℕ) → Kept s → Queued s → m < s.layout.mutexes → (seen s m).unusable ≡ true → (u : ℕ) → NobodyReinits m es → Sleeps (run s es) u m → Sleeps s u m
joins_later s [] m inv queued inside lost u none there = there
joins_later s (e ∷ es) m inv queued inside lost u none there =
    let each = parted m e es none in
    joins_next s m inv queued inside lost e u
    (joins_later (happens s e).state es m (sound s e inv).kept (queued_on s e inv queued) (subst (λ (l : Layout'). m < l.mutexes) (sym (sound s e inv).same) inside) (stays s m inv lost e each.0) u each.1 there)

pub nobody_joins : NobodyJoinsAnUnusableMutex
nobody_joins l counters events m is inside lost = record { next = λ e u there. joins_next s m inv queued below lost e u there; later = λ es u none there. joins_later s es m inv queued below lost u none there }
  where
    s0 : State
    s0 = start l counters

    s : State
    s = run s0 events

    inv : Kept s
    inv = run_kept s0 events (start_kept l counters is)

    queued : Queued s
    queued = run_queued l counters events is

    below : m < s.layout.mutexes
    below = subst (λ (k : Layout'). m < k.mutexes) (sym (run_layout s0 events (start_kept l counters is))) inside
