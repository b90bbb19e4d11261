-- Calls that never wait return within this many steps of their thread.
use Rattle.std.proofs.Common.{◌≡◌, ◌≢◌, ◌⊎◌, ⊎_elim, inl, inr, ℕ, suc, ◌+◌, ◌-◌, ◌<◌, ◌≤◌, ◌==◌, ◌&&◌, Bool, true, false, Option, Some, None, Result, Ok, Err, List, [], ◌∷◌, ◌++◌, refl, sym, ap, ◌∙◌, subst, arith}
use Rattle.protocol.proofs.Vocabulary.{CondCall, CondRow, CondPhase, CondWhole, cond_access, cond_led, condition_of, BroadcastRow, SignalRow, Queue, Mutex, Condition, Fact, Return, Decision, Object, Operation, Fields, Layout'}
use Rattle.protocol.proofs.Vocabulary.{Answer, Fault, Trimmed, Reply, XHELD, Phase, AtCell, Linking, Clearing, Whole, whole_access, whole_led, TryLockRow, UnlockRow, ConsistentRow, TryLock, Consistent}
use Rattle.protocol.proofs.Vocabulary.{Op, OnCondition, mutex_of, Event, caller, Note, Stepped, Thread, Stage, Idle, Calling, AtCondition, State, After, put, facts_of, facts_among, led, led_at, begun, first_stage, may_begin, happens, nothing, spared, stepped, run, notes, start}
use Rattle.protocol.proofs.Vocabulary.{returned, returned_at, stage_after, stage_at, went, answer_of, acquires, nat_le, nat_tests, if◌then◌else◌, IsInNoQueue, BeginsNone, stands_in, seen}
use Rattle.mutex.specs.declared.row.Row.{Row}
use Rattle.mutex.specs.declared.row.Row.TheVariants.{Unlock}
use Rattle.mutex.specs.declared.phase.Phase.TheVariants.{Announcing, Unlinking, Ended}
use Rattle.mutex.specs.Whole.{phase_led}
use Rattle.condvar.specs.Whole as condition
use Rattle.condvar.specs.Whole.{after_words}
use Rattle.condvar.specs.Signal.{signal_resume}
use Rattle.condvar.specs.Broadcast.{broadcast_resume}
use Rattle.condvar.specs.Calls as conditions
use Rattle.condvar.specs.Ops.{operation_of}
use Rattle.robustlist.specs.LinkLaws.{link_left}
use Rattle.robustlist.specs.UnlinkLaws.{unlink_left}
use Rattle.protocol.specs.declared.event.Event.TheVariants.{Begin, Step, Kill}
use Rattle.protocol.specs.Sleepers.{IsAmong}
use Rattle.protocol.specs.Bounded.{NeverWaits, most_steps, step_of, steps_of, IsSpared, ReturnsInTime, OnlyLocksAndWaitsWait}
use Rattle.protocol.proofs.Puts.{put-same}
use Rattle.protocol.proofs.Cases.{by_same}
use Rattle.protocol.proofs.Kept.{IsFor, InPhase, AtPhase, Kept}
use Rattle.protocol.proofs.Stepping.{SleepsAs, left_at_phase, left_of_row}
use Rattle.protocol.proofs.Accesses.{fits_in}
use Rattle.protocol.proofs.CondAccesses.{fits_at}
use Rattle.protocol.proofs.Events.{at_rest, begins_at, by_event, by_stage, first_is, is_known, IsWorking}
use Rattle.protocol.proofs.Queued.{Queued, out_awake}
use Rattle.protocol.proofs.Queues.{not_true}
use Rattle.protocol.proofs.QueueRuns.{queued_on, run_queued}
use Rattle.protocol.proofs.Runs.{sound, start_kept, run_kept}
use Rattle.protocol.proofs.Returning.{told_return, among_later}
use Rattle.protocol.proofs.Passing.{begins_first, begins_later}
use Rattle.protocol.proofs.Changing.{theirs}
use Rattle.protocol.proofs.Vocabulary.{Count, Led}
use Rattle.protocol.proofs.Events.{HowSpared, Of_unlock, Of_wait, Sparing}
use Rattle.protocol.proofs.Vocabulary.{fields_of, cell_place}
use Rattle.condvar.specs.Ops.{reply_of}

-- ---- how many accesses are left

-- of a call at its mutex's cell, whatever others do
abbrev of_row : Row → ℕ
of_row (TryLock TryLockRow.Load) = 11
of_row (TryLock (TryLockRow.Take seen failed)) = 10 - failed
of_row (Unlock UnlockRow.Load) = 10
of_row (Unlock (UnlockRow.Release d)) = 4
of_row (Unlock (UnlockRow.Wake all)) = 3
of_row (Unlock UnlockRow.Trim) = 2
of_row (Consistent ConsistentRow.Load) = 2
of_row (Consistent ConsistentRow.Declare) = 1
of_row r = 0

abbrev of_phase : Phase → ℕ
of_phase (Announcing (TryLock r)) = 12
of_phase (Announcing r) = 9
of_phase (AtCell r) = of_row r
of_phase (Linking l x) = 1 + link_left l.row
of_phase (Unlinking u d) = 4 + unlink_left u.row
of_phase (Clearing x) = 1
of_phase (Ended x) = 0

-- each access makes them fewer, whatever it is answered
phase_falls : (t held : ℕ) (p : Whole) (f : Phase) (a : Answer) (o : Object) → InPhase t held p f o → p.operation ≢ Operation.Lock → of_phase (phase_led p f a).phase < of_phase f
phase_falls t held p f a o stands never = grind (arith, nat_tests)

-- a signal and a broadcast end, or go on at a row with fewer than that
abbrev FallsTo : ℕ → CondPhase → Type 0
FallsTo n (CondPhase.Ended x) = Unit {0}
FallsTo n (CondPhase.AtWords r) = left_of_row r < n
FallsTo n f = ⊥

signal_falls : (t : ℕ) (p : CondWhole) (r : SignalRow) (a : Answer) → FallsTo (left_of_row (CondRow.Signal r)) (after_words p (signal_resume t r a).row)
signal_falls t p r a = grind (arith)

broadcast_falls : (t : ℕ) (p : CondWhole) (r : BroadcastRow) (a : Answer) → FallsTo (left_of_row (CondRow.Broadcast r)) (after_words p (broadcast_resume t r a).row)
broadcast_falls t p r a = grind (arith)

cond_falls : (t held : ℕ) (op : Operation) (p : CondWhole) (f : CondPhase) (a : Answer) (w : Fields) → AtPhase t held op p f w → op ≢ Operation.Wait → FallsTo (left_at_phase f) (condition.phase_led p f a).phase
cond_falls t held op p (CondPhase.AtWords (CondRow.Signal r)) a w stands never = signal_falls p.thread p r a
cond_falls t held op p (CondPhase.AtWords (CondRow.Broadcast r)) a w stands never = broadcast_falls p.thread p r a
cond_falls t held op p (CondPhase.AtWords (CondRow.Wait r)) a w stands never = absurd (never (sym stands.of))
cond_falls t held op p (CondPhase.AtWords CondRow.Awake) a w stands never = absurd (never (sym stands.of))
cond_falls t held op p (CondPhase.AtWords (CondRow.Ended x)) a w stands never = absurd stands.going
cond_falls t held op p (CondPhase.Announcing x) a w stands never = absurd (never stands.0)
cond_falls t held op p (CondPhase.Unlinking u x) a w stands never = absurd (never stands.0)
cond_falls t held op p f a w stands never = absurd stands

-- ---- where a call stands that never waits

-- with this many accesses left at most
abbrev Within : ℕ → Stage → Type 0
Within n (Calling o p) = NeverWaits (operation_of o) × (of_phase p.phase ≤ n)
Within n (AtCondition c p) = NeverWaits (conditions.acts_as c) × (left_at_phase p.phase ≤ n)
Within n g = ⊥

-- or it is in no call
abbrev Quiet : Stage → Type 0
Quiet Idle = Unit {0}
Quiet (Calling o p) = NeverWaits (operation_of o)
Quiet (AtCondition c p) = NeverWaits (conditions.acts_as c)
Quiet g = ⊥

is_quiet : (n : ℕ) (g : Stage) → Within n g → Quiet g
is_quiet n Idle h = tt
is_quiet n (Calling o p) h = h.0
is_quiet n (AtCondition c p) h = h.0
is_quiet n (Stage.Dying w) h = h
is_quiet n Stage.Reaped h = h

more_left : (n k : ℕ) (g : Stage) → n ≤ k → Within n g → Within k g
more_left n k Idle more h = h
more_left n k (Calling o p) more h = (h.0, let few = h.1 in omega (arith, more, few))
more_left n k (AtCondition c p) more h = (h.0, let few = h.1 in omega (arith, more, few))
more_left n k (Stage.Dying w) more h = h
more_left n k Stage.Reaped more h = h

-- its return is recorded, whatever is recorded after it
abbrev TellsReturn : ℕ → After → Type 0
TellsReturn t a = (x : Reply) × ((rest : List Fact) → IsAmong (Return t x) (facts_of a.note ++ rest))

abbrev GoesOn : ℕ → ℕ → After → Type 0
GoesOn n t a = TellsReturn t a ⊎ Within n (a.state.threads t).stage

never_locks : (l : Layout') (o : Op) (op : Operation) → IsFor l o op → NeverWaits (operation_of o) → op ≢ Operation.Lock
never_locks l o op is never = grind (arith)

never_wait : (op : Operation) → NeverWaits op → op ≢ Operation.Wait
never_wait op never = grind (arith)

-- a call on a mutex goes on in this phase, or returns
abbrev GoesOnIn : ℕ → ℕ → Op → Whole → State → After → Phase → Type 0
GoesOnIn n t o p s a f =
    (m held : ℕ) (d : Option Decision) (k : Option Queue) (ws ms : List ℕ) → of_phase f ≤ n → a.state.threads ≡ put s.threads t (record { stage = stage_after o p f; held = held }) → a.note ≡ Stepped t m d k ws ms (returned o f) → GoesOn n t a

called_on : (n t : ℕ) (o : Op) (p : Whole) (s : State) (a : After) → NeverWaits (operation_of o) → (f : Phase) → GoesOnIn n t o p s a f
called_on n t o p s a never f = go f
  where
    on : (g : Phase) → stage_after o p g ≡ Calling o (record p { phase = g }) → GoesOnIn n t o p s a g
    on g stays m held d k ws ms less same noted = inr (subst (Within n) (sym (ap (λ (th : ℕ → Thread). (th t).stage) same ∙ ap (λ (z : Thread). z.stage) (put-same s.threads t _) ∙ stays)) (never, less))

    go : (g : Phase) → GoesOnIn n t o p s a g
    go (Announcing r) = on (Announcing r) refl
    go (AtCell r) = on (AtCell r) refl
    go (Linking l x) = on (Linking l x) refl
    go (Unlinking u e) = on (Unlinking u e) refl
    go (Clearing x) = on (Clearing x) refl
    go (Ended x) = λ m held d k ws ms less same noted. inl (reply_of o x, λ rest. subst (λ (y : Note). IsAmong (Return t (reply_of o x)) (facts_of y ++ rest)) (sym noted) (told_return t m (reply_of o x) d k ws ms (Some (reply_of o x)) rest refl))

-- and so does one on a condition variable
conditions_on : (n t : ℕ) (c : CondCall) (p : CondWhole) (s : State) (a : After) (most : ℕ) → NeverWaits (conditions.acts_as c) → most ≤ suc n → (g : CondPhase) → FallsTo most g
    → (m held : ℕ) (d : Option Decision) (k : Option Queue) (ws ms : List ℕ) → a.state.threads ≡ put s.threads t (record { stage = stage_at c p g; held = held }) → a.note ≡ Stepped t m d k ws ms (returned_at g) → GoesOn n t a
conditions_on n t c p s a most never few (CondPhase.Ended x) falls m held d k ws ms same noted = inl (x, λ rest. subst (λ (y : Note). IsAmong (Return t x) (facts_of y ++ rest)) (sym noted) (told_return t m x d k ws ms (Some x) rest refl))
conditions_on n t c p s a most never few (CondPhase.AtWords r) falls m held d k ws ms same noted =
    inr (subst (Within n) (sym (ap (λ (th : ℕ → Thread). (th t).stage) same ∙ ap (λ (z : Thread). z.stage) (put-same s.threads t _))) (never, omega (arith, few, falls)))
conditions_on n t c p s a most never few g falls m held d k ws ms same noted = absurd falls

-- ---- one event

module _ (s : State) (inv : Kept s) (queued : Queued s) where
  -- whoever is in such a call stands in no queue
  stands_in_none : (t : ℕ) → 1 ≤ t → t ≤ s.layout.threads → Quiet (s.threads t).stage → IsInNoQueue s t
  stands_in_none t pos known quiet key = not_true (stands_in t (s.queues key)) (λ stands. go (s.threads t).stage refl quiet (queued.sleeps key t stands).2)
    where
      go : (g : Stage) → (s.threads t).stage ≡ g → Quiet g → SleepsAs s.layout key g → ⊥
      go (Calling o p) is never slept =
          let fits = fits_in s t o p inv pos known is in
          let stands = subst (λ (f : Phase). InPhase t (s.threads t).held p f (seen s (mutex_of s.layout o))) slept.0 fits.0.stands in
          never_locks s.layout o p.operation fits.1 never (sym stands.of)
      go Idle is never slept = slept
      go (AtCondition c p) is never slept = slept
      go (Stage.Dying w) is never slept = slept
      go Stage.Reaped is never slept = slept

  -- some access is left of it
  left_none : (f : CondPhase) (op : Operation) (p : CondWhole) (t held : ℕ) (w : Fields) → AtPhase t held op p f w → op ≢ Operation.Wait → left_at_phase f ≤ 0 → ⊥
  left_none f op p t held w stands never few = grind (arith)

  some_left : (t : ℕ) → 1 ≤ t → t ≤ s.layout.threads → Within 0 (s.threads t).stage → ⊥
  some_left t pos known within = go (s.threads t).stage refl within
    where
      go : (g : Stage) → (s.threads t).stage ≡ g → Within 0 g → ⊥
      go (Calling o p) is (never, few) =
          let fits = fits_in s t o p inv pos known is in
          let less = phase_falls t (s.threads t).held p p.phase Fault (seen s (mutex_of s.layout o)) fits.0.stands (never_locks s.layout o p.operation fits.1 never) in
          absurd (omega (arith, few, less))
      go (AtCondition c p) is (never, few) = absurd (left_none p.phase (conditions.acts_as c) p t (s.threads t).held _ (fits_at s t c p inv pos known is).stands (never_wait _ never) few)
      go Idle is within = within
      go (Stage.Dying w) is within = within
      go Stage.Reaped is within = within

  -- its own step
  step_on : (t n : ℕ) → 1 ≤ t → t ≤ s.layout.threads → Within (suc n) (s.threads t).stage → GoesOn n t (happens s (Step t))
  step_on t n pos known within =
      subst (λ (b : Bool). GoesOn n t (if b then stepped s t (s.threads t).held (s.threads t).stage else nothing s)) (sym (is_known s t pos known))
      (by_stage s t (GoesOn n t)
      (λ rests. absurd (rests (out_awake s t (stands_in_none t pos known (is_quiet (suc n) (s.threads t).stage within))) (works (s.threads t).stage within)))
      (λ o p is awake.
      let there = subst (Within (suc n)) is within in
      let fits = fits_in s t o p inv pos known is in
      let less = phase_falls t (s.threads t).held p p.phase (answer_of s t (whole_access p)) (seen s (mutex_of s.layout o)) fits.0.stands (never_locks s.layout o p.operation fits.1 there.0) in
      let few = there.1 in
      called_on n t o p s (went s t (s.threads t).held (mutex_of s.layout o) (Mutex (mutex_of s.layout o)) (whole_access p) (led o p (whole_led p (answer_of s t (whole_access p))))) there.0 _ _ _ _ _ _ _ (omega (arith, less, few)) refl refl)
      (λ c p is awake.
      let there = subst (Within (suc n)) is within in
      conditions_on n t c p s (went s t (s.threads t).held (mutex_of s.layout (OnCondition c)) (Condition (condition_of c)) (cond_access p) (led_at c p (cond_led p (answer_of s t (cond_access p))))) (left_at_phase p.phase) there.0 there.1 _ (cond_falls t (s.threads t).held (conditions.acts_as c) p p.phase (answer_of s t (cond_access p)) _ (fits_at s t c p inv pos known is).stands (never_wait _ there.0)) _ _ _ _ _ _ refl refl)
      (λ w is awake. absurd (subst (Within (suc n)) is within)))
    where
      works : (g : Stage) → Within (suc n) g → IsWorking g
      works (Calling o p) h = tt
      works (AtCondition c p) h = tt
      works Idle h = absurd h
      works (Stage.Dying w) h = absurd h
      works Stage.Reaped h = absurd h

  -- an event of its own that is no step, and no kill
  abbrev is_other : Event → Bool
  is_other (Step u) = false
  is_other (Kill u) = false
  is_other e = true

  other_on : (e : Event) → is_other e ≡ true → (n : ℕ) → Within n (s.threads (caller e)).stage → GoesOn n (caller e) (happens s e)
  other_on e =
      by_event s (λ (x : Event) (a : After). is_other x ≡ true → (n : ℕ) → Within n (s.threads (caller x)).stage → GoesOn n (caller x) a)
      (λ x is n within. inr within)
      (λ t o pos known inside idle b full is n within. absurd (subst (Within n) idle within))
      (λ t pos known is. absurd cc)
      (λ t pos known alive is. absurd cc)
      (λ t pos known asleep is n within. inr within)
      (λ t m p pos known is asleep may other n within. absurd (subst (Within n) is within).0)
      (λ t k x p pos known is there other n within. absurd (subst (Within n) is within).0)
      (λ t o p pos known is awake trims other n within.
      let there = subst (Within n) is within in
      let fits = fits_in s t o p inv pos known is in
      let less = phase_falls t (s.threads t).held p p.phase (Trimmed false) (seen s (mutex_of s.layout o)) fits.0.stands (never_locks s.layout o p.operation fits.1 there.0) in
      let few = there.1 in
      called_on n t o p s (spared s t (s.threads t).held (mutex_of s.layout o) (led o p (whole_led p (Trimmed false)))) there.0 (whole_led p (Trimmed false)).phase (mutex_of s.layout o) _ _ None [] [] (omega (arith, less, few)) refl refl)
      (λ t pos known gone is n within. absurd (subst (Within n) gone within))
      (λ t m may is n within. absurd (subst (Within n) may.resting within))
      (λ t m g sp other n within. spares_on t m g sp n within sp.how)
      e
    where
      spares_on : (t m : ℕ) (g : Led) → Sparing s t m g → (n : ℕ) → Within n (s.threads t).stage → HowSpared s t m g → GoesOn n t (spared s t (s.threads t).held m g)
      spares_on t m g sp n within (Of_unlock o p is mutex at leads) =
          let there = subst (Within n) is within in
          let fits = fits_in s t o p inv sp.first sp.last is in
          let less = phase_falls t (s.threads t).held p p.phase (Count 1) (seen s (mutex_of s.layout o)) fits.0.stands (never_locks s.layout o p.operation fits.1 there.0) in
          let few = there.1 in
          subst (λ (z : Led). GoesOn n t (spared s t (s.threads t).held m z)) (sym leads)
          (called_on n t o p s (spared s t (s.threads t).held m (led o p (whole_led p (Count 1)))) there.0 (whole_led p (Count 1)).phase m _ _ None [] [] (omega (arith, less, few)) refl refl)
      spares_on t m g sp n within (Of_wait c p x is mutex at leads) =
          let there = subst (Within n) is within in
          let stands = subst (λ (f : CondPhase). AtPhase t (s.threads t).held (conditions.acts_as c) p f (fields_of (s.words (cell_place s.layout (mutex_of s.layout (OnCondition c)))))) at (fits_at s t c p inv sp.first sp.last is).stands in
          absurd (never_wait (conditions.acts_as c) there.0 (sym stands.of))

-- ---- any event

event_on : (s : State) (e : Event) (t n : ℕ) → Kept s → Queued s → 1 ≤ t → t ≤ s.layout.threads → e ≢ Kill t → Within (step_of t e + n) (s.threads t).stage → GoesOn n t (happens s e)
event_on s e t n inv queued pos known lives within = by_same (caller e) t (mine e lives within) (another e within)
  where
    -- where it is no step of the thread
    fewer : (x : Event) → step_of t x ≡ 0 → Within (step_of t x + n) (s.threads t).stage → Within n (s.threads t).stage
    fewer x none h = more_left (step_of t x + n) n (s.threads t).stage (omega (arith, none)) h

    another : (x : Event) → Within (step_of t x + n) (s.threads t).stage → caller x ≢ t → GoesOn n t (happens s x)
    another x h apart = inr (subst (λ (z : Thread). Within n z.stage) (sym (theirs s x t apart)) (fewer x (none x apart) h))
      where
        none : (y : Event) → caller y ≢ t → step_of t y ≡ 0
        none y apart = grind (arith, nat_tests)

    others : (x : Event) → is_other s inv queued x ≡ true → step_of t x ≡ 0 → Within (step_of t x + n) (s.threads t).stage → caller x ≡ t → GoesOn n t (happens s x)
    others x other none h me =
        subst (λ (u : ℕ). GoesOn n u (happens s x)) me
        (other_on s inv queued x other n (subst (λ (u : ℕ). Within n (s.threads u).stage) (sym me) (fewer x none h)))

    most : (b : Bool) → (if b then 1 else 0) + n ≤ suc n
    most true = omega arith
    most false = omega arith

    mine : (x : Event) → x ≢ Kill t → Within (step_of t x + n) (s.threads t).stage → caller x ≡ t → GoesOn n t (happens s x)
    mine (Step u) alive h me =
        subst (λ (v : ℕ). GoesOn n t (happens s (Step v))) (sym me)
        (step_on s inv queued t n pos known (more_left (step_of t (Step u) + n) (suc n) (s.threads t).stage (most (u == t)) h))
    mine (Kill u) alive h me = absurd (alive (ap Kill me))
    mine (Begin u o) alive h me = others (Begin u o) refl refl h me
    mine (Event.Leave u) alive h me = others (Event.Leave u) refl refl h me
    mine (Event.Expire u) alive h me = others (Event.Expire u) refl refl h me
    mine (Event.Spare u by) alive h me = others (Event.Spare u by) refl refl h me
    mine (Event.Decline u) alive h me = others (Event.Decline u) refl refl h me
    mine (Event.Renew u) alive h me = others (Event.Renew u) refl refl h me
    mine (Event.Remake u m) alive h me = others (Event.Remake u m) refl refl h me

-- ---- runs

first_spared : (t : ℕ) (e : Event) (es : List Event) → IsSpared t (e ∷ es) → (e ≢ Kill t) × IsSpared t es
first_spared t (Kill u) es h = ((λ is. h.0 (same u is)), h.1)
  where
    same : (u : ℕ) → Kill u ≡ Kill t → u ≡ t
    same u is = cc
first_spared t (Step u) es h = ((λ is. cc is), h)
first_spared t (Begin u o) es h = ((λ is. cc is), h)
first_spared t (Event.Leave u) es h = ((λ is. cc is), h)
first_spared t (Event.Expire u) es h = ((λ is. cc is), h)
first_spared t (Event.Spare u by) es h = ((λ is. cc is), h)
first_spared t (Event.Decline u) es h = ((λ is. cc is), h)
first_spared t (Event.Renew u) es h = ((λ is. cc is), h)
first_spared t (Event.Remake u m) es h = ((λ is. cc is), h)

abbrev Returned : State → ℕ → List Event → Type 0
Returned s t es = (x : Reply) × IsAmong (Return t x) (facts_among (notes s es))

in_time : (es : List Event) (s : State) (t : ℕ) → Kept s → Queued s → 1 ≤ t → t ≤ s.layout.threads → IsSpared t es → Within (steps_of t es) (s.threads t).stage → Returned s t es
in_time [] s t inv queued pos known spared within = absurd (some_left s inv queued t pos known within)
in_time (e ∷ es) s t inv queued pos known spared within =
    let here = first_spared t e es spared in
    let next = sound s e inv in
    ⊎_elim
    (λ told. (told.0, told.1 (facts_among (notes (happens s e).state es))))
    (λ on.
    let later = in_time es (happens s e).state t next.kept (queued_on s e inv queued) pos (subst (λ (l : Layout'). t ≤ l.threads) (sym next.same) known) here.1 on in
    (later.0, among_later (Return t later.0) (facts_of (happens s e).note) (facts_among (notes (happens s e).state es)) later.1))
    (event_on s e t (steps_of t es) inv queued pos known here.0 within)

-- ---- until another call begins

quiet_after : (o : Op) (p : Whole) (f : Phase) → NeverWaits (operation_of o) → Quiet (stage_after o p f)
quiet_after o p f never = grind (arith)

quiet_at : (c : CondCall) (p : CondWhole) (f : CondPhase) → NeverWaits (conditions.acts_as c) → Quiet (stage_at c p f)
quiet_at c p f never = grind (arith)

abbrev is_kill : Event → Bool
is_kill (Kill u) = true
is_kill e = false

module _ (s : State) where
  abbrev KeepsQuiet : ℕ → After → Type 0
  KeepsQuiet t a = BeginsNone t (facts_of a.note) → Quiet (s.threads t).stage → Quiet (a.state.threads t).stage

  begins_loud : (t : ℕ) (o : Op) (b : Bool) → KeepsQuiet t (begun s t o (if b then Err XHELD else Ok (begins_at s.layout t o)))
  begins_loud t o true none quiet = absurd (none.0 refl)
  begins_loud t o false none quiet = absurd (none.0 refl)

  put_quiet : (t : ℕ) (z : Thread) → Quiet z.stage → Quiet (put s.threads t z t).stage
  put_quiet t z quiet = subst (λ (x : Thread). Quiet x.stage) (sym (put-same s.threads t z)) quiet

  mine_quiet : (e : Event) → is_kill e ≡ false → KeepsQuiet (caller e) (happens s e)
  mine_quiet e =
      by_event s (λ (x : Event) (a : After). is_kill x ≡ false → KeepsQuiet (caller x) a)
      (λ x is none quiet. quiet)
      (λ t o pos known inside idle b full is. begins_loud t o b)
      (λ t pos known is.
      by_stage s t (KeepsQuiet t) (λ rests none quiet. quiet)
      (λ o p at awake none quiet. put_quiet t _ (quiet_after o p _ (subst Quiet at quiet)))
      (λ c p at awake none quiet. put_quiet t _ (quiet_at c p _ (subst Quiet at quiet)))
      (λ w at awake none quiet. absurd (subst Quiet at quiet)))
      (λ t pos known alive is. absurd cc)
      (λ t pos known asleep is none quiet. quiet)
      (λ t m p pos known at asleep may is none quiet. absurd (subst Quiet at quiet))
      (λ t k x p pos known at there is none quiet. absurd (subst Quiet at quiet))
      (λ t o p pos known at awake trims is none quiet. put_quiet t _ (quiet_after o p _ (subst Quiet at quiet)))
      (λ t pos known gone is none quiet. absurd (subst Quiet gone quiet))
      (λ t m may is none quiet. absurd (none.0 refl))
      (λ t m g sp is none quiet. put_quiet t _ (spare_quiet t m g sp.how quiet))
      e
    where
      spare_quiet : (t m : ℕ) (g : Led) → HowSpared s t m g → Quiet (s.threads t).stage → Quiet g.stage
      spare_quiet t m g (Of_unlock o p is mutex at leads) quiet = subst (λ (z : Led). Quiet z.stage) (sym leads) (quiet_after o p _ (subst Quiet is quiet))
      spare_quiet t m g (Of_wait c p seen is mutex at leads) quiet = subst (λ (z : Led). Quiet z.stage) (sym leads) (quiet_at c p _ (subst Quiet is quiet))

  event_quiet : (e : Event) (t : ℕ) → e ≢ Kill t → KeepsQuiet t (happens s e)
  event_quiet e t spared = by_same (caller e) t (λ me. subst (λ (u : ℕ). KeepsQuiet u (happens s e)) me (mine_quiet e (alive e spared me))) (λ apart none quiet. subst (λ (z : Thread). Quiet z.stage) (sym (theirs s e t apart)) quiet)
    where
      alive : (x : Event) → x ≢ Kill t → caller x ≡ t → is_kill x ≡ false
      alive (Kill u) never me = absurd (never (ap Kill me))
      alive (Step u) never me = refl
      alive (Begin u o) never me = refl
      alive (Event.Leave u) never me = refl
      alive (Event.Expire u) never me = refl
      alive (Event.Spare u by) never me = refl
      alive (Event.Decline u) never me = refl
      alive (Event.Renew u) never me = refl
      alive (Event.Remake u m) never me = refl

never_asleep : (es : List Event) (s : State) (t : ℕ) → Kept s → Queued s → 1 ≤ t → t ≤ s.layout.threads → IsSpared t es → BeginsNone t (facts_among (notes s es)) → Quiet (s.threads t).stage → IsInNoQueue (run s es) t
never_asleep [] s t inv queued pos known spared none quiet = stands_in_none s inv queued t pos known quiet
never_asleep (e ∷ es) s t inv queued pos known spared none quiet =
    let here = first_spared t e es spared in
    let next = sound s e inv in
    never_asleep es (happens s e).state t next.kept (queued_on s e inv queued) pos (subst (λ (l : Layout'). t ≤ l.threads) (sym next.same) known) here.1
    (begins_later t (facts_of (happens s e).note) (facts_among (notes (happens s e).state es)) none)
    (event_quiet s e t here.0 (begins_first t (facts_of (happens s e).note) (facts_among (notes (happens s e).state es)) none) quiet)

-- ---- a call from its begin on

first_within : (l : Layout') (t : ℕ) (c : Op) → NeverWaits (operation_of c) → Within (most_steps (operation_of c)) (begins_at l t c)
first_within l t c never = grind (arith)

module _ (s : State) (t : ℕ) (c : Op) (es : List Event) (inv : Kept s) (queued : Queued s) (pos : 1 ≤ t) (known : t ≤ s.layout.threads) (may : may_begin s t c ≡ true) (idle : (s.threads t).stage ≡ Idle) (never : NeverWaits (operation_of c)) (spared : IsSpared t es) where
  abbrev begun_to : Bool → After
  begun_to b = begun s t c (if b then Err XHELD else Ok (begins_at s.layout t c))

  abbrev full : Bool
  full = acquires (operation_of c) && nat_le 2048 (s.threads t).held

  begins_so : happens s (Begin t c) ≡ begun_to full
  begins_so = ap (λ (b : Bool). if b then begun s t c (first_stage s.layout t (s.threads t).held c) else nothing s) may ∙ ap (λ (r : Result Stage Reply). begun s t c r) (first_is s.layout t (s.threads t).held c)

  abbrev next : State
  next = (happens s (Begin t c)).state

  next_kept : Kept next
  next_kept = (sound s (Begin t c) inv).kept

  next_queued : Queued next
  next_queued = queued_on s (Begin t c) inv queued

  next_known : t ≤ next.layout.threads
  next_known = subst (λ (l : Layout'). t ≤ l.threads) (sym (sound s (Begin t c) inv).same) known

  stage_begun : (b : Bool) → full ≡ b → (next.threads t).stage ≡ ((begun_to b).state.threads t).stage
  stage_begun b e = ap (λ (a : After). (a.state.threads t).stage) (begins_so ∙ ap begun_to e)

  begun_stage : ((begun_to false).state.threads t).stage ≡ begins_at s.layout t c
  begun_stage = ap (λ (z : Thread). z.stage) (put-same s.threads t _)

  within_first : Within (most_steps (operation_of c)) (begins_at s.layout t c)
  within_first = first_within s.layout t c never

  quiet_first : (b : Bool) → full ≡ b → Quiet (next.threads t).stage
  quiet_first true e = subst Quiet (sym (stage_begun true e ∙ idle)) tt
  quiet_first false e = subst Quiet (sym (stage_begun false e ∙ begun_stage)) (is_quiet _ (begins_at s.layout t c) within_first)

  returns_first : (b : Bool) → full ≡ b → most_steps (operation_of c) ≤ steps_of t es → Returned s t (Begin t c ∷ es)
  returns_first true e enough =
      (XHELD, subst (λ (a : After). IsAmong (Return t XHELD) (facts_of a.note ++ facts_among (notes a.state es))) (sym (begins_so ∙ ap begun_to e)) (inr (inr (inl refl))))
  returns_first false e enough =
      let later = in_time es next t next_kept next_queued pos next_known spared
      (subst (Within (steps_of t es)) (sym (stage_begun false e ∙ begun_stage)) (more_left (most_steps (operation_of c)) (steps_of t es) (begins_at s.layout t c) enough within_first)) in
      (later.0, among_later (Return t later.0) (facts_of (happens s (Begin t c)).note) (facts_among (notes next es)) later.1)

  pub returns_in_time : ReturnsInTime s t c es
  returns_in_time = record {
    returns = returns_first full refl;
    awake = λ none. never_asleep es next t next_kept next_queued pos next_known spared none (quiet_first full refl);
  }

pub only_they_wait : OnlyLocksAndWaitsWait
only_they_wait l counters before es t c is may never spared =
    returns_in_time s t c es (run_kept (start l counters) before (start_kept l counters is)) (run_queued l counters before is) pos known may idle never spared
  where
    s : State
    s = run (start l counters) before

    pos : 1 ≤ t
    pos = grind (arith, nat_tests)

    known : t ≤ s.layout.threads
    known = grind (arith, nat_tests)

    idle : (s.threads t).stage ≡ Idle
    idle = at_rest (s.threads t).stage (grind (arith, nat_tests))
