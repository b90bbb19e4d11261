-- The points that a call has made so far, and what each access adds to them.
use Rattle.std.proofs.Common.{◌≡◌, ◌≢◌, ◌⊎◌, ⊎_elim, inl, inr, ℕ, Option, Some, None, List, [], ◌∷◌, ◌++◌, refl, sym, ap, ◌∙◌, subst, arith}
use Rattle.protocol.proofs.Vocabulary.{CondCall, CondRow, CondPhase, CondWhole, cond_access, cond_led, Begun, Fact, Operation, Layout', Fields, Reply, OK, Phase, Onward, Joins}
use Rattle.protocol.proofs.Vocabulary.{Whole, Op, OnMutex, OnCondition, Stage, Idle, Calling, AtCondition, Dying, Reaped, begun_of, answer_among, stage_after, returned, led}
use Rattle.protocol.proofs.Vocabulary.{led_at, WaitRow, SignalRow, BroadcastRow}
use Rattle.mutex.specs.Calls as mutex
use Rattle.mutex.specs.declared.call.Call.{Call}
use Rattle.lockword.specs.declared.reply.Reply.TheVariants.{XHELD, ETIMEDOUT}
use Rattle.posixmutex.specs.Objects.{acquires}
use Rattle.std.specs.Prelude.{Bool, true, ◌&&◌}
use Rattle.condvar.specs.declared.call.Limit.{Limit}
use Rattle.condvar.specs.declared.call.Limit.TheVariants.{Ahead, Past}
use Rattle.mutex.specs.declared.phase.Phase.TheVariants.{Ended}
use Rattle.condvar.specs.Calls as condition
use Rattle.facts.specs.declared.fact.Fact.TheVariants.{Begin, Renew}
use Rattle.facts.specs.Lives.{Act, Complete, Beginning, made, Mourned, Lives, EndsReaped}
use Rattle.condvar.specs.Ops.{operation_of, reply_of}
use Rattle.protocol.specs.Machine.{Led}
use Rattle.protocol.proofs.Phases.{decided_at}
use Rattle.protocol.proofs.Arrivals.{ended_or_not}
use Rattle.protocol.proofs.Kept.{IsFor, AtPhase}

-- ---- points so far

-- a wait's, once it has released its mutex
abbrev pub released : List Act
released = (Operation.Unlock, OK) ∷ []

-- the operation of a call's point with this reply: of a lock that is out of time its own
abbrev pub told_as : Call → Reply → Operation
told_as (Call.TimedLock m) ETIMEDOUT = Operation.TimedLock
told_as c x = mutex.acts_as c

-- of a wait in the lock that ends it
abbrev pub acts_again : Option Reply → List Act
acts_again None = released
acts_again (Some x) = (Operation.Unlock, OK) ∷ (Operation.Lock, x) ∷ []

-- of a call on a mutex, or of a wait in the lock that ends it, undecided or decided
abbrev pub acts_by : Op → Option Reply → List Act
acts_by (OnMutex c) None = []
acts_by (OnMutex c) (Some x) = (told_as c x, x) ∷ []
acts_by (OnCondition (CondCall.Wait k)) d = acts_again d
acts_by (OnCondition (CondCall.TimedWait k x)) d = acts_again d
acts_by (OnCondition c) d = []

-- of a call on a condition variable at a row, before that
abbrev pub acts_row : CondCall → CondRow → List Act
acts_row (CondCall.Wait k) (CondRow.Wait (WaitRow.Wake seen)) = released
acts_row (CondCall.Wait k) (CondRow.Wait (WaitRow.Sleep seen)) = released
acts_row (CondCall.Wait k) CondRow.Awake = released
acts_row (CondCall.TimedWait k x) (CondRow.Wait (WaitRow.Wake seen)) = released
acts_row (CondCall.TimedWait k x) (CondRow.Wait (WaitRow.Sleep seen)) = released
acts_row (CondCall.TimedWait k x) CondRow.Awake = released
acts_row (CondCall.Signal k) (CondRow.Signal SignalRow.Wake) = (Operation.Signal, OK) ∷ []
acts_row (CondCall.Broadcast k) (CondRow.Broadcast (BroadcastRow.SetWaiters seen)) = (Operation.Broadcast, OK) ∷ []
acts_row (CondCall.Broadcast k) (CondRow.Broadcast (BroadcastRow.Move seen)) = (Operation.Broadcast, OK) ∷ []
acts_row c r = []

abbrev pub acts_in : CondCall → CondPhase → List Act
acts_in c (CondPhase.AtWords r) = acts_row c r
acts_in c f = []

-- they are the first of such a call's points
own_point : (op : Operation) (x : Reply) → op ≢ Operation.TimedWait → Complete op ((op, x) ∷ []) x
own_point Operation.TimedLock x other = inl refl
own_point Operation.TimedWait x other = absurd (other refl)
own_point op x other = refl

-- a call that is refused at its begin is one that may take a mutex
pub refused_point : (op : Operation) (b : Bool) → (acquires op && b) ≡ true → Complete op ((op, XHELD) ∷ []) XHELD
refused_point op b e = own_point op XHELD (λ (is : op ≡ Operation.TimedWait). never (sym (ap (λ (z : Operation). acquires z && b) is) ∙ e))
  where
    never : (acquires Operation.TimedWait && b) ≡ true → ⊥
    never h = cc h

begins_with : (op : Operation) (x : Reply) → Beginning op []
begins_with Operation.TimedWait x = ((Operation.Wait, x) ∷ [], x, (refl, inl refl))
begins_with op x = ((op, x) ∷ [], x, own_point op x (λ (is : op ≡ Operation.TimedWait). cc is))

signal_point : (x : Reply) → Beginning Operation.Signal ((Operation.Signal, x) ∷ [])
signal_point x = ([], x, refl)

broadcast_point : (x : Reply) → Beginning Operation.Broadcast ((Operation.Broadcast, x) ∷ [])
broadcast_point x = ([], x, refl)

timed_point : (m : ℕ) (x : Reply) → Complete Operation.TimedLock ((told_as (Call.TimedLock m) x, x) ∷ []) x
timed_point m ETIMEDOUT = inl refl
timed_point m x = inr refl

call_point : (c : Call) (x : Reply) → Complete (mutex.operation_of c) ((told_as c x, x) ∷ []) x
call_point (Call.TimedLock m) x = timed_point m x
call_point (Call.Lock m) x = refl
call_point (Call.TryLock m) x = refl
call_point (Call.Unlock m) x = refl
call_point (Call.Consistent m) x = refl

pub acts_begin : (o : Op) (d : Option Reply) → Beginning (operation_of o) (acts_by o d)
acts_begin (OnMutex c) None = begins_with (mutex.operation_of c) OK
acts_begin (OnMutex c) (Some x) = ([], x, call_point c x)
acts_begin (OnCondition (CondCall.Wait k)) None = ((Operation.Lock, OK) ∷ [], OK, (refl, refl))
acts_begin (OnCondition (CondCall.Wait k)) (Some x) = ([], x, (refl, refl))
acts_begin (OnCondition (CondCall.TimedWait k l)) None = ((Operation.Lock, OK) ∷ [], OK, (refl, refl, inl refl))
acts_begin (OnCondition (CondCall.TimedWait k l)) (Some x) = ([], x, (refl, refl, inl refl))
acts_begin (OnCondition (CondCall.Signal k)) d = begins_with Operation.Signal OK
acts_begin (OnCondition (CondCall.Broadcast k)) d = begins_with Operation.Broadcast OK

row_begins : (c : CondCall) (r : CondRow) → Beginning (condition.operation_of c) (acts_row c r)
row_begins (CondCall.Wait k) (CondRow.Wait (WaitRow.Wake seen)) = ((Operation.Lock, OK) ∷ [], OK, (refl, refl))
row_begins (CondCall.Wait k) (CondRow.Wait (WaitRow.Sleep seen)) = ((Operation.Lock, OK) ∷ [], OK, (refl, refl))
row_begins (CondCall.Wait k) CondRow.Awake = ((Operation.Lock, OK) ∷ [], OK, (refl, refl))
row_begins (CondCall.TimedWait k l) (CondRow.Wait (WaitRow.Wake seen)) = ((Operation.Lock, OK) ∷ [], OK, (refl, refl, inl refl))
row_begins (CondCall.TimedWait k l) (CondRow.Wait (WaitRow.Sleep seen)) = ((Operation.Lock, OK) ∷ [], OK, (refl, refl, inl refl))
row_begins (CondCall.TimedWait k l) CondRow.Awake = ((Operation.Lock, OK) ∷ [], OK, (refl, refl, inl refl))
row_begins (CondCall.Signal k) (CondRow.Signal SignalRow.Wake) = signal_point OK
row_begins (CondCall.Broadcast k) (CondRow.Broadcast (BroadcastRow.SetWaiters seen)) = broadcast_point OK
row_begins (CondCall.Broadcast k) (CondRow.Broadcast (BroadcastRow.Move seen)) = broadcast_point OK
row_begins c r = begins_with (condition.operation_of c) OK

pub acts_in_begin : (c : CondCall) (f : CondPhase) → Beginning (condition.operation_of c) (acts_in c f)
acts_in_begin c (CondPhase.AtWords r) = row_begins c r
acts_in_begin c f = begins_with (condition.operation_of c) OK

-- ---- what one access adds

abbrev pub acts_of : Operation → Option Reply → List Act
acts_of op None = []
acts_of op (Some x) = (op, x) ∷ []

-- of a call on a mutex, or of the lock that ends a wait
joined_acts : (l : Layout') (o : Op) (op : Operation) (d x y : Option Reply) → IsFor l o op → Joins d x y → x ≢ Some ETIMEDOUT → acts_by o y ≡ acts_by o d ++ acts_of op x
joined_acts l o op d x y is joins timely = grind (arith)

-- a wait that is out of time, too
late_point : (k : ℕ) (x : Reply) → Complete Operation.TimedWait ((Operation.Unlock, OK) ∷ (Operation.Lock, x) ∷ []) (condition.reply_of (CondCall.TimedWait k Past) x)
late_point k OK = (refl, refl, inr (refl, refl))
late_point k x = (refl, refl, inl refl)

completed : (l : Layout') (o : Op) (op : Operation) (x : Reply) → IsFor l o op → Complete (operation_of o) (acts_by o (Some x)) (reply_of o x)
completed l (OnMutex c) op x is = call_point c x
completed l (OnCondition (CondCall.Wait k)) op x is = (refl, refl)
completed l (OnCondition (CondCall.TimedWait k Ahead)) op x is = (refl, refl, inl refl)
completed l (OnCondition (CondCall.TimedWait k Past)) op x is = late_point k x
completed l (OnCondition (CondCall.Signal k)) op x is = absurd (cc is.1)
completed l (OnCondition (CondCall.Broadcast k)) op x is = absurd (cc is.1)

-- ---- of a call on a condition variable, at a row

-- ---- in a phase

-- ---- what a thread does from now on

-- with what its call did before, a life, and perhaps others after it
abbrev pub Doing : ℕ → Begun → List Act → List Fact → Type 0
Doing t b ps fs = Lives t (Begin t b ∷ (made t b ps ++ fs))

-- after its kill: the rest of that life, and perhaps its renewal and further lives
pub data AfterKill (t : ℕ) : List Fact → Type 0 where
  In_that_life : (fs : List Fact) → Mourned t fs → AfterKill t fs
  And_anew : (first later : List Fact) → Mourned t first → EndsReaped t first → Lives t later → AfterKill t (first ++ Renew t ∷ later)

-- after its reaping: nothing, or its renewal and further lives
pub data AfterReaping (t : ℕ) : List Fact → Type 0 where
  Stays_reaped : AfterReaping t []
  Renewed_then : (later : List Fact) → Lives t later → AfterReaping t (Renew t ∷ later)

abbrev pub Goes : Layout' → ℕ → Stage → List Fact → Type 0
Goes l t Idle fs = Lives t fs
Goes l t (Calling o p) fs = Doing t (begun_of l o) (acts_by o (decided_at p.phase)) fs
Goes l t (AtCondition c p) fs = Doing t (begun_of l (OnCondition c)) (acts_in c p.phase) fs
Goes l t (Dying w) fs = AfterKill t fs
Goes l t Reaped fs = AfterReaping t fs

-- an access of call o, with these points so far, and where it leads
pub record Follows (l : Layout') (t : ℕ) (o : Op) (ps : List Act) (g : Led) : Type 0 where
  pub on : g.returned ≡ None → (fs : List Fact) → Goes l t g.stage fs → Doing t (begun_of l o) (ps ++ acts_of g.operation g.point) fs
  pub back : (x : Reply) → g.returned ≡ Some x → Complete (operation_of o) (ps ++ acts_of g.operation g.point) x

-- of a call on a mutex, or of the lock that ends a wait
pub call_follows : (l : Layout') (t : ℕ) (o : Op) (p : Whole) (g : Onward) → IsFor l o p.operation → Joins (decided_at p.phase) g.point (decided_at g.phase) → g.point ≢ Some ETIMEDOUT → Follows l t o (acts_by o (decided_at p.phase)) (led o p g)
call_follows l t o p g is joins timely = record { on = λ none fs later. on none fs later; back = λ x e. back x (ended_or_not g.phase) e }
  where
    adds : acts_by o (decided_at g.phase) ≡ acts_by o (decided_at p.phase) ++ acts_of p.operation g.point
    adds = joined_acts l o p.operation (decided_at p.phase) g.point (decided_at g.phase) is joins timely

    on : returned o g.phase ≡ None → (fs : List Fact) → Goes l t (stage_after o p g.phase) fs → Doing t (begun_of l o) (acts_by o (decided_at p.phase) ++ acts_of p.operation g.point) fs
    on none fs later =
        ⊎_elim (λ ended. absurd (cc (sym none ∙ ap (returned o) ended.1)))
        (λ further. subst (λ (ps : List Act). Doing t (begun_of l o) ps fs) adds (subst (λ (z : Stage). Goes l t z fs) (further o p) later))
        (ended_or_not g.phase)

    back : (x : Reply) → ((y : Reply) × (g.phase ≡ Ended y)) ⊎ ((a : Op) (q : Whole) → stage_after a q g.phase ≡ Calling a (record q { phase = g.phase })) → returned o g.phase ≡ Some x → Complete (operation_of o) (acts_by o (decided_at p.phase) ++ acts_of p.operation g.point) x
    back x (inl (y, ended)) e =
        let same : reply_of o y ≡ x = replied (reply_of o y) x (sym (ap (returned o) ended) ∙ e) in
        subst (λ (ps : List Act). Complete (operation_of o) ps x) (sym (ap (λ (f : Phase). acts_by o (decided_at f)) ended) ∙ adds)
        (subst (λ (z : Reply). Complete (operation_of o) (acts_by o (Some y)) z) same (completed l o p.operation y is))
      where
        replied : (a b : Reply) → Some a ≡ Some b → a ≡ b
        replied a b eq = cc
    back x (inr further) e = absurd (never g.phase further e)
      where
        never : (f : Phase) → ((a : Op) (q : Whole) → stage_after a q f ≡ Calling a (record q { phase = f })) → returned o f ≡ Some x → ⊥
        never (Ended z) more h = cc (more o p)
        never f more h = cc h

-- of a call on a condition variable, before that
pub cond_follows : (l : Layout') (t held : ℕ) (c : CondCall) (p : CondWhole) (z : Fields) (w : ℕ) (q : List ℕ) → AtPhase t held (condition.acts_as c) p p.phase z → Follows l t (OnCondition c) (acts_in c p.phase) (led_at c p (cond_led p (answer_among (cond_access p) w q)))
cond_follows l t held c p z w q stands = grind (arith)
