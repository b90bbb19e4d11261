-- What an event does, case by case.
use Rattle.std.proofs.Common.{◌≡◌, ℕ, ◌<◌, ◌≤◌, ◌==◌, Bool, true, false, ◌&&◌, Result, Ok, Err, [], ◌∷◌, refl, sym, ap, ◌∙◌, subst, arith}
use Rattle.protocol.proofs.Vocabulary.{CondCall, condition_of, CondWhole, Mutex, Condition, Layout', IsLayout, acquires, Reply, XHELD, Whole, whole_access, whole_led, Op, OnMutex}
use Rattle.protocol.proofs.Vocabulary.{OnCondition, Event, Step, Stage, Idle, Calling, AtCondition, Dying, mutex_of, Names, State, After, is_alive, killed, may_begin, begun}
use Rattle.protocol.proofs.Vocabulary.{first_stage, nothing, answer_of, is_asleep, led, led_at, went, walked, stepped, happens, if◌then◌else◌, nat_le, nat_tests}
use Rattle.std.proofs.lemmas.List.Elements.{All-get_or}
use Rattle.mutex.specs.Whole.{begins, may_expire}
use Rattle.condvar.specs.Whole as condition
use Rattle.exitwalk.specs.Standings as walks
use Rattle.protocol.specs.declared.event.Event.TheVariants.{Begin, Kill, Leave, Expire, Decline, Renew, Remake, Spare}
use Rattle.mutex.specs.declared.row.Row.TheVariants.{Unlock}
use Rattle.protocol.proofs.Vocabulary.{Call, departed, lapsed, renewed, reinited, spared, sleeps, Reaped, Trimmed, Phase, AtCell, UnlockRow, not, nat_lt, Object, MayRemake, waiters_of, cell_place}
use Rattle.protocol.proofs.Vocabulary.{CondPhase, CondRow, WaitRow, cond_led, Count, is_calling, Led, is_left_to, LeftTo, sparing, wakes_one}
use Rattle.protocol.proofs.Stepping.{wakes_next}
use Rattle.protocol.proofs.Endings.{EndsOrGoes, call_ends, cond_ends}
use Rattle.protocol.proofs.Steps.{seen-inside}
use Rattle.condvar.specs.Ops.{acts_as, operation_of, is_in, may_call}
use Rattle.condvar.specs.Calls.{is_ahead}
use Rattle.condvar.specs.declared.call.Limit.{Limit}
use Rattle.protocol.specs.Applies.{BeginsAhead}
use Rattle.protocol.specs.Machine.{overslept, waits_on}
use Rattle.protocol.specs.Machine.{has_thread, is_gone, is_idle, is_trim, is_unusable, may_remake, declined, expired}

-- whoever may begin is idle
pub at_rest : (g : Stage) → is_idle g ≡ true → g ≡ Idle
at_rest g e = grind (arith)

-- whoever was reaped stands so
reaped_is : (g : Stage) → is_gone g ≡ true → g ≡ Reaped
reaped_is g e = grind (arith)

-- a thread that is known
pub is_known : (s : State) (t : ℕ) → 1 ≤ t → t ≤ s.layout.threads → has_thread s t ≡ true
is_known s t pos known = grind (arith, nat_tests)

-- ---- calls that begin

-- what a call names is the layout's
pub names_so : (l : Layout') (o : Op) → is_in l o ≡ true → Names l o
names_so l (OnMutex c) e = grind (arith, nat_tests)
names_so l (OnCondition c) e = grind (arith, nat_tests)

-- and a wait with a time limit begins while that is still to come
pub may_so : (l : Layout') (o : Op) → may_call l o ≡ true → (is_in l o ≡ true) × BeginsAhead o
may_so l (OnMutex c) e = (e, tt)
may_so l (OnCondition c) e = both (is_in l (OnCondition c)) (is_ahead c) e
  where
    both : (a b : Bool) → (a && b) ≡ true → (a ≡ true) × (b ≡ true)
    both true true e = (refl, refl)
    both true false e = absurd cc
    both false b e = absurd cc

pub may_again : (l : Layout') (o : Op) → is_in l o ≡ true → BeginsAhead o → may_call l o ≡ true
may_again l (OnMutex c) inside ahead = inside
may_again l (OnCondition c) inside ahead = λ i. inside i && ahead i

-- so is its mutex
pub names_mutex : (l : Layout') (o : Op) → IsLayout l → Names l o → mutex_of l o < l.mutexes
names_mutex l (OnMutex c) is there = there
names_mutex l (OnCondition c) is there = All-get_or (λ (m : ℕ). m < l.mutexes) l.conditions (condition_of c) 0 there is.conditions.1

-- where a call begins that isn't refused
abbrev pub begins_at : Layout' → ℕ → Op → Stage
begins_at l t (OnMutex c) = Calling (OnMutex c) (begins l t c)
begins_at l t (OnCondition c) = AtCondition c (condition.begins l t c)

-- one that takes a mutex is refused where its thread owns 2,048
pub first_is : (l : Layout') (t held : ℕ) (o : Op) → first_stage l t held o ≡ (if acquires (operation_of o) && nat_le 2048 held then Err XHELD else Ok (begins_at l t o))
first_is l t held o = grind (arith)

-- what it may take while its limit hasn't come
pub acquires_same : (o : Op) → acquires (acts_as o) ≡ acquires (operation_of o)
acquires_same (OnMutex (Call.Lock m)) = refl
acquires_same (OnMutex (Call.TimedLock m)) = refl
acquires_same (OnMutex (Call.TryLock m)) = refl
acquires_same (OnMutex (Call.Unlock m)) = refl
acquires_same (OnMutex (Call.Consistent m)) = refl
acquires_same (OnCondition (CondCall.Wait k)) = refl
acquires_same (OnCondition (CondCall.TimedWait k x)) = refl
acquires_same (OnCondition (CondCall.Signal k)) = refl
acquires_same (OnCondition (CondCall.Broadcast k)) = refl

-- ---- trims

-- an unlock is about to make one
abbrev pub IsTrimming : Whole → Type 0
IsTrimming p = p.phase ≡ AtCell (Unlock UnlockRow.Trim)

pub trims_at : (p : Whole) (f : Phase) → is_trim (whole_access (record p { phase = f })) ≡ true → f ≡ AtCell (Unlock UnlockRow.Trim)
trims_at p f e = grind (arith)

-- ---- remakes

-- what the tests say
pub remake_so : (s : State) (t m : ℕ) → may_remake s t m ≡ true → MayRemake s t m
remake_so s t m e =
    let inside : m < s.layout.mutexes = grind (arith, nat_tests) in
    let unusable : is_unusable s m ≡ true = grind (arith, nat_tests) in
    record {
      first = grind (arith, nat_tests);
      last = grind (arith, nat_tests);
      resting = at_rest (s.threads t).stage (grind (arith, nat_tests));
      inside = inside;
      unusable = ap (λ (o : Object). o.unusable) (seen-inside s m inside) ∙ unusable;
    }

-- where it may, the tests say so
pub remake_again : (s : State) (t m : ℕ) → MayRemake s t m → may_remake s t m ≡ true
remake_again s t m may =
    let known : has_thread s t ≡ true = is_known s t may.first may.last in
    let resting : is_idle (s.threads t).stage ≡ true = ap is_idle may.resting in
    let below : m < s.layout.mutexes = may.inside in
    let inside : nat_lt m s.layout.mutexes ≡ true = grind (arith, nat_tests) in
    let unusable : is_unusable s m ≡ true = sym (ap (λ (o : Object). o.unusable) (seen-inside s m may.inside)) ∙ may.unusable in
    grind (arith)

-- ---- spares

-- how it goes on: an unlock, or a wait
pub data HowSpared (s : State) (t m : ℕ) (g : Led) : Type 0 where
  Of_unlock : (o : Op) (p : Whole) → (s.threads t).stage ≡ Calling o p → m ≡ mutex_of s.layout o → p.phase ≡ AtCell (Unlock (UnlockRow.Wake false)) → g ≡ led o p (whole_led p (Count 1)) → HowSpared s t m g
  Of_wait : (c : CondCall) (p : CondWhole) (seen : ℕ) → (s.threads t).stage ≡ AtCondition c p → m ≡ mutex_of s.layout (OnCondition c) → p.phase ≡ CondPhase.AtWords (CondRow.Wait (WaitRow.Wake seen)) → g ≡ led_at c p (cond_led p (Count 1)) → HowSpared s t m g

pub record Sparing (s : State) (t m : ℕ) (g : Led) : Type 0 where
  pub first : 1 ≤ t
  pub last : t ≤ s.layout.threads
  pub how : HowSpared s t m g
  pub by : LeftTo
  pub left : is_left_to s t m by ≡ true

pub spared_calls : (s : State) (t m : ℕ) (g : Led) → HowSpared s t m g → is_calling (s.threads t).stage ≡ true
spared_calls s t m g (Of_unlock o p is mutex at leads) = ap is_calling is
spared_calls s t m g (Of_wait c p seen is mutex at leads) = ap is_calling is

pub spared_ends : (s : State) (t m : ℕ) (g : Led) → HowSpared s t m g → EndsOrGoes g.stage g.returned
spared_ends s t m g (Of_unlock o p is mutex at leads) = subst (λ (z : Led). EndsOrGoes z.stage z.returned) (sym leads) (call_ends o p (whole_led p (Count 1)))
spared_ends s t m g (Of_wait c p seen is mutex at leads) = subst (λ (z : Led). EndsOrGoes z.stage z.returned) (sym leads) (cond_ends c p (cond_led p (Count 1)))

-- at which phases
wakes_at : (f : Phase) → wakes_one f ≡ true → f ≡ AtCell (Unlock (UnlockRow.Wake false))
wakes_at f e = grind (arith)

waits_at : (f : CondPhase) → wakes_next f ≡ true → (seen : ℕ) × (f ≡ CondPhase.AtWords (CondRow.Wait (WaitRow.Wake seen)))
waits_at (CondPhase.AtWords (CondRow.Wait (WaitRow.Wake seen))) e = (seen, refl)
waits_at f e = absurd cc

-- ---- events

-- what holds where nothing happens, of a begin that isn't refused and of one that is, of a step, of a death, of a sleeper's leave, of a time limit of a lock and of one of a wait,
-- of a trim that is declined, of a renewal, of a remake, and of a wake that is spared, holds of each event
pub by_event : (s : State) (P : Event → After → Type 0) → ((e : Event) → P e (nothing s))
    → ((t : ℕ) (o : Op) → 1 ≤ t → t ≤ s.layout.threads → Names s.layout o → (s.threads t).stage ≡ Idle → (b : Bool) → (acquires (operation_of o) && nat_le 2048 (s.threads t).held) ≡ b → P (Begin t o) (begun s t o (if b then Err XHELD else Ok (begins_at s.layout t o))))
    → ((t : ℕ) → 1 ≤ t → t ≤ s.layout.threads → P (Step t) (stepped s t (s.threads t).held (s.threads t).stage))
    → ((t : ℕ) → 1 ≤ t → t ≤ s.layout.threads → is_alive (s.threads t).stage ≡ true → P (Kill t) (killed s t))
    → ((t : ℕ) → 1 ≤ t → t ≤ s.layout.threads → is_asleep s t ≡ true → P (Leave t) (departed s t))
    → ((t m : ℕ) (p : Whole) → 1 ≤ t → t ≤ s.layout.threads → (s.threads t).stage ≡ Calling (OnMutex (Call.TimedLock m)) p → is_asleep s t ≡ true → may_expire p.phase ≡ true
    → P (Expire t) (lapsed s t (s.threads t).held (OnMutex (Call.TimedLock m)) p))
    → ((t k : ℕ) (x : Limit) (p : Whole) → 1 ≤ t → t ≤ s.layout.threads → (s.threads t).stage ≡ Calling (OnCondition (CondCall.TimedWait k x)) p → waits_on s t k ≡ true
    → P (Expire t) (overslept s t (s.threads t).held k p))
    → ((t : ℕ) (o : Op) (p : Whole) → 1 ≤ t → t ≤ s.layout.threads → (s.threads t).stage ≡ Calling o p → is_asleep s t ≡ false → IsTrimming p
    → P (Decline t) (spared s t (s.threads t).held (mutex_of s.layout o) (led o p (whole_led p (Trimmed false)))))
    → ((t : ℕ) → 1 ≤ t → t ≤ s.layout.threads → (s.threads t).stage ≡ Reaped → P (Renew t) (renewed s t))
    → ((t m : ℕ) → MayRemake s t m → P (Remake t m) (reinited s t m (waiters_of (s.words (cell_place s.layout m)))))
    → ((t m : ℕ) (g : Led) (sp : Sparing s t m g) → P (Spare t sp.by) (spared s t (s.threads t).held m g))
    → (e : Event) → P e (happens s e)
by_event s P none begins_so steps_so kills_so leaves_so expires_so oversleeps_so declines_so renews_so remakes_so spares_so (Begin t o) = go (may_begin s t o) refl
  where
    go : (b : Bool) → may_begin s t o ≡ b → P (Begin t o) (if b then begun s t o (first_stage s.layout t (s.threads t).held o) else nothing s)
    go true e =
        let pos : 1 ≤ t = grind (arith, nat_tests) in
        let known : t ≤ s.layout.threads = grind (arith, nat_tests) in
        let may : may_call s.layout o ≡ true = grind (arith, nat_tests) in
        let inside : is_in s.layout o ≡ true = (may_so s.layout o may).0 in
        subst (λ (r : Result Stage Reply). P (Begin t o) (begun s t o r)) (sym (first_is s.layout t (s.threads t).held o))
        (begins_so t o pos known (names_so s.layout o inside) (at_rest (s.threads t).stage (grind (arith, nat_tests))) (acquires (operation_of o) && nat_le 2048 (s.threads t).held) refl)
    go false e = none (Begin t o)
by_event s P none begins_so steps_so kills_so leaves_so expires_so oversleeps_so declines_so renews_so remakes_so spares_so (Step t) = grind (arith)
by_event s P none begins_so steps_so kills_so leaves_so expires_so oversleeps_so declines_so renews_so remakes_so spares_so (Kill t) = grind (arith)
by_event s P none begins_so steps_so kills_so leaves_so expires_so oversleeps_so declines_so renews_so remakes_so spares_so (Leave t) = grind (arith)
by_event s P none begins_so steps_so kills_so leaves_so expires_so oversleeps_so declines_so renews_so remakes_so spares_so (Expire t) = go (has_thread s t) refl
  where
    lapses : (m : ℕ) (p : Whole) → has_thread s t ≡ true → (s.threads t).stage ≡ Calling (OnMutex (Call.TimedLock m)) p → (a : Bool) → may_expire p.phase ≡ a → (b : Bool) → sleeps s t (Calling (OnMutex (Call.TimedLock m)) p) ≡ b
        → P (Expire t) (if a && b then lapsed s t (s.threads t).held (OnMutex (Call.TimedLock m)) p else nothing s)
    lapses m p there is true may true asleep =
        let pos : 1 ≤ t = grind (arith, nat_tests) in
        let known : t ≤ s.layout.threads = grind (arith, nat_tests) in
        expires_so t m p pos known is (ap (sleeps s t) is ∙ asleep) may
    lapses m p there is true may false awake = none (Expire t)
    lapses m p there is false may b e = none (Expire t)

    oversleeps : (k : ℕ) (x : Limit) (p : Whole) → has_thread s t ≡ true → (s.threads t).stage ≡ Calling (OnCondition (CondCall.TimedWait k x)) p → (a : Bool) → waits_on s t k ≡ a
        → P (Expire t) (if a then overslept s t (s.threads t).held k p else nothing s)
    oversleeps k x p there is true waits = oversleeps_so t k x p (grind (arith, nat_tests)) (grind (arith, nat_tests)) is waits
    oversleeps k x p there is false e = none (Expire t)

    at : has_thread s t ≡ true → (g : Stage) → (s.threads t).stage ≡ g → P (Expire t) (expired s t (s.threads t).held g)
    at there (Calling (OnCondition (CondCall.TimedWait k x)) p) is = oversleeps k x p there is (waits_on s t k) refl
    at there (Calling (OnMutex (Call.TimedLock m)) p) is = lapses m p there is (may_expire p.phase) refl (sleeps s t (Calling (OnMutex (Call.TimedLock m)) p)) refl
    at there g is = none (Expire t)

    go : (b : Bool) → has_thread s t ≡ b → P (Expire t) (if b then expired s t (s.threads t).held (s.threads t).stage else nothing s)
    go true there = at there (s.threads t).stage refl
    go false e = none (Expire t)
by_event s P none begins_so steps_so kills_so leaves_so expires_so oversleeps_so declines_so renews_so remakes_so spares_so (Decline t) = go (has_thread s t) refl
  where
    trims : (o : Op) (p : Whole) → has_thread s t ≡ true → (s.threads t).stage ≡ Calling o p → (a : Bool) → is_trim (whole_access p) ≡ a → (b : Bool) → sleeps s t (Calling o p) ≡ b
        → P (Decline t) (if a && not b then spared s t (s.threads t).held (mutex_of s.layout o) (led o p (whole_led p (Trimmed false))) else nothing s)
    trims o p there is true trim false awake =
        let pos : 1 ≤ t = grind (arith, nat_tests) in
        let known : t ≤ s.layout.threads = grind (arith, nat_tests) in
        declines_so t o p pos known is (ap (sleeps s t) is ∙ awake) (trims_at p p.phase trim)
    trims o p there is true trim true asleep = none (Decline t)
    trims o p there is false other b e = none (Decline t)

    at : has_thread s t ≡ true → (g : Stage) → (s.threads t).stage ≡ g → P (Decline t) (declined s t (s.threads t).held g)
    at there (Calling o p) is = trims o p there is (is_trim (whole_access p)) refl (sleeps s t (Calling o p)) refl
    at there g is = none (Decline t)

    go : (b : Bool) → has_thread s t ≡ b → P (Decline t) (if b then declined s t (s.threads t).held (s.threads t).stage else nothing s)
    go true there = at there (s.threads t).stage refl
    go false e = none (Decline t)
by_event s P none begins_so steps_so kills_so leaves_so expires_so oversleeps_so declines_so renews_so remakes_so spares_so (Renew t) = go (has_thread s t && is_gone (s.threads t).stage) refl
  where
    go : (b : Bool) → (has_thread s t && is_gone (s.threads t).stage) ≡ b → P (Renew t) (if b then renewed s t else nothing s)
    go true e =
        let pos : 1 ≤ t = grind (arith, nat_tests) in
        let known : t ≤ s.layout.threads = grind (arith, nat_tests) in
        renews_so t pos known (reaped_is (s.threads t).stage (grind (arith, nat_tests)))
    go false e = none (Renew t)
by_event s P none begins_so steps_so kills_so leaves_so expires_so oversleeps_so declines_so renews_so remakes_so spares_so (Remake t m) = go (may_remake s t m) refl
  where
    go : (b : Bool) → may_remake s t m ≡ b → P (Remake t m) (if b then reinited s t m (waiters_of (s.words (cell_place s.layout m))) else nothing s)
    go true e = remakes_so t m (remake_so s t m e)
    go false e = none (Remake t m)
by_event s P none begins_so steps_so kills_so leaves_so expires_so oversleeps_so declines_so renews_so remakes_so spares_so (Spare t by) = go (has_thread s t) refl
  where
    calls : (o : Op) (p : Whole) → has_thread s t ≡ true → (s.threads t).stage ≡ Calling o p → (a : Bool) → wakes_one p.phase ≡ a → (b : Bool) → is_left_to s t (mutex_of s.layout o) by ≡ b
        → P (Spare t by) (if a && b then spared s t (s.threads t).held (mutex_of s.layout o) (led o p (whole_led p (Count 1))) else nothing s)
    calls o p there is true wakes true left =
        spares_so t (mutex_of s.layout o) (led o p (whole_led p (Count 1))) record { first = grind (arith, nat_tests); last = grind (arith, nat_tests); how = Of_unlock o p is refl (wakes_at p.phase wakes) refl; by = by; left = left }
    calls o p there is true wakes false none_left = none (Spare t by)
    calls o p there is false other b e = none (Spare t by)

    waits : (c : CondCall) (p : CondWhole) → has_thread s t ≡ true → (s.threads t).stage ≡ AtCondition c p → (a : Bool) → wakes_next p.phase ≡ a → (b : Bool) → is_left_to s t (mutex_of s.layout (OnCondition c)) by ≡ b
        → P (Spare t by) (if a && b then spared s t (s.threads t).held (mutex_of s.layout (OnCondition c)) (led_at c p (cond_led p (Count 1))) else nothing s)
    waits c p there is true wakes true left =
        let at = waits_at p.phase wakes in
        spares_so t (mutex_of s.layout (OnCondition c)) (led_at c p (cond_led p (Count 1))) record { first = grind (arith, nat_tests); last = grind (arith, nat_tests); how = Of_wait c p at.0 is refl at.1 refl; by = by; left = left }
    waits c p there is true wakes false none_left = none (Spare t by)
    waits c p there is false other b e = none (Spare t by)

    at : has_thread s t ≡ true → (g : Stage) → (s.threads t).stage ≡ g → P (Spare t by) (sparing s t by (s.threads t).held g)
    at there (Calling o p) is = calls o p there is (wakes_one p.phase) refl (is_left_to s t (mutex_of s.layout o) by) refl
    at there (AtCondition c p) is = waits c p there is (wakes_next p.phase) refl (is_left_to s t (mutex_of s.layout (OnCondition c)) by) refl
    at there g is = none (Spare t by)

    go : (b : Bool) → has_thread s t ≡ b → P (Spare t by) (if b then sparing s t by (s.threads t).held (s.threads t).stage else nothing s)
    go true there = at there (s.threads t).stage refl
    go false e = none (Spare t by)

-- ---- steps

-- in a call, or killed and not reaped
abbrev pub IsWorking : Stage → Type 0
IsWorking (Calling o p) = Unit {0}
IsWorking (AtCondition c p) = Unit {0}
IsWorking (Dying w) = Unit {0}
IsWorking g = ⊥

-- what holds of a thread that rests or sleeps, where nothing happens, of each access of a call, and of each of a walk, holds of its step
pub by_stage : (s : State) (t : ℕ) (P : After → Type 0) → ((is_asleep s t ≡ false → IsWorking (s.threads t).stage → ⊥) → P (nothing s))
    → ((o : Op) (p : Whole) → (s.threads t).stage ≡ Calling o p → is_asleep s t ≡ false → P (went s t (s.threads t).held (mutex_of s.layout o) (Mutex (mutex_of s.layout o)) (whole_access p) (led o p (whole_led p (answer_of s t (whole_access p))))))
    → ((c : CondCall) (p : CondWhole) → (s.threads t).stage ≡ AtCondition c p → is_asleep s t ≡ false
    → P (went s t (s.threads t).held (mutex_of s.layout (OnCondition c)) (Condition (condition_of c)) (condition.cond_access p) (led_at c p (condition.cond_led p (answer_of s t (condition.cond_access p))))))
    → ((w : walks.Standing) → (s.threads t).stage ≡ Dying w → is_asleep s t ≡ false → P (walked s t (s.threads t).held w))
    → P (stepped s t (s.threads t).held (s.threads t).stage)
by_stage s t P none calls_on conditions_on walks_on = grind (arith)
