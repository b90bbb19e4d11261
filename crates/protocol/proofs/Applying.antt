-- Which events apply.
use Rattle.std.proofs.Common.{◌≡◌, ◌≢◌, ℕ, ◌≤◌, ◌==◌, Bool, true, false, ◌&&◌, Option, None, Ok, Err, List, [], ◌∷◌, ◌++◌, refl, sym, ap, ◌∙◌, subst, arith, eq-eqb}
use Rattle.protocol.proofs.Vocabulary.{LeftTo, Left, Renewed, Reinited, Trimmed, spared, departed, renewed, reinited, waiters_of, MayRemake, Whole, cell_place}
use Rattle.protocol.proofs.Vocabulary.{Past, Limit}
use Rattle.protocol.specs.Machine.{is_gone, may_remake}
use Rattle.protocol.proofs.Departures.{asleep_where}
use Rattle.mutex.specs.Whole.{may_expire, timed_out}
use Rattle.protocol.proofs.Vocabulary.{Call, OnMutex}
use Rattle.protocol.proofs.Expiring.{lapse_goes, loads_next}
use Rattle.protocol.proofs.Declines.{decline_goes, decline_rests}
use Rattle.protocol.proofs.Queued.{asleep_there}
use Rattle.protocol.proofs.Events.{trims_at}
use Rattle.protocol.specs.Machine.{is_trim}
use Rattle.protocol.specs.Applies.{Agrees, IsQuietAccessOf, IsTold}
use Rattle.protocol.specs.PassedBy.{call_told}
use Rattle.protocol.proofs.CallsTold.{told_run}
use Rattle.protocol.proofs.Vocabulary.{cond_access, cond_led, Mutex, Condition, Queue, Fact, Decision, Layout', Access, Reply, XHELD, whole_access, whole_led, Op, OnMutex}
use Rattle.protocol.proofs.Vocabulary.{OnCondition, mutex_of, begun_of, Event, Note, Began, Stepped, Walked, Thread, Stage, Idle, Calling, Dying, Reaped, facts_of}
use Rattle.protocol.proofs.Vocabulary.{return_facts, reap_facts, State, After, put, start, answer_of, is_calling, is_alive, begun, nothing, decision, slept_in, falls_asleep, woken}
use Rattle.protocol.proofs.Vocabulary.{held_after, led, led_at, went, has_ended, stage_walked, walked, killed, stepped, happens, run, notes, facts_among, if◌then◌else◌, nat_tests}
use Rattle.protocol.proofs.Vocabulary.{Operation, Told, AtRest, InCall, Dead, Gone, told_next, told_after, last_told, IsLiving, HasAccess, IsThread, IsInNoQueue, Applies, refusal}
use Rattle.protocol.proofs.Vocabulary.{IsAccessOf, IsNotedAs, NextApplies, EventsApply, Killed, is_asleep}
use Rattle.condvar.specs.Calls as condition
use Rattle.exitwalk.specs.declared.row.Row as walk_row
use Rattle.exitwalk.specs.declared.row.Row.TheVariants as walk
use Rattle.exitwalk.specs.Standings as walks
use Rattle.exitwalk.specs.Walks as exit
use Rattle.protocol.specs.Machine.{has_thread, Led, death_at}
use Rattle.protocol.specs.Machine.{moved as moved_then}
use Rattle.protocol.specs.Machine.{told_of as told_of_death}
use Rattle.protocol.proofs.Puts.{by_put}
use Rattle.protocol.proofs.Kept.{Kept}
use Rattle.protocol.proofs.Runs.{start_kept, run_kept, run_layout}
use Rattle.protocol.proofs.Events.{begins_at, by_event, remake_so, remake_again, IsWorking, by_stage}
use Rattle.protocol.proofs.Endings.{EndsOrGoes, call_ends, cond_ends}
use Rattle.protocol.proofs.Queued.{Queued, out_awake, in_none}
use Rattle.protocol.proofs.QueueRuns.{run_queued}
use Rattle.protocol.proofs.NoteFacts.{IsOfSleep, of_access, of_walk}
use Rattle.protocol.proofs.Vocabulary.{WakesOneOf, In_unlock, In_wait}
use Rattle.protocol.specs.Applies.{IsSparedAccessOf}
use Rattle.protocol.proofs.Events.{spared_calls, spared_ends}
use Rattle.protocol.proofs.Sparing.{unwoken, spare_goes, spare_rests}
use Rattle.protocol.proofs.Vocabulary.{CondCall, CondWhole, AtCondition}
use Rattle.protocol.specs.Machine.{is_idle}
use Rattle.protocol.proofs.Oversleeping.{oversleep_goes}
use Rattle.std.proofs.Common.{Result, Some, inl, inr}
use Rattle.protocol.proofs.Events.{at_rest}
use Rattle.condvar.specs.Ops.{is_in, may_call, operation_of}
use Rattle.protocol.proofs.Events.{first_is, names_so, may_so, may_again}
use Rattle.protocol.proofs.Vocabulary.{first_stage, acquires, nat_le, may_begin, Names, Expired}

-- ---- what the trace told of a thread is where it stands

living_agrees : (w : Told) (g : Stage) → Agrees w g → IsLiving w → is_alive g ≡ true
living_agrees w g a living = grind (arith)

reaped_agrees : (w : Told) (g : Stage) → Agrees w g → w ≡ Gone → is_gone g ≡ true
reaped_agrees w g a gone = grind (arith)

told_reaped : (w : Told) (g : Stage) → Agrees w g → is_gone g ≡ true → w ≡ Gone
told_reaped w g a gone = grind (arith)

walks_on : (w : Told) (v x : walks.Standing) → Agrees w (Dying v) → Agrees w (Dying x)
walks_on Dead v x a = tt
walks_on w v x a = absurd a

-- ---- facts of an event

told_after-append : (t : ℕ) (w : Told) (fs gs : List Fact) → told_after t w (fs ++ gs) ≡ told_after t (told_after t w fs) gs
told_after-append t w [] gs = refl
told_after-append t w (f ∷ fs) gs = told_after-append t (told_next t w f) fs gs

-- nothing is recorded by wakes and moves
told_sleep : (t u : ℕ) (w : Told) (f : Fact) → IsOfSleep u f → told_next t w f ≡ w
told_sleep t u w f of = grind (arith)

told_stepped : (t : ℕ) (w : Told) (u m : ℕ) (point : Option Decision) (slept : Option Queue) (us ms : List ℕ) (reply : Option Reply) → told_after t w (facts_of (Stepped u m point slept us ms reply)) ≡ told_after t w (return_facts u reply)
told_stepped t w u m point slept us ms reply =
    of_access (λ (fs : List Fact). told_after t w fs ≡ told_after t w (return_facts u reply)) u m point slept us ms reply (λ e fs same. same)
    (λ f of fs same. ap (λ (v : Told). told_after t v fs) (told_sleep t u w f of) ∙ same) refl

told_walked : (t : ℕ) (w : Told) (u : ℕ) (death : Option ℕ) (us : List ℕ) (ended : Bool) → told_after t w (facts_of (Walked u death us ended)) ≡ told_after t w (reap_facts u ended)
told_walked t w u death us ended = of_walk (λ (fs : List Fact). told_after t w fs ≡ told_after t w (reap_facts u ended)) u death us ended (λ m fs same. same) (λ v fs same. same) refl

-- of whose thread it is
same_thread : (u t : ℕ) (x y : Told) → t ≡ u → (if u == t then x else y) ≡ x
same_thread u t x y is = ap (λ (b : Bool). if b then x else y) (eq-eqb u t (sym is))

other_thread : (u t : ℕ) (x y : Told) → t ≢ u → (if u == t then x else y) ≡ y
other_thread u t x y apart = grind (arith)

-- an event of thread u tells that it stands so, and puts it there
module _ (s : State) (u t : ℕ) (w x : Told) (z : Thread) (a : Agrees w (s.threads t).stage) where
  moved : Agrees x z.stage → Agrees (if u == t then x else w) (put s.threads u z t).stage
  moved b = by_put (λ (y : Thread). Agrees (if u == t then x else w) y.stage) s.threads u z t
      (λ is. subst (λ (v : Told). Agrees v z.stage) (sym (same_thread u t x w is)) b)
      (λ apart. subst (λ (v : Told). Agrees v (s.threads t).stage) (sym (other_thread u t x w apart)) a)

  -- or tells nothing, and leaves it where it agrees as before
  unmoved : (t ≡ u → Agrees w z.stage) → Agrees w (put s.threads u z t).stage
  unmoved b = by_put (λ (y : Thread). Agrees w y.stage) s.threads u z t b (λ apart. a)

-- a call that is refused, or a remake, begins and returns
refused_agrees : (s : State) (u t : ℕ) (w : Told) → (s.threads u).stage ≡ Idle → Agrees w (s.threads t).stage → Agrees (if u == t then AtRest else if u == t then InCall else w) (s.threads t).stage
refused_agrees s u t w idle a = grind (arith)

begins_agrees : (l : Layout') (t : ℕ) (o : Op) → Agrees InCall (begins_at l t o)
begins_agrees l t (OnMutex c) = tt
begins_agrees l t (OnCondition c) = tt

begun_agrees : (s : State) (u t : ℕ) (o : Op) (w : Told) → (s.threads u).stage ≡ Idle → Agrees w (s.threads t).stage → (b : Bool)
    → Agrees (told_after t w (facts_of (begun s u o (if b then Err XHELD else Ok (begins_at s.layout u o))).note)) ((begun s u o (if b then Err XHELD else Ok (begins_at s.layout u o))).state.threads t).stage
begun_agrees s u t o w idle a true = refused_agrees s u t w idle a
begun_agrees s u t o w idle a false = moved s u t w InCall (record (s.threads u) { stage = begins_at s.layout u o }) a (begins_agrees s.layout u o)

-- an access of a call
returned_agrees : (s : State) (u t held : ℕ) (w : Told) (g : Stage) (y : Option Reply) → is_calling (s.threads u).stage ≡ true → EndsOrGoes g y → Agrees w (s.threads t).stage
    → Agrees (told_after t w (return_facts u y)) (put s.threads u (record { stage = g; held = held }) t).stage
returned_agrees s u t held w g y calls ends a = grind (arith)

-- an access of a walk
walked_agrees : (s : State) (u t held : ℕ) (v : walks.Standing) (w : Told) → (s.threads u).stage ≡ Dying v → Agrees w (s.threads t).stage → (r : walk_row.Row)
    → Agrees (told_after t w (reap_facts u (has_ended r))) (put s.threads u (record { stage = stage_walked v r; held = held }) t).stage
walked_agrees s u t held v w is a walk.Ended = moved s u t w Gone (record { stage = Reaped; held = held }) a tt
walked_agrees s u t held v w is a r = unmoved s u t w Gone (record { stage = Dying (record v { row = r }); held = held }) a
    (λ same. walks_on w v (record v { row = r }) (subst (Agrees w) (ap (λ (y : ℕ). (s.threads y).stage) same ∙ is) a))

went_agrees : (s : State) (u t held m : ℕ) (k : Queue) (x : Access) (g : Led) (w : Told) → is_calling (s.threads u).stage ≡ true → EndsOrGoes g.stage g.returned → Agrees w (s.threads t).stage
    → Agrees (told_after t w (facts_of (went s u held m k x g).note)) ((went s u held m k x g).state.threads t).stage
went_agrees s u t held m k x g w calls ends a =
    subst (λ (y : Told). Agrees y ((went s u held m k x g).state.threads t).stage) (sym (told_stepped t w u m (decision u m g.operation g.point) (slept_in k (falls_asleep s u x)) (woken s u x) (moved_then s u x) g.returned))
    (returned_agrees s u t (held_after held g.operation g.point) w g.stage g.returned calls ends a)

spared_agrees : (s : State) (u t held m : ℕ) (g : Led) (w : Told) → is_calling (s.threads u).stage ≡ true → EndsOrGoes g.stage g.returned → Agrees w (s.threads t).stage
    → Agrees (told_after t w (facts_of (spared s u held m g).note)) ((spared s u held m g).state.threads t).stage
spared_agrees s u t held m g w calls ends a =
    subst (λ (y : Told). Agrees y ((spared s u held m g).state.threads t).stage) (sym (told_stepped t w u m (decision u m g.operation g.point) None [] [] g.returned))
    (returned_agrees s u t (held_after held g.operation g.point) w g.stage g.returned calls ends a)

on_a_walk_agrees : (s : State) (u t : ℕ) (w : Told) → Agrees w (s.threads t).stage → (v : walks.Standing) → (s.threads u).stage ≡ Dying v
    → Agrees (told_after t w (facts_of (walked s u (s.threads u).held v).note)) ((walked s u (s.threads u).held v).state.threads t).stage
on_a_walk_agrees s u t w a v is =
    let answer = answer_of s u (exit.access_of v) in
    let death = death_at s.layout u (exit.point_of v.thread v.row answer) in
    let r = exit.row_after v.thread v.head v.row answer in
    subst (λ (x : Told). Agrees x ((walked s u (s.threads u).held v).state.threads t).stage) (sym (told_walked t w u death (woken s u (exit.access_of v)) (has_ended r)))
    (walked_agrees s u t (held_after (s.threads u).held Operation.Death (told_of_death death)) v w is a r)

calls_on : (w : Told) (o : Op) (p q : Whole) → Agrees w (Calling o p) → Agrees w (Calling o q)
calls_on w o p q a = grind (arith)

calls_over : (w : Told) (o c : Op) (p q : Whole) → Agrees w (Calling o p) → Agrees w (Calling c q)
calls_over w o c p q a = grind (arith)

next_agrees : (s : State) (e : Event) (t : ℕ) (w : Told) → Agrees w (s.threads t).stage → Agrees (told_after t w (facts_of (happens s e).note)) ((happens s e).state.threads t).stage
next_agrees s e t w a =
    by_event s (λ (x : Event) (z : After). Agrees (told_after t w (facts_of z.note)) (z.state.threads t).stage)
    (λ x. a)
    (λ u o pos known inside idle b full. begun_agrees s u t o w idle a b)
    (λ u pos known.
    by_stage s u (λ (z : After). Agrees (told_after t w (facts_of z.note)) (z.state.threads t).stage) (λ rests. a)
    (λ o p is awake. went_agrees s u t (s.threads u).held (mutex_of s.layout o) (Mutex (mutex_of s.layout o)) (whole_access p) (led o p (whole_led p (answer_of s u (whole_access p)))) w (ap is_calling is)
    (call_ends o p (whole_led p (answer_of s u (whole_access p)))) a)
    (λ c p is awake. went_agrees s u t (s.threads u).held (mutex_of s.layout (OnCondition c)) (Condition (condition.condition_of c)) (cond_access p) (led_at c p (cond_led p (answer_of s u (cond_access p)))) w (ap is_calling is)
    (cond_ends c p (cond_led p (answer_of s u (cond_access p)))) a)
    (λ v is awake. on_a_walk_agrees s u t w a v is))
    (λ u pos known alive. moved s u t w Dead _ a tt)
    (λ u pos known asleep. a)
    (λ u m p pos known is asleep may. unmoved s u t w Gone (record { stage = Calling (OnMutex (Call.TimedLock m)) (timed_out p); held = (s.threads u).held }) a (λ same. calls_on w (OnMutex (Call.TimedLock m)) p (timed_out p) (subst (Agrees w) (ap (λ (y : ℕ). (s.threads y).stage) same ∙ is) a)))
    (λ u k x p pos known is there. unmoved s u t w Gone (record { stage = Calling (OnCondition (CondCall.TimedWait k Past)) p; held = (s.threads u).held }) a (λ same. calls_over w (OnCondition (CondCall.TimedWait k x)) (OnCondition (CondCall.TimedWait k Past)) p p (subst (Agrees w) (ap (λ (y : ℕ). (s.threads y).stage) same ∙ is) a)))
    (λ u o p pos known is awake trims. spared_agrees s u t (s.threads u).held (mutex_of s.layout o) (led o p (whole_led p (Trimmed false))) w (ap is_calling is) (call_ends o p (whole_led p (Trimmed false))) a)
    (λ u pos known gone. moved s u t w AtRest _ a tt)
    (λ u m may. refused_agrees s u t w may.resting a)
    (λ u m g sp. spared_agrees s u t (s.threads u).held m g w (spared_calls s u m g sp.how) (spared_ends s u m g sp.how) a)
    e

pub run_agrees : (s : State) (es : List Event) (t : ℕ) (w : Told) → Agrees w (s.threads t).stage → Agrees (told_after t w (facts_among (notes s es))) ((run s es).threads t).stage
run_agrees s [] t w a = a
run_agrees s (e ∷ es) t w a =
    let n = (happens s e).note in
    subst (λ (x : Told). Agrees x ((run (happens s e).state es).threads t).stage) (sym (told_after-append t w (facts_of (happens s e).note) (facts_among (notes (happens s e).state es))))
    (run_agrees (happens s e).state es t (told_after t w (facts_of (happens s e).note)) (next_agrees s e t w a))

-- ---- so each event applies where the trace says so

both : (a b : Bool) → a ≡ true → b ≡ true → (a && b) ≡ true
both true true e f = refl
both true false e f = f
both false b e f = e

rest_idles : (g : Stage) → Agrees AtRest g → is_idle g ≡ true
rest_idles Idle h = refl
rest_idles g h = absurd h

idle_rests : (w : Told) → Agrees w Idle → w ≡ AtRest
idle_rests AtRest h = refl
idle_rests w h = absurd h

names_again : (l : Layout') (o : Op) → Names l o → is_in l o ≡ true
names_again l (OnMutex c) h = grind (arith, nat_tests)
names_again l (OnCondition c) h = grind (arith, nat_tests)

module _ (s : State) (ns : List Note) (inv : Kept s) (queued : Queued s) (agrees : (t : ℕ) → Agrees (last_told t ns) (s.threads t).stage) (calls : (t : ℕ) → IsTold s.layout (s.threads t).stage (call_told t ns)) where
  known : (t : ℕ) → IsThread s.layout t → has_thread s t ≡ true
  known t range = let first : 1 ≤ t = range.0 in let most : t ≤ s.layout.threads = range.1 in grind (arith, nat_tests)

  -- ---- begins
  begins_so : (t : ℕ) (o : Op) → Applies s.layout s ns (Event.Begin t o) → (happens s (Event.Begin t o)).note ≡ Began t (begun_of s.layout o) (refusal s.layout s t o)
  begins_so t o on =
      let there : has_thread s t ≡ true = known t on.0 in
      let resting : is_idle (s.threads t).stage ≡ true = rest_idles (s.threads t).stage (subst (λ (w : Told). Agrees w (s.threads t).stage) on.3 (agrees t)) in
      let calls_so : may_call s.layout o ≡ true = may_again s.layout o (names_again s.layout o on.1) on.2 in
      let may : may_begin s t o ≡ true = grind (arith) in
      ap (λ (b : Bool). (if b then begun s t o (first_stage s.layout t (s.threads t).held o) else nothing s).note) may
      ∙ ap (λ (r : Result Stage Reply). (begun s t o r).note) (first_is s.layout t (s.threads t).held o)
      ∙ refuses (acquires (operation_of o)) (nat_le 2048 (s.threads t).held)
      ∙ ap (λ (h : ℕ). Began t (begun_of s.layout o) (if acquires (operation_of o) && nat_le 2048 h then Some XHELD else None)) (inv.held t on.0.0 on.0.1)
    where
      refuses : (a b : Bool) → (begun s t o (if a && b then Err XHELD else Ok (begins_at s.layout t o))).note ≡ Began t (begun_of s.layout o) (if a && b then Some XHELD else None)
      refuses true true = refl
      refuses true false = refl
      refuses false b = refl

  begins_else : (t : ℕ) (o : Op) → ¬ Applies s.layout s ns (Event.Begin t o) → happens s (Event.Begin t o) ≡ nothing s
  begins_else t o never = go (may_begin s t o) refl
    where
      go : (b : Bool) → may_begin s t o ≡ b → (if b then begun s t o (first_stage s.layout t (s.threads t).held o) else nothing s) ≡ nothing s
      go false e = refl
      go true e =
          let first : 1 ≤ t = grind (arith, nat_tests) in
          let last : t ≤ s.layout.threads = grind (arith, nat_tests) in
          let idle : (s.threads t).stage ≡ Idle = at_rest (s.threads t).stage (grind (arith, nat_tests)) in
          let may : may_call s.layout o ≡ true = grind (arith, nat_tests) in
          let so = may_so s.layout o may in
          absurd (never ((first, last), names_so s.layout o so.0, so.1, idle_rests (last_told t ns) (subst (Agrees (last_told t ns)) idle (agrees t))))

  -- ---- steps
  works : (w : Told) (g : Stage) → HasAccess w → Agrees w g → IsWorking g
  works w g has a = grind (arith)

  accesses : (w : Told) (g : Stage) → IsWorking g → Agrees w g → HasAccess w
  accesses w g working a = grind (arith)

  step_noted : (t : ℕ) → HasAccess (last_told t ns) → IsInNoQueue s t → IsAccessOf t (stepped s t (s.threads t).held (s.threads t).stage).note
  step_noted t has out = by_stage s t (λ (a : After). IsAccessOf t a.note) (λ rests. absurd (rests (out_awake s t out) (works (last_told t ns) (s.threads t).stage has (agrees t)))) (λ o p is awake. refl) (λ c p is awake. refl) (λ v is awake. refl)

  steps_so : (t : ℕ) → Applies s.layout s ns (Event.Step t) → IsAccessOf t (happens s (Event.Step t)).note
  steps_so t on =
      subst (λ (b : Bool). IsAccessOf t (if b then stepped s t (s.threads t).held (s.threads t).stage else nothing s).note) (sym (known t on.0))
      (step_noted t on.1 on.2)

  steps_else : (t : ℕ) → ¬ Applies s.layout s ns (Event.Step t) → happens s (Event.Step t) ≡ nothing s
  steps_else t never = go (has_thread s t) refl
    where
      applies : has_thread s t ≡ true → is_asleep s t ≡ false → IsWorking (s.threads t).stage → ⊥
      applies inside awake working = let first : 1 ≤ t = grind (arith, nat_tests) in let last : t ≤ s.layout.threads = grind (arith, nat_tests) in
          never ((first, last), accesses (last_told t ns) (s.threads t).stage working (agrees t), in_none s t queued awake)

      go : (b : Bool) → has_thread s t ≡ b → (if b then stepped s t (s.threads t).held (s.threads t).stage else nothing s) ≡ nothing s
      go false outside = refl
      go true inside =
          by_stage s t (λ (a : After). a ≡ nothing s) (λ rests. refl)
          (λ o p is awake. absurd (applies inside awake (subst IsWorking (sym is) tt)))
          (λ c p is awake. absurd (applies inside awake (subst IsWorking (sym is) tt)))
          (λ v is awake. absurd (applies inside awake (subst IsWorking (sym is) tt)))

  -- ---- kills
  kills_so : (t : ℕ) → Applies s.layout s ns (Event.Kill t) → (happens s (Event.Kill t)).note ≡ Killed t
  kills_so t on = ap (λ (b : Bool). (if b then killed s t else nothing s).note) (both _ _ (known t on.0) (living_agrees (last_told t ns) (s.threads t).stage (agrees t) on.1))

  kills_else : (t : ℕ) → ¬ Applies s.layout s ns (Event.Kill t) → happens s (Event.Kill t) ≡ nothing s
  kills_else t never = grind (arith)

  -- ---- leaves
  leaves_so : (t : ℕ) → Applies s.layout s ns (Event.Leave t) → (happens s (Event.Leave t)).note ≡ Left t
  leaves_so t on = ap (λ (b : Bool). (if b then departed s t else nothing s).note) (both _ _ (known t on.0) (asleep_there s t on.1.0 queued on.1.1))

  leaves_else : (t : ℕ) → ¬ Applies s.layout s ns (Event.Leave t) → happens s (Event.Leave t) ≡ nothing s
  leaves_else t never = go (has_thread s t && is_asleep s t) refl
    where
      go : (b : Bool) → (has_thread s t && is_asleep s t) ≡ b → (if b then departed s t else nothing s) ≡ nothing s
      go false e = refl
      go true e =
          let first : 1 ≤ t = grind (arith, nat_tests) in
          let last : t ≤ s.layout.threads = grind (arith, nat_tests) in
          let asleep : is_asleep s t ≡ true = grind (arith, nat_tests) in
          absurd (never ((first, last), asleep_where s t asleep))

  -- ---- time limits
  same_lock : (m j : ℕ) (p q : Whole) → Calling (OnMutex (Call.TimedLock m)) p ≡ Calling (OnMutex (Call.TimedLock j)) q → m ≡ j
  same_lock m j p q e = cc e

  same_timed : (k j : ℕ) (x y : Limit) (p q : Whole) → Calling (OnCondition (CondCall.TimedWait k x)) p ≡ Calling (OnCondition (CondCall.TimedWait j y)) q → k ≡ j
  same_timed k j x y p q e = cc e

  lock_or_wait : (m k : ℕ) (p q : Whole) (x : Limit) → Calling (OnMutex (Call.TimedLock m)) p ≡ Calling (OnCondition (CondCall.TimedWait k x)) q → ⊥
  lock_or_wait m k p q x e = cc e

  expires_so : (t : ℕ) → Applies s.layout s ns (Event.Expire t) → IsNotedAs s.layout s (Event.Expire t) (happens s (Event.Expire t)).note
  expires_so t ((first, last), inl (there, (m, (p, is)))) =
      let asleep = asleep_there s t there.0 queued there.1 in
      let noted = ap (λ (z : After). z.note) (lapse_goes s t m p first last is asleep (ap may_expire (loads_next s t (OnMutex (Call.TimedLock m)) p queued is asleep))) in (
        (λ j other. noted ∙ ap (λ (n : ℕ). Expired t (Mutex n)) (same_lock m j p other.0 (sym is ∙ other.1))),
        (λ k other. absurd (lock_or_wait m k p other.1 other.0 (sym is ∙ other.2))),
      )
  expires_so t ((first, last), inr (k, there, (x, p, is))) =
      let noted = ap (λ (z : After). z.note) (oversleep_goes s t k x p first last is there) in (
        (λ m other. absurd (lock_or_wait m k other.0 p x (sym other.1 ∙ is))),
        (λ j other. noted ∙ ap (λ (n : ℕ). Expired t (Condition n)) (same_timed k j x other.0 p other.1 (sym is ∙ other.2))),
      )

  expires_else : (t : ℕ) → ¬ Applies s.layout s ns (Event.Expire t) → happens s (Event.Expire t) ≡ nothing s
  expires_else t never =
      by_event s (λ (x : Event) (a : After). x ≡ Event.Expire t → a ≡ nothing s) (λ x same. refl) (λ u o pos known named idle b full same. absurd cc) (λ u pos known same. absurd cc) (λ u pos known alive same. absurd cc) (λ u pos known asleep same. absurd cc)
      (λ u m p pos known is asleep may same. absurd (subst (λ (v : ℕ). ¬ Applies s.layout s ns (Event.Expire v)) (sym (expires_is u t same)) never ((pos, known), inl (asleep_where s u asleep, (m, (p, is))))))
      (λ u k x p pos known is there same. absurd (subst (λ (v : ℕ). ¬ Applies s.layout s ns (Event.Expire v)) (sym (expires_is u t same)) never ((pos, known), inr (k, there, (x, p, is)))))
      (λ u o p pos known is awake trims same. absurd cc) (λ u pos known gone same. absurd cc) (λ u m may same. absurd cc) (λ u m g sp same. absurd cc)
      (Event.Expire t) refl
    where
      expires_is : (u v : ℕ) → Event.Expire u ≡ Event.Expire v → u ≡ v
      expires_is u v e = cc

  -- ---- declines
  same_call : (o c : Op) (p q : Whole) → Calling o p ≡ Calling c q → o ≡ c
  same_call o c p q e = cc

  declines_so : (t : ℕ) → Applies s.layout s ns (Event.Decline t) → IsQuietAccessOf s.layout s t (happens s (Event.Decline t)).note
  declines_so t ((first, last), (o, p, at, is, a)) =
      let trims = trims_at p p.phase (ap is_trim a) in
      subst (λ (z : After). IsQuietAccessOf s.layout s t z.note) (sym (decline_goes s t o p is trims queued inv first last))
      (λ c q stands. ap (λ (y : Op). Stepped t (mutex_of s.layout y) None None [] [] None) (same_call o c p q (sym is ∙ stands)))

  declines_else : (t : ℕ) → ¬ Applies s.layout s ns (Event.Decline t) → happens s (Event.Decline t) ≡ nothing s
  declines_else t never = decline_rests s t (λ first last about. never ((first, last), about))

  -- ---- renewals
  renews_so : (t : ℕ) → Applies s.layout s ns (Event.Renew t) → (happens s (Event.Renew t)).note ≡ Renewed t
  renews_so t on = ap (λ (b : Bool). (if b then renewed s t else nothing s).note) (both _ _ (known t on.0) (reaped_agrees (last_told t ns) (s.threads t).stage (agrees t) on.1))

  renews_else : (t : ℕ) → ¬ Applies s.layout s ns (Event.Renew t) → happens s (Event.Renew t) ≡ nothing s
  renews_else t never = go (has_thread s t && is_gone (s.threads t).stage) refl
    where
      go : (b : Bool) → (has_thread s t && is_gone (s.threads t).stage) ≡ b → (if b then renewed s t else nothing s) ≡ nothing s
      go false e = refl
      go true e =
          let first : 1 ≤ t = grind (arith, nat_tests) in
          let last : t ≤ s.layout.threads = grind (arith, nat_tests) in
          let gone : is_gone (s.threads t).stage ≡ true = grind (arith, nat_tests) in
          absurd (never ((first, last), told_reaped (last_told t ns) (s.threads t).stage (agrees t) gone))

  -- ---- remakes
  resting_agrees : (w : Told) (g : Stage) → Agrees w g → w ≡ AtRest → g ≡ Idle
  resting_agrees w g a at_rest = grind (arith)

  told_resting : (w : Told) (g : Stage) → Agrees w g → g ≡ Idle → w ≡ AtRest
  told_resting w g a idle = grind (arith)

  remake_as : (t m : ℕ) → Applies s.layout s ns (Event.Remake t m) → MayRemake s t m
  remake_as t m on = record { first = on.0.0; last = on.0.1; resting = resting_agrees (last_told t ns) (s.threads t).stage (agrees t) on.1; inside = on.2; unusable = on.3 }

  as_remake : (t m : ℕ) → MayRemake s t m → Applies s.layout s ns (Event.Remake t m)
  as_remake t m may = ((may.first, may.last), told_resting (last_told t ns) (s.threads t).stage (agrees t) may.resting, may.inside, may.unusable)

  remakes_so : (t m : ℕ) → Applies s.layout s ns (Event.Remake t m) → (happens s (Event.Remake t m)).note ≡ Reinited t m
  remakes_so t m on = ap (λ (b : Bool). (if b then reinited s t m (waiters_of (s.words (cell_place s.layout m))) else nothing s).note) (remake_again s t m (remake_as t m on))

  remakes_else : (t m : ℕ) → ¬ Applies s.layout s ns (Event.Remake t m) → happens s (Event.Remake t m) ≡ nothing s
  remakes_else t m never = go (may_remake s t m) refl
    where
      go : (b : Bool) → may_remake s t m ≡ b → (if b then reinited s t m (waiters_of (s.words (cell_place s.layout m))) else nothing s) ≡ nothing s
      go false e = refl
      go true e = absurd (never (as_remake t m (remake_so s t m e)))

  -- ---- spares
  same_wait : (c d : CondCall) (p q : CondWhole) → AtCondition c p ≡ AtCondition d q → c ≡ d
  same_wait c d p q e = cc

  not_both : (o : Op) (c : CondCall) (p : Whole) (q : CondWhole) → Calling o p ≡ AtCondition c q → ⊥
  not_both o c p q e = cc

  spares_so : (t : ℕ) (by : LeftTo) → Applies s.layout s ns (Event.Spare t by) → IsSparedAccessOf s.layout s t (happens s (Event.Spare t by)).note
  spares_so t by ((first, last), (m, g, wakes, left)) = subst (λ (z : After). IsSparedAccessOf s.layout s t z.note) (sym (spare_goes s t m by g inv queued first last wakes left)) (go wakes)
    where
      go : WakesOneOf s t m g → IsSparedAccessOf s.layout s t (unwoken t m)
      go (In_unlock o p is mutex at goes) = (
        (λ c q stands. ap (λ (y : ℕ). Stepped t y None None [] [] None) (mutex ∙ ap (mutex_of s.layout) (same_call o c p q (sym is ∙ stands)))),
        (λ c q stands. absurd (not_both o c p q (sym is ∙ stands))),
      )
      go (In_wait c p seen is mutex at goes) = (
        (λ o q stands. absurd (not_both o c q p (sym stands ∙ is))),
        (λ d q stands. ap (λ (y : ℕ). Stepped t y None None [] [] None) (mutex ∙ ap (λ (x : CondCall). mutex_of s.layout (OnCondition x)) (same_wait c d p q (sym is ∙ stands)))),
      )

  spares_else : (t : ℕ) (by : LeftTo) → ¬ Applies s.layout s ns (Event.Spare t by) → happens s (Event.Spare t by) ≡ nothing s
  spares_else t by never = spare_rests s t by queued (λ first last may. never ((first, last), may))

  so : (e : Event) → Applies s.layout s ns e → IsNotedAs s.layout s e (happens s e).note
  so (Event.Begin t o) on = begins_so t o on
  so (Event.Step t) on = steps_so t on
  so (Event.Kill t) on = kills_so t on
  so (Event.Leave t) on = leaves_so t on
  so (Event.Expire t) on = expires_so t on
  so (Event.Decline t) on = declines_so t on
  so (Event.Renew t) on = renews_so t on
  so (Event.Remake t m) on = remakes_so t m on
  so (Event.Spare t by) on = spares_so t by on

  idles : (e : Event) → ¬ Applies s.layout s ns e → happens s e ≡ nothing s
  idles (Event.Begin t o) never = begins_else t o never
  idles (Event.Step t) never = steps_else t never
  idles (Event.Kill t) never = kills_else t never
  idles (Event.Leave t) never = leaves_else t never
  idles (Event.Expire t) never = expires_else t never
  idles (Event.Decline t) never = declines_else t never
  idles (Event.Renew t) never = renews_else t never
  idles (Event.Remake t m) never = remakes_else t m never
  idles (Event.Spare t by) never = spares_else t by never

  next_applies : NextApplies s.layout s ns
  next_applies = record {
    layout = refl;
    stands = λ t there. agrees t;
    call = λ t there. calls t;
    happens_so = so;
    else_nothing = λ e never. (ap (λ (a : After). a.note) (idles e never), ap (λ (a : After). a.state) (idles e never));
  }

-- so it is wherever events lead
pub applied : EventsApply
applied l counters events is =
    let inv = start_kept l counters is in
    subst (λ (k : Layout'). NextApplies k (run (start l counters) events) (notes (start l counters) events)) (run_layout (start l counters) events inv)
    (next_applies (run (start l counters) events) (notes (start l counters) events) (run_kept (start l counters) events inv) (run_queued l counters events is) (λ t. run_agrees (start l counters) events t AtRest tt) (λ t. told_run (start l counters) events t None tt))
