-- A thread that is in a call is in the one whose begin was recorded last.
use Rattle.std.proofs.Common.{◌≡◌, ◌≢◌, ⊎_elim, ℕ, ◌==◌, Bool, true, false, Option, Some, None, Ok, Err, List, [], ◌∷◌, refl, sym, ap, ◌∙◌, subst, arith, eq-eqb}
use Rattle.protocol.proofs.Vocabulary.{Begun, CondCall, CondPhase, CondWhole, cond_access, cond_led, Layout', Mutex, Condition, XHELD, Trimmed, Count, Phase, Whole, whole_access, whole_led, Call, Op, OnMutex, OnCondition}
use Rattle.protocol.proofs.Vocabulary.{Limit, Past}
use Rattle.protocol.proofs.Vocabulary.{condition_of, mutex_of, begun_of, Thread, Stage, Idle, Calling, AtCondition, Event, State, After, answer_of, begun, spared, went, walked, put}
use Rattle.protocol.proofs.Vocabulary.{stage_after, stage_at, stage_walked, led, led_at, happens, stepped, run, notes, facts_of, facts_among, last_begun, if◌then◌else◌}
use Rattle.mutex.specs.Whole.{timed_out}
use Rattle.exitwalk.specs.Standings as walks
use Rattle.exitwalk.specs.Walks as exit
use Rattle.exitwalk.specs.declared.row.Row as walk_row
use Rattle.exitwalk.specs.declared.row.Row.TheVariants as walk
use Rattle.protocol.specs.Machine.{Led}
use Rattle.protocol.specs.Applies.{IsTold}
use Rattle.protocol.proofs.Puts.{by_put}
use Rattle.protocol.proofs.Cases.{by_same}
use Rattle.protocol.proofs.Arrivals.{ended_or_not}
use Rattle.protocol.proofs.Events.{begins_at, by_event, by_stage, HowSpared, Of_unlock, Of_wait}
use Rattle.protocol.proofs.Passing.{Begins_nothing, begins_stepped, begins_walked, last_begun-append}

-- ---- where an access leads

told_call : (l : Layout') (o : Op) (p : Whole) (f : Phase) (b : Option Begun) → b ≡ Some (begun_of l o) → IsTold l (stage_after o p f) b
told_call l o p f b is = ⊎_elim (λ ended. subst (λ (x : Phase). IsTold l (stage_after o p x) b) (sym ended.1) tt) (λ on. subst (λ (g : Stage). IsTold l g b) (sym (on o p)) is) (ended_or_not f)

told_at : (l : Layout') (c : CondCall) (p : CondWhole) (f : CondPhase) (b : Option Begun) → b ≡ Some (begun_of l (OnCondition c)) → IsTold l (stage_at c p f) b
told_at l c p f b is = grind (arith)

told_walk : (l : Layout') (w : walks.Standing) (r : walk_row.Row) (b : Option Begun) → IsTold l (stage_walked w r) b
told_walk l w walk.Ended b = tt
told_walk l w r b = tt

told_first : (l : Layout') (t : ℕ) (o : Op) → IsTold l (begins_at l t o) (Some (begun_of l o))
told_first l t (OnMutex c) = refl
told_first l t (OnCondition c) = refl

-- ---- one event

-- of whose thread it is
mine : (u t : ℕ) (x y : Option Begun) → t ≡ u → (if u == t then x else y) ≡ x
mine u t x y is = ap (λ (b : Bool). if b then x else y) (eq-eqb u t (sym is))

theirs : (u t : ℕ) (x y : Option Begun) → t ≢ u → (if u == t then x else y) ≡ y
theirs u t x y apart = grind (arith)

-- before an event of thread u this was recorded of thread t
module _ (s : State) (u t : ℕ) (b : Option Begun) (h : IsTold s.layout (s.threads t).stage b) where
  abbrev At : Stage → Option Begun → Type 0
  At g x = IsTold s.layout g x

  -- where no call is recorded as begun, the thread stays in its own
  stays : (z : Thread) → (At (s.threads u).stage b → At z.stage b) → At (put s.threads u z t).stage b
  stays z on = by_put (λ (y : Thread). At y.stage b) s.threads u z t (λ is. on (subst (λ (v : ℕ). At (s.threads v).stage b) is h)) (λ apart. h)

  in_call : (o : Op) (p : Whole) (f : Phase) (held : ℕ) → (s.threads u).stage ≡ Calling o p → At (put s.threads u (record { stage = stage_after o p f; held = held }) t).stage b
  in_call o p f held is = stays (record { stage = stage_after o p f; held = held }) (λ was. told_call s.layout o p f b (subst (λ (g : Stage). At g b) is was))

  at_condition : (c : CondCall) (p : CondWhole) (f : CondPhase) (held : ℕ) → (s.threads u).stage ≡ AtCondition c p → At (put s.threads u (record { stage = stage_at c p f; held = held }) t).stage b
  at_condition c p f held is = stays (record { stage = stage_at c p f; held = held }) (λ was. told_at s.layout c p f b (subst (λ (g : Stage). At g b) is was))

  out_of_time : (m : ℕ) (p : Whole) (held : ℕ) → (s.threads u).stage ≡ Calling (OnMutex (Call.TimedLock m)) p → At (put s.threads u (record { stage = Calling (OnMutex (Call.TimedLock m)) (timed_out p); held = held }) t).stage b
  out_of_time m p held is = stays (record { stage = Calling (OnMutex (Call.TimedLock m)) (timed_out p); held = held }) (λ was. subst (λ (g : Stage). At g b) is was)

  late : (k : ℕ) (x : Limit) (p : Whole) (held : ℕ) → (s.threads u).stage ≡ Calling (OnCondition (CondCall.TimedWait k x)) p → At (put s.threads u (record { stage = Calling (OnCondition (CondCall.TimedWait k Past)) p; held = held }) t).stage b
  late k x p held is = stays (record { stage = Calling (OnCondition (CondCall.TimedWait k Past)) p; held = held }) (λ was. subst (λ (g : Stage). At g b) is was)

  spared_so : (m held : ℕ) (g : Led) → HowSpared s u m g → At (put s.threads u (record { stage = g.stage; held = held }) t).stage b
  spared_so m held g (Of_unlock o p is mutex at leads) = subst (λ (z : Led). At (put s.threads u (record { stage = z.stage; held = held }) t).stage b) (sym leads) (in_call o p (whole_led p (Count 1)).phase held is)
  spared_so m held g (Of_wait c p seen is mutex at leads) = subst (λ (z : Led). At (put s.threads u (record { stage = z.stage; held = held }) t).stage b) (sym leads) (at_condition c p (cond_led p (Count 1)).phase held is)

  -- a begin puts it into the call that is recorded
  begins : (z : Thread) (x : Option Begun) → At z.stage x → At (put s.threads u z t).stage (if u == t then x else b)
  begins z x on =
      by_put (λ (y : Thread). At y.stage (if u == t then x else b)) s.threads u z t (λ is. subst (At z.stage) (sym (mine u t x b is)) on)
      (λ apart. subst (At (s.threads t).stage) (sym (theirs u t x b apart)) h)

  -- a call of one event, or that is refused, leaves it in none
  returns : (x : Option Begun) → (s.threads u).stage ≡ Idle → At (s.threads t).stage (if u == t then x else b)
  returns x idle =
      by_same t u (λ is. subst (λ (g : Stage). At g (if u == t then x else b)) (sym (ap (λ (v : ℕ). (s.threads v).stage) is ∙ idle)) tt)
      (λ apart. subst (At (s.threads t).stage) (sym (theirs u t x b apart)) h)

-- of thread t then
abbrev Tells : ℕ → Option Begun → After → Type 0
Tells t b a = IsTold a.state.layout (a.state.threads t).stage (last_begun t b (facts_of a.note))

begun_tells : (s : State) (u t : ℕ) (o : Op) (b : Option Begun) → IsTold s.layout (s.threads t).stage b → (s.threads u).stage ≡ Idle → (full : Bool) → Tells t b (begun s u o (if full then Err XHELD else Ok (begins_at s.layout u o)))
begun_tells s u t o b h idle true = returns s u t b h (Some (begun_of s.layout o)) idle
begun_tells s u t o b h idle false = begins s u t b h (record (s.threads u) { stage = begins_at s.layout u o }) (Some (begun_of s.layout o)) (told_first s.layout u o)

-- an access tells no begin
module _ (s : State) (u t : ℕ) (b : Option Begun) (h : IsTold s.layout (s.threads t).stage b) where
  still : (a : After) → Begins_nothing (facts_of a.note) → IsTold a.state.layout (a.state.threads t).stage b → Tells t b a
  still a none on = subst (IsTold a.state.layout (a.state.threads t).stage) (sym (none.same t b)) on

  step_tells : Tells t b (stepped s u (s.threads u).held (s.threads u).stage)
  step_tells =
      by_stage s u (Tells t b) (λ rests. h)
      (λ o p is awake. still (went s u (s.threads u).held (mutex_of s.layout o) (Mutex (mutex_of s.layout o)) (whole_access p) (led o p (whole_led p (answer_of s u (whole_access p))))) (begins_stepped u (mutex_of s.layout o) _ _ _ _ _)
      (in_call s u t b h o p (whole_led p (answer_of s u (whole_access p))).phase _ is))
      (λ c p is awake. still (went s u (s.threads u).held (mutex_of s.layout (OnCondition c)) (Condition (condition_of c)) (cond_access p) (led_at c p (cond_led p (answer_of s u (cond_access p))))) (begins_stepped u (mutex_of s.layout (OnCondition c)) _ _ _ _ _)
      (at_condition s u t b h c p (cond_led p (answer_of s u (cond_access p))).phase _ is))
      (λ w is awake. still (walked s u (s.threads u).held w) (begins_walked u _ _ _) (stays s u t b h _ (λ was. told_walk s.layout w (exit.row_after w.thread w.head w.row (answer_of s u (exit.access_of w))) b)))

pub told_on : (s : State) (e : Event) (t : ℕ) (b : Option Begun) → IsTold s.layout (s.threads t).stage b → IsTold (happens s e).state.layout ((happens s e).state.threads t).stage (last_begun t b (facts_of (happens s e).note))
told_on s e t b h =
    by_event s (λ (x : Event) (a : After). Tells t b a)
    (λ x. h)
    (λ u o pos known inside idle full e. begun_tells s u t o b h idle full)
    (λ u pos known. step_tells s u t b h)
    (λ u pos known alive. stays s u t b h _ (λ was. tt))
    (λ u pos known asleep. h)
    (λ u m p pos known is asleep may. out_of_time s u t b h m p _ is)
    (λ u k x p pos known is there. late s u t b h k x p _ is)
    (λ u o p pos known is awake trims. still s u t b h (spared s u (s.threads u).held (mutex_of s.layout o) (led o p (whole_led p (Trimmed false)))) (begins_stepped u (mutex_of s.layout o) _ None [] [] (led o p (whole_led p (Trimmed false))).returned) (in_call s u t b h o p (whole_led p (Trimmed false)).phase _ is))
    (λ u pos known gone. stays s u t b h _ (λ was. tt))
    (λ u m may. returns s u t b h _ may.resting)
    (λ u m g sp. still s u t b h (spared s u (s.threads u).held m g) (begins_stepped u m _ None [] [] g.returned) (spared_so s u t b h m _ g sp.how))
    e

-- ---- runs

pub told_run : (s : State) (es : List Event) (t : ℕ) (b : Option Begun) → IsTold s.layout (s.threads t).stage b → IsTold (run s es).layout ((run s es).threads t).stage (last_begun t b (facts_among (notes s es)))
told_run s [] t b h = h
told_run s (e ∷ es) t b h =
    subst (IsTold (run (happens s e).state es).layout ((run (happens s e).state es).threads t).stage) (sym (last_begun-append t b (facts_of (happens s e).note) (facts_among (notes (happens s e).state es))))
    (told_run (happens s e).state es t (last_begun t b (facts_of (happens s e).note)) (told_on s e t b h))
