-- What a run tells is inside its layout, and its points are of operations that calls have.
use Rattle.std.proofs.Common.{◌≡◌, inl, inr, ℕ, ◌+◌, ◌<◌, ◌≤◌, ◌==◌, Bool, true, false, ◌&&◌, Option, Some, None, Ok, Err, List, [], ◌∷◌, ◌++◌, map, length, refl, sym, ap, ◌∙◌, subst, arith}
use Rattle.std.specs.Prelude.{if◌then◌else◌}
use Rattle.std.proofs.lemmas.Bool.{eqb-false}
use Rattle.lockword.specs.declared.reply.Reply.{Reply}
use Rattle.lockword.specs.declared.reply.Reply.TheVariants.{XHELD}
use Rattle.posixmutex.specs.declared.point.Operation.{Operation}
use Rattle.posixmutex.specs.declared.point.Operation.TheVariants.{Death}
use Rattle.posixmutex.specs.declared.point.Decision.{Decision}
use Rattle.posixmutex.specs.declared.object.Object.{Object}
use Rattle.memorymap.specs.Layouts.{Layout', IsLayout}
use Rattle.posixmutex.specs.Histories.{Legal, opening}
use Rattle.mutex.specs.declared.call.Call.TheVariants as call
use Rattle.condvar.specs.declared.call.CondCall.TheVariants as cond_call
use Rattle.facts.specs.declared.fact.Begun.{Begun}
use Rattle.facts.specs.declared.fact.Queue.{Queue}
use Rattle.facts.specs.declared.fact.Queue.TheVariants as queue
use Rattle.facts.specs.declared.fact.Fact.{Fact}
use Rattle.facts.specs.declared.fact.Fact.TheVariants as fact
use Rattle.facts.specs.declared.fact.Line.{Line}
use Rattle.facts.specs.Facts.{thread_of, decision_of, is_passive}
use Rattle.facts.specs.Lives.{is_of_call, own}
use Rattle.facts.specs.Orders.{Each}
use Rattle.condvar.specs.declared.op.Op.{Op}
use Rattle.condvar.specs.declared.op.Op.TheVariants.{OnMutex, OnCondition}
use Rattle.stepprograms.specs.declared.access.Answer.TheVariants.{Trimmed}
use Rattle.mutex.specs.Standings.{Whole}
use Rattle.mutex.specs.Whole.{whole_led}
use Rattle.condvar.specs.Ops.{mutex_of}
use Rattle.protocol.specs.declared.event.Event.{Event}
use Rattle.protocol.specs.declared.note.Note.{Note}
use Rattle.protocol.specs.declared.note.Note.TheVariants.{Stepped, Walked}
use Rattle.protocol.specs.Notes.{facts_of, reinit_of, line_of, lines_from}
use Rattle.protocol.specs.Ops.{begun_of, queue_place}
use Rattle.protocol.specs.Machine.{State, After, start, begun, killed, departed, lapsed, overslept, renewed, reinited, decision, happens, run, notes, led}
use Rattle.protocol.specs.Headline.{facts_among, seen}
use Rattle.protocol.specs.Sleepers.{IsAmong}
use Rattle.protocol.specs.Applies.{IsThread, Names}
use Rattle.protocol.specs.Wakings.{IsQueue, TellsTurns}
use Rattle.protocol.proofs.Events.{names_mutex, begins_at, by_event, by_stage}
use Rattle.verdict.specs.declared.head.Head.{Head}
use Rattle.verdict.specs.declared.stage.Made.{Made}
use Rattle.verdict.specs.declared.stage.Stage.{Stage}
use Rattle.verdict.specs.declared.stage.Stage.TheVariants.{Resting, Calling, Dying, Reaped}
use Rattle.verdict.specs.Stages.{MayPoint, May, next}
use Rattle.verdict.specs.Explained.{with_decision, decisions}
use Rattle.runs_judged.specs.Judged.{head_of}
use Rattle.runs_judged.specs.Written.{IsThreadOf, IsCallOf, IsCalled, IsQueueOf, IsFactOf, IsLineOf}
use Rattle.verdict.specs.Limits.{max_events}
use Rattle.runs_judged.proofs.Lives.{Runs}
use Rattle.runs_judged.proofs.Turns.{own_of}
use Rattle.runs_judged.proofs.Moments.{Moment, moment}
use Rattle.runs_judged.proofs.Facts.{OfStep, Is_point, Is_sleep, Is_wake, Is_move, Is_return, of_step, OfWalk, Is_death, Wakes_one, Is_reap, of_walk, run_push}
use Rattle.runs_judged.proofs.Fitting.{facts_in}
use Rattle.runs_judged.proofs.Ending.{lines_tell, told_legal, run_lives}

-- ---- an event's facts

-- a fact that isn't passive is of the thread whose event it is
module _ (s : State) where
  abbrev OwnThreads : After → Type 0
  OwnThreads a = (f : Fact) → IsAmong f (facts_of a.note) → is_passive f ≡ false → IsThread s.layout (thread_of f)

  its_own : (u : ℕ) (f : Fact) → 1 ≤ u → u ≤ s.layout.threads → u ≡ thread_of f → IsThread s.layout (thread_of f)
  its_own u f first most is = subst (IsThread s.layout) is (first, most)

  begun_own : (u : ℕ) (o : Op) → 1 ≤ u → u ≤ s.layout.threads → (b : Bool) → OwnThreads (begun s u o (if b then Err XHELD else Ok (begins_at s.layout u o)))
  begun_own u o first most true f (inl e) active = its_own u f first most (ap thread_of e)
  begun_own u o first most true f (inr (inl e)) active = its_own u f first most (ap thread_of e)
  begun_own u o first most true f (inr (inr (inl e))) active = its_own u f first most (ap thread_of e)
  begun_own u o first most true f (inr (inr (inr h))) active = absurd h
  begun_own u o first most false f (inl e) active = its_own u f first most (ap thread_of e)
  begun_own u o first most false f (inr h) active = absurd h

  killed_own : (u : ℕ) → 1 ≤ u → u ≤ s.layout.threads → OwnThreads (killed s u)
  killed_own u first most f (inl e) active = its_own u f first most (ap thread_of e)
  killed_own u first most f (inr h) active = absurd h

  left_own : (u : ℕ) → OwnThreads (departed s u)
  left_own u f (inl e) active = let never : true ≡ false = ap is_passive e ∙ active in absurd cc
  left_own u f (inr h) active = absurd h

  lapsed_own : (u k : ℕ) (p : Whole) → 1 ≤ u → u ≤ s.layout.threads → OwnThreads (lapsed s u (s.threads u).held (OnMutex (call.TimedLock k)) p)
  lapsed_own u k p first most f (inl e) active = let never : true ≡ false = ap is_passive e ∙ active in absurd cc
  lapsed_own u k p first most f (inr (inl e)) active = its_own u f first most (ap thread_of e)
  lapsed_own u k p first most f (inr (inr h)) active = absurd h

  overslept_own : (u k : ℕ) (p : Whole) → OwnThreads (overslept s u (s.threads u).held k p)
  overslept_own u k p f (inl e) active = let never : true ≡ false = ap is_passive e ∙ active in absurd cc
  overslept_own u k p f (inr h) active = absurd h

  renewed_own : (u : ℕ) → 1 ≤ u → u ≤ s.layout.threads → OwnThreads (renewed s u)
  renewed_own u first most f (inl e) active = its_own u f first most (ap thread_of e)
  renewed_own u first most f (inr h) active = absurd h

  reinited_own : (u j w : ℕ) → 1 ≤ u → u ≤ s.layout.threads → OwnThreads (reinited s u j w)
  reinited_own u j w first most f (inl e) active = its_own u f first most (ap thread_of e)
  reinited_own u j w first most f (inr (inl e)) active = its_own u f first most (ap thread_of e)
  reinited_own u j w first most f (inr (inr (inl e))) active = its_own u f first most (ap thread_of e)
  reinited_own u j w first most f (inr (inr (inr h))) active = absurd h

  stepped_own : (u k : ℕ) (op : Operation) (x : Option Reply) (z : Option Queue) (us vs : List ℕ) (y : Option Reply) → 1 ≤ u → u ≤ s.layout.threads
      → (f : Fact) → IsAmong f (facts_of (Stepped u k (decision u k op x) z us vs y)) → is_passive f ≡ false → IsThread s.layout (thread_of f)
  stepped_own u k op x z us vs y first most f h active = go x (of_step u k (decision u k op x) z us vs y f h)
    where
      decider : Option Decision → ℕ
      decider None = 0
      decider (Some c) = c.thread

      go : (r : Option Reply) → OfStep u k (decision u k op r) z us vs y f → IsThread s.layout (thread_of f)
      go None (Is_point d e is) = absurd cc
      go (Some r) (Is_point d e is) = its_own u f first most (ap decider e ∙ ap thread_of is)
      go r (Is_sleep q is) = its_own u f first most (ap thread_of is)
      go r (Is_return v e is) = its_own u f first most (ap thread_of is)
      go r (Is_wake v is) = let never : true ≡ false = ap is_passive is ∙ active in absurd cc
      go r (Is_move v is) = let never : true ≡ false = ap is_passive is ∙ active in absurd cc

  walked_own : (u : ℕ) (d : Option ℕ) (us : List ℕ) (b : Bool) → 1 ≤ u → u ≤ s.layout.threads → (f : Fact) → IsAmong f (facts_of (Walked u d us b)) → is_passive f ≡ false → IsThread s.layout (thread_of f)
  walked_own u d us b first most f h active = go (of_walk u d us b f h)
    where
      go : OfWalk u f → IsThread s.layout (thread_of f)
      go (Is_death m is) = its_own u f first most (ap thread_of is)
      go (Is_reap is) = its_own u f first most (ap thread_of is)
      go (Wakes_one v is) = let never : true ≡ false = ap is_passive is ∙ active in absurd cc

  own_threads : (e : Event) → OwnThreads (happens s e)
  own_threads e =
      by_event s (λ x a. OwnThreads a) (λ x f h active. absurd h) (λ u o first most inside idle b full. begun_own u o first most b)
      (λ u first most.
      by_stage s u OwnThreads (λ rests f h active. absurd h) (λ o p is awake. stepped_own u _ _ _ _ _ _ _ first most) (λ c p is awake. stepped_own u _ _ _ _ _ _ _ first most)
      (λ w is awake. walked_own u _ _ _ first most))
      (λ u first most alive. killed_own u first most)
      (λ u first most asleep. left_own u)
      (λ u k p first most is asleep may. lapsed_own u k p first most)
      (λ u k x p first most is there. overslept_own u k p)
      (λ u o p first most is awake trims. let g = led o p (whole_led p (Trimmed false)) in stepped_own u (mutex_of s.layout o) g.operation g.point None [] [] g.returned first most)
      (λ u first most gone. renewed_own u first most)
      (λ u j may. reinited_own u j 0 may.first may.last)
      (λ u m g sp. stepped_own u m g.operation g.point None [] [] g.returned sp.first sp.last)
      e

  -- a call that begins is on what the layout has
  abbrev BeginsInside : Begun → Type 0
  BeginsInside c = (c.mutex < s.layout.mutexes) × IsCallOf (record { threads = s.layout.threads; mutexes = s.layout.mutexes; conditions = length s.layout.conditions }) c.operation c.condition

  abbrev CallsInside : After → Type 0
  CallsInside a = (t : ℕ) (c : Begun) → IsAmong (fact.Begin t c) (facts_of a.note) → BeginsInside c

  names_call : (o : Op) → IsLayout s.layout → Names s.layout o → BeginsInside (begun_of s.layout o)
  names_call (OnMutex (call.Lock m)) is names = (names_mutex s.layout (OnMutex (call.Lock m)) is names, tt)
  names_call (OnMutex (call.TimedLock m)) is names = (names_mutex s.layout (OnMutex (call.TimedLock m)) is names, tt)
  names_call (OnMutex (call.TryLock m)) is names = (names_mutex s.layout (OnMutex (call.TryLock m)) is names, tt)
  names_call (OnMutex (call.Unlock m)) is names = (names_mutex s.layout (OnMutex (call.Unlock m)) is names, tt)
  names_call (OnMutex (call.Consistent m)) is names = (names_mutex s.layout (OnMutex (call.Consistent m)) is names, tt)
  names_call (OnCondition (cond_call.Wait k)) is names = (names_mutex s.layout (OnCondition (cond_call.Wait k)) is names, names)
  names_call (OnCondition (cond_call.TimedWait k x)) is names = (names_mutex s.layout (OnCondition (cond_call.TimedWait k x)) is names, names)
  names_call (OnCondition (cond_call.Signal k)) is names = (names_mutex s.layout (OnCondition (cond_call.Signal k)) is names, names)
  names_call (OnCondition (cond_call.Broadcast k)) is names = (names_mutex s.layout (OnCondition (cond_call.Broadcast k)) is names, names)

  same_begun : (t u : ℕ) (b c : Begun) → fact.Begin t b ≡ fact.Begin u c → b ≡ c
  same_begun t u b c e = cc

  begun_inside : (u : ℕ) (o : Op) → IsLayout s.layout → Names s.layout o → (b : Bool) → CallsInside (begun s u o (if b then Err XHELD else Ok (begins_at s.layout u o)))
  begun_inside u o is names true t c (inl e) = subst BeginsInside (same_begun u t (begun_of s.layout o) c e) (names_call o is names)
  begun_inside u o is names true t c (inr (inl e)) = absurd cc
  begun_inside u o is names true t c (inr (inr (inl e))) = absurd cc
  begun_inside u o is names true t c (inr (inr (inr h))) = absurd h
  begun_inside u o is names false t c (inl e) = subst BeginsInside (same_begun u t (begun_of s.layout o) c e) (names_call o is names)
  begun_inside u o is names false t c (inr h) = absurd h

  step_begins_none : (t u m : ℕ) (c : Begun) (p : Option Decision) (z : Option Queue) (us vs : List ℕ) (y : Option Reply) → IsAmong (fact.Begin t c) (facts_of (Stepped u m p z us vs y)) → ⊥
  step_begins_none t u m c p z us vs y h = never (of_step u m p z us vs y (fact.Begin t c) h)
    where
      never : OfStep u m p z us vs y (fact.Begin t c) → ⊥
      never (Is_point d e is) = absurd cc
      never (Is_sleep q is) = absurd cc
      never (Is_return v e is) = absurd cc
      never (Is_wake v is) = absurd cc
      never (Is_move v is) = absurd cc

  walk_begins_none : (t u : ℕ) (c : Begun) (d : Option ℕ) (us : List ℕ) (b : Bool) → IsAmong (fact.Begin t c) (facts_of (Walked u d us b)) → ⊥
  walk_begins_none t u c d us b h = never (of_walk u d us b (fact.Begin t c) h)
    where
      never : OfWalk u (fact.Begin t c) → ⊥
      never (Is_death m is) = absurd cc
      never (Is_reap is) = absurd cc
      never (Wakes_one v is) = absurd cc

  killed_inside : (u : ℕ) → CallsInside (killed s u)
  killed_inside u t c (inl e) = absurd cc
  killed_inside u t c (inr h) = absurd h

  left_inside : (u : ℕ) → CallsInside (departed s u)
  left_inside u t c (inl e) = absurd cc
  left_inside u t c (inr h) = absurd h

  lapsed_inside : (u k : ℕ) (p : Whole) → CallsInside (lapsed s u (s.threads u).held (OnMutex (call.TimedLock k)) p)
  lapsed_inside u k p t c (inl e) = absurd cc
  lapsed_inside u k p t c (inr (inl e)) = absurd cc
  lapsed_inside u k p t c (inr (inr h)) = absurd h

  overslept_inside : (u k : ℕ) (p : Whole) → CallsInside (overslept s u (s.threads u).held k p)
  overslept_inside u k p t c (inl e) = absurd cc
  overslept_inside u k p t c (inr h) = absurd h

  renewed_inside : (u : ℕ) → CallsInside (renewed s u)
  renewed_inside u t c (inl e) = absurd cc
  renewed_inside u t c (inr h) = absurd h

  reinited_inside : (u j w : ℕ) → j < s.layout.mutexes → CallsInside (reinited s u j w)
  reinited_inside u j w inside t c (inl e) = subst BeginsInside (same_begun u t (reinit_of j) c e) (inside, tt)
  reinited_inside u j w inside t c (inr (inl e)) = absurd cc
  reinited_inside u j w inside t c (inr (inr (inl e))) = absurd cc
  reinited_inside u j w inside t c (inr (inr (inr h))) = absurd h

  calls_inside : (e : Event) → IsLayout s.layout → CallsInside (happens s e)
  calls_inside e is =
      by_event s (λ x a. CallsInside a) (λ x t c h. absurd h) (λ u o first most inside idle b full. begun_inside u o is inside b)
      (λ u first most.
      by_stage s u CallsInside (λ rests t c h. absurd h) (λ o p at awake t c h. absurd (step_begins_none t u _ c _ _ _ _ _ h)) (λ k p at awake t c h. absurd (step_begins_none t u _ c _ _ _ _ _ h))
      (λ w at awake t c h. absurd (walk_begins_none t u c _ _ _ h)))
      (λ u first most alive. killed_inside u)
      (λ u first most asleep. left_inside u)
      (λ u k p first most at asleep may. lapsed_inside u k p)
      (λ u k x p first most at there. overslept_inside u k p)
      (λ u o p first most at awake trims t c h. let g = led o p (whole_led p (Trimmed false)) in absurd (step_begins_none t u (mutex_of s.layout o) c (decision u (mutex_of s.layout o) g.operation g.point) None [] [] g.returned h))
      (λ u first most gone. renewed_inside u)
      (λ u j may. reinited_inside u j 0 may.inside)
      (λ u m g sp t c h. absurd (step_begins_none t u m c (decision u m g.operation g.point) None [] [] g.returned h))
      e

-- ---- facts, one by one

abbrev pub EachOf : (Fact → Type 0) → List Fact → Type 0
EachOf P [] = Unit {0}
EachOf P (f ∷ fs) = P f × EachOf P fs

each_among : (P : Fact → Type 0) (fs : List Fact) → ((f : Fact) → IsAmong f fs → P f) → EachOf P fs
each_among P [] h = tt
each_among P (f ∷ fs) h = (h f (inl refl), each_among P fs (λ g k. h g (inr k)))

each_append : (P : Fact → Type 0) (fs gs : List Fact) → EachOf P fs → EachOf P gs → EachOf P (fs ++ gs)
each_append P [] gs h k = k
each_append P (f ∷ fs) gs h k = (h.0, each_append P fs gs h.1 k)

each_line : (P : Fact → Type 0) (ls : List Line) → EachOf P (facts_in ls) → Each (λ l. P l.fact) ls
each_line P [] h = tt
each_line P (l ∷ ls) h = (h.0, each_line P ls h.1)

-- ---- threads, queues and calls

-- all that a fact names but the mutex of a point or of a death
abbrev IsInside : Head → Fact → Type 0
IsInside h (fact.Begin t c) = IsThreadOf h t × (c.mutex < h.mutexes) × IsCallOf h c.operation c.condition
IsInside h (fact.Sleep t q) = IsThreadOf h t × IsQueueOf h q
IsInside h (fact.Move t m) = IsThreadOf h t × (m < h.mutexes)
IsInside h f = IsThreadOf h (thread_of f)

is_queue_of : (l : Layout') (q : Queue) → IsQueue l q → IsQueueOf (head_of l) q
is_queue_of l (queue.Mutex m) h = h
is_queue_of l (queue.Condition k) h = h

module _ (l : Layout') (counters : ℕ → ℕ) (is : IsLayout l) where
  event_inside : (es : List Event) (e : Event) (f : Fact) → IsAmong f (facts_of (happens (run (start l counters) es) e).note) → IsInside (head_of l) f
  event_inside es e f among = subst (λ (k : Layout'). IsInside (head_of k) f) m.layout (at f among)
    where
      s : State
      s = run (start l counters) es

      m : Moment l s (notes (start l counters) es)
      m = moment l counters es is

      turns : (t : ℕ) → TellsTurns s e t
      turns t = m.tells.next e t

      at : (g : Fact) → IsAmong g (facts_of (happens s e).note) → IsInside (head_of s.layout) g
      at (fact.Begin t c) h = let range = own_threads s e (fact.Begin t c) h refl in let inside = calls_inside s e m.kept.layout t c h in (range, inside.0, inside.1)
      at (fact.Sleep t q) h = (own_threads s e (fact.Sleep t q) h refl, is_queue_of s.layout q (((turns t).sleep q).0 h).1)
      at (fact.Wake t) h = let stood = ((turns t).wake.0 h).0.0 in let slept = m.queued.sleeps stood.0 t stood.1 in (slept.0, slept.1)
      at (fact.Move t k) h =
          let moved = (((turns t).move k).0 h).0 in
          let slept = m.queued.sleeps (queue_place s.layout (queue.Condition moved.0)) t moved.3 in
          ((slept.0, slept.1), subst (λ (x : ℕ). x < s.layout.mutexes) moved.2 (names_mutex s.layout (OnCondition (cond_call.Signal moved.0)) m.kept.layout moved.1))
      at (fact.Point d) h = own_threads s e (fact.Point d) h refl
      at (fact.Death t k) h = own_threads s e (fact.Death t k) h refl
      at (fact.Return t x) h = own_threads s e (fact.Return t x) h refl
      at (fact.Kill t) h = own_threads s e (fact.Kill t) h refl
      at (fact.Reap t) h = own_threads s e (fact.Reap t) h refl
      at (fact.Renew t) h = own_threads s e (fact.Renew t) h refl

  inside_from : (es later : List Event) → EachOf (IsInside (head_of l)) (facts_among (notes (run (start l counters) es) later))
  inside_from es [] = tt
  inside_from es (e ∷ later) =
      let s = run (start l counters) es in
      each_append (IsInside (head_of l)) (facts_of (happens s e).note) (facts_among (notes (happens s e).state later)) (each_among (IsInside (head_of l)) (facts_of (happens s e).note) (event_inside es e))
      (subst (λ (z : State). EachOf (IsInside (head_of l)) (facts_among (notes z later))) (run_push (start l counters) es e) (inside_from (es ++ e ∷ []) later))

-- ---- the mutexes of points and deaths

abbrev IsDecidedIn : ℕ → Option Decision → Type 0
IsDecidedIn n None = Unit {0}
IsDecidedIn n (Some d) = d.mutex < n

decided_in : (n : ℕ) (old new : ℕ → Object) (ls : List Line) → Legal n old (decisions ls) new → Each (λ l. IsDecidedIn n (decision_of l.fact)) ls
decided_in n old new [] legal = tt
decided_in n old new (l ∷ ls) legal = go (decision_of l.fact) legal (λ (os : ℕ → Object). decided_in n os new ls)
  where
    go : (d : Option Decision) → Legal n old (with_decision d (decisions ls)) new → ((os : ℕ → Object) → Legal n os (decisions ls) new → Each (λ l. IsDecidedIn n (decision_of l.fact)) ls) → IsDecidedIn n d × Each (λ l. IsDecidedIn n (decision_of l.fact)) ls
    go None h rest = (tt, rest old h)
    go (Some d) h rest = (h.0, rest h.1.0 h.1.3)

-- ---- the operations of points

abbrev IsOf : Stage → Type 0
IsOf (Calling c m z) = IsCalled c.operation
IsOf v = Unit {0}

abbrev Begins : Fact → Type 0
Begins (fact.Begin t c) = IsCalled c.operation
Begins f = Unit {0}

abbrev Points : Fact → Type 0
Points (fact.Point d) = IsCalled d.operation
Points f = Unit {0}

point_called : (a : Operation) (m : Made) (b : Operation) (x : Reply) → IsCalled a → MayPoint a m b x → IsCalled b
point_called a m b x called may = grind (arith)

own_called : (v : Stage) (f : Fact) → IsOf v → Begins f → May v f → Points f × IsOf (next v f)
own_called Resting (fact.Begin t c) of begins may = (tt, begins)
own_called Resting (fact.Kill t) of begins may = (tt, tt)
own_called (Calling c m z) (fact.Kill t) of begins may = (tt, tt)
own_called (Calling c m z) (fact.Point d) of begins may = (point_called c.operation m d.operation d.reply of may.2, of)
own_called (Calling c m z) (fact.Sleep t q) of begins may = (tt, of)
own_called (Calling c m z) (fact.Wake t) of begins may = (tt, of)
own_called (Calling c m z) (fact.Move t k) of begins may = (tt, of)
own_called (Calling c m z) (fact.Return t x) of begins may = (tt, tt)
own_called Dying (fact.Death t k) of begins may = (tt, tt)
own_called Dying (fact.Reap t) of begins may = (tt, tt)
own_called Reaped (fact.Renew t) of begins may = (tt, tt)
own_called v f of begins may = absurd may

-- of thread t
abbrev PointsOf : ℕ → Fact → Type 0
PointsOf t f = thread_of f ≡ t → Points f

called_from : (t : ℕ) (fs : List Fact) (v : Stage) → IsOf v → EachOf Begins fs → Runs v (own_of t fs) → EachOf (PointsOf t) fs
called_from t [] v of begins runs = tt
called_from t (f ∷ fs) v of begins runs = go (thread_of f == t) refl (is_of_call f) refl runs (called_from t fs)
  where
    others : (g : Fact) → is_of_call g ≡ false → Points g
    others (fact.Point d) e = absurd cc
    others g e = tt

    go : (b : Bool) → (thread_of f == t) ≡ b → (c : Bool) → is_of_call f ≡ c → Runs v (if c && b then f ∷ own_of t fs else own_of t fs)
        → ((x : Stage) → IsOf x → EachOf Begins fs → Runs x (own_of t fs) → EachOf (PointsOf t) fs) → PointsOf t f × EachOf (PointsOf t) fs
    go b e false own runs rest = ((λ is. others f own), rest v of begins.1 runs)
    go false e true own runs rest = ((λ is. absurd (eqb-false (thread_of f) t e is)), rest v of begins.1 runs)
    go true e true own runs rest = let k = own_called v f of begins.0 runs.0 in ((λ is. k.0), rest (next v f) k.1 begins.1 runs.1)

all_called : (fs : List Fact) → ((t : ℕ) → EachOf (PointsOf t) fs) → EachOf Points fs
all_called [] h = tt
all_called (f ∷ fs) h = ((h (thread_of f)).0 refl, all_called fs (λ t. (h t).1))

-- ---- the lines of a run

zip : {P Q R : Line → Type 0} (h : (l : Line) → P l → Q l → R l) (ls : List Line) → Each P ls → Each Q ls → Each R ls
zip h [] p q = tt
zip h (l ∷ ls) p q = (h l p.0 q.0, zip h ls p.1 q.1)

numbered : (i k : ℕ) (fs : List Fact) (more : List Line) → 1 ≤ i → i ≤ k → Each (λ l. (1 ≤ l.event) × (l.event ≤ k)) more → Each (λ l. (1 ≤ l.event) × (l.event ≤ k)) (map (line_of i) fs ++ more)
numbered i k [] more first most rest = rest
numbered i k (f ∷ fs) more first most rest = ((first, most), numbered i k fs more first most rest)

-- their numbers are from the first event's to the last's
pub numbers : (i k : ℕ) (ns : List Note) → 1 ≤ i → i + length ns ≤ k + 1 → Each (λ l. (1 ≤ l.event) × (l.event ≤ k)) (lines_from i ns)
numbers i k [] first most = tt
numbers i k (n ∷ ns) first most = numbered i k (facts_of n) (lines_from (i + 1) ns) first (omega arith) (numbers (i + 1) k ns (omega arith) (omega arith))

whole : (h : Head) (f : Fact) → IsInside h f → IsDecidedIn h.mutexes (decision_of f) → Points f → IsFactOf h f
whole h (fact.Begin t c) inside decided called = inside
whole h (fact.Point d) inside decided called = (inside, decided, called)
whole h (fact.Death t m) inside decided called = (inside, decided)
whole h (fact.Sleep t q) inside decided called = inside
whole h (fact.Wake t) inside decided called = inside
whole h (fact.Move t m) inside decided called = inside
whole h (fact.Return t x) inside decided called = inside
whole h (fact.Kill t) inside decided called = inside
whole h (fact.Reap t) inside decided called = inside
whole h (fact.Renew t) inside decided called = inside

begins_called : (h : Head) (f : Fact) → IsInside h f → Begins f
begins_called h (fact.Begin t c) inside = of_call c.operation c.condition inside.2
  where
    of_call : (op : Operation) (k : Option ℕ) → IsCallOf h op k → IsCalled op
    of_call Death k i = absurd i
    of_call op k i = tt
begins_called h f inside = tt

each_of : {P Q : Fact → Type 0} (h : (f : Fact) → P f → Q f) (fs : List Fact) → EachOf P fs → EachOf Q fs
each_of h [] all = tt
each_of h (f ∷ fs) all = (h f all.0, each_of h fs all.1)

-- each line of a run of at most this many events may be in its trace
pub run_inside : (l : Layout') (counters : ℕ → ℕ) (events : List Event) → IsLayout l → length (notes (start l counters) events) ≤ max_events → Each (IsLineOf (head_of l)) (lines_from 1 (notes (start l counters) events))
run_inside l counters events is few =
    let ns = notes (start l counters) events in
    let ls = lines_from 1 ns in
    let fs = facts_among ns in
    let inside = inside_from l counters is [] events in
    let called = all_called fs (λ t. called_from t fs Resting tt (each_of {P = IsInside (head_of l)} {Q = Begins} (begins_called (head_of l)) fs inside) (run_lives l counters is events t)) in
    zip {P = λ k. IsFactOf (head_of l) k.fact} {Q = λ k. (1 ≤ k.event) × (k.event ≤ max_events)} {R = IsLineOf (head_of l)} (λ k f n. record { first = n.0; most = n.1; fact = f }) ls
    (zip {P = λ k. IsInside (head_of l) k.fact × IsDecidedIn l.mutexes (decision_of k.fact)} {Q = λ k. Points k.fact} {R = λ k. IsFactOf (head_of l) k.fact} (λ k p called. whole (head_of l) k.fact p.0 p.1 called) ls
    (zip {P = λ k. IsInside (head_of l) k.fact} {Q = λ k. IsDecidedIn l.mutexes (decision_of k.fact)} {R = λ k. IsInside (head_of l) k.fact × IsDecidedIn l.mutexes (decision_of k.fact)} (λ k p q. (p, q)) ls
    (each_line (IsInside (head_of l)) ls (subst (EachOf (IsInside (head_of l))) (sym (lines_tell 1 ns)) inside))
    (decided_in l.mutexes opening (seen (run (start l counters) events)) ls (told_legal l counters is events)))
    (each_line Points ls (subst (EachOf Points) (sym (lines_tell 1 ns)) called)))
    (numbers 1 max_events ns (omega arith) (omega (arith, few)))
