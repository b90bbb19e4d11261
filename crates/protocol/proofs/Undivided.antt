-- Calls that no other event divides.
use Rattle.std.proofs.Common.{◌≡◌, ◌≢◌, ◌⊎◌, ⊎_elim, inl, inr, ℕ, zero, suc, ◌<◌, ◌≤◌, Bool, true, false, ◌&&◌, Option, Some, None, Result, Ok, Err, List, [], ◌∷◌, ◌++◌, refl, sym, ap, ◌∙◌, subst, arith}
use Rattle.protocol.proofs.Vocabulary.{Return, Object, Operation, cell_place, sleeps_at, held_by, Does, Permits, acquires, owner_of, owner_of-some, Fields, fields_of, word_of}
use Rattle.protocol.proofs.Vocabulary.{fields_of-word_of, Reply, XRACED, XHELD, Phase, Onward, Joins, Whole, whole_access, Op, OnMutex, OnCondition, Step, Thread, Stage, Idle}
use Rattle.protocol.proofs.Vocabulary.{Calling, mutex_of, State, After, start, is_calling, sleeps, is_asleep, may_begin, begun, first_stage, nothing, stage_after, returned}
use Rattle.protocol.proofs.Vocabulary.{happens, run, notes, seen, facts_among, facts_of, if◌then◌else◌, nat_le, replicate, MatchBool, nat_tests, LockRow, CondCall, Call}
use Rattle.mutex.specs.declared.row.Row.TheVariants.{Lock}
use Rattle.mutex.specs.Calls as calls
use Rattle.mutex.specs.Whole.{begins, first_phase}
use Rattle.condvar.specs.Whole as condition
use Rattle.memorymap.specs.Layouts.{Layout', IsLayout}
use Rattle.protocol.specs.declared.event.Event.{Event}
use Rattle.protocol.specs.declared.event.Event.TheVariants.{Begin}
use Rattle.condvar.specs.Ops.{operation_of, condition_of}
use Rattle.protocol.specs.Sleepers.{IsAmong, IsKeptWaiting, IsWaiting, IsUndivided, RunsAlone, NoSleeperIsStranded, LoneThreadsComeToRest, UndividedCallsReply}
use Rattle.protocol.proofs.Puts.{put-same}
use Rattle.protocol.proofs.Phases.{decided_at, SteadyAt}
use Rattle.protocol.proofs.Kept.{AtRow, InPhase, Fits, Serves, Kept}
use Rattle.protocol.proofs.Steps.{Tells, seen-inside, onto, after, met, call_step}
use Rattle.protocol.proofs.Arrivals.{ended_or_not}
use Rattle.protocol.proofs.Stepping.{left_of, Stepping}
use Rattle.protocol.proofs.CallSteps.{CallStep, call_stepping}
use Rattle.protocol.proofs.Accesses.{fits_in}
use Rattle.protocol.proofs.Accesses.{goes as goes_in}
use Rattle.protocol.proofs.Events.{at_rest, begins_at, first_is}
use Rattle.protocol.proofs.Endings.{call_ends}
use Rattle.protocol.proofs.Working.{call_goes}
use Rattle.protocol.proofs.Runs.{sound, start_kept, run_kept}
use Rattle.protocol.proofs.Queued.{Queued, in_none, out_awake, mine, still_out, went_queued}
use Rattle.protocol.proofs.QueueRuns.{run_queued, queued_on}
use Rattle.condvar.specs.Ops.{acts_as}
use Rattle.protocol.proofs.Events.{acquires_same}
use Rattle.protocol.proofs.Owed.{somebody_owes, ends_alone}
use Rattle.protocol.proofs.Returning.{still_run, still_tells, idle_still}
use Rattle.protocol.proofs.Comings.{ComesBack, at_first, takes_step}
use Rattle.protocol.proofs.CondAlone.{comes_at}

-- what holds of a call where it sleeps: a lock of a mutex that another owns, or a wait by the owner of a consistent one
abbrev SleepsSo : Object → ℕ → Op → State → Type 0
SleepsSo o t c z = IsKeptWaiting o t (acts_as c) ⊎ IsWaiting o t (acts_as c) (condition_of c) z

-- ---- the call on a mutex of thread t, which held this many mutexes when its mutex was this object
module _ (t held : ℕ) (c : Call) (o : Object) (room : acquires (calls.acts_as c) ≡ true → held < 2048) where
  abbrev m : ℕ
  m = calls.mutex_of c

  abbrev op : Operation
  op = calls.acts_as c

  -- it sleeps only on a mutex that another owns
  abbrev KeptOut : State → Type 0
  KeptOut z = IsKeptWaiting o t op

  -- undecided, the object is as it was; decided, it is as the reply tells
  abbrev Decided : Option Reply → Object → Type 0
  Decided None now = now ≡ o
  Decided (Some x) now = Does held o t op x now

  decides : (d x y : Option Reply) (old new : Object) → Joins d x y → Tells t old op x new → Decided d old → Decided y new
  decides d x y old new joins permits was = grind (arith)

  -- one step of it, while it is awake
  module _ (s : State) (p : Whole) (inv : Kept s) (queued : Queued s) (pos : 1 ≤ t) (known : t ≤ s.layout.threads) (is : (s.threads t).stage ≡ Calling (OnMutex c) p) (awake : is_asleep s t ≡ false) (steady : SteadyAt t p.phase (s.words (cell_place s.layout m))) (was : Decided (decided_at p.phase) (seen s m)) where
    abbrev w : ℕ
    w = s.words (cell_place s.layout m)

    fit : Fits s t (s.threads t).held m p × Serves s.layout (OnMutex c) p
    fit = fits_in s t (OnMutex c) p inv pos known is

    went : CallStep s t (OnMutex c) p
    went = goes_in s t (OnMutex c) p inv pos known is

    step : Stepping s t (call_step s t (OnMutex c) p)
    step = call_stepping s t (OnMutex c) p went fit.0

    abbrev to : Onward
    to = onto s t p

    abbrev z : State
    z = after s t (call_step s t (OnMutex c) p)

    abbrev falls : Bool
    falls = sleeps_at (whole_access p) (met s t (call_step s t (OnMutex c) p))

    stage_then : (z.threads t).stage ≡ stage_after (OnMutex c) p to.phase
    stage_then = mine s t (call_step s t (OnMutex c) p) step pos known is queued awake

    queued_then : Queued z
    queued_then = went_queued s t (call_step s t (OnMutex c) p) step pos known is queued awake

    changed_to : Decided (decided_at to.phase) (seen z m)
    changed_to = decides (decided_at p.phase) to.point (decided_at to.phase) (seen s m) (seen z m) went.moves.joins (subst (λ (x : Operation). Tells t (seen s m) x to.point (seen z m)) fit.1 went.tells) was

    steady_then : falls ≡ false → SteadyAt t to.phase (z.words (cell_place s.layout m))
    steady_then quiet = went.moves.steady (sym went.same_sleep ∙ quiet) steady

    -- it slept on a mutex that another owns
    slept : falls ≡ true → IsKeptWaiting o t op
    slept on =
        let row = went.sleeper on in
        let facts : (w ≡ word_of row.0) × (row.0.owner ≢ t) = subst (λ (x : Phase). SteadyAt t x w) row.1 steady in
        let sees : AtRow t (s.threads t).held p.operation (Lock (LockRow.Sleep row.0)) (seen s m) = subst (λ (x : Phase). InPhase t (s.threads t).held p x (seen s m)) row.1 fit.0.stands in
        let same : seen s m ≡ o = subst (λ (x : Phase). Decided (decided_at x) (seen s m)) row.1 was in
        let cell : fields_of w ≡ row.0 = ap fields_of facts.0 ∙ fields_of-word_of row.0 sees.knows.0.1 in
        let some : 1 ≤ row.0.owner = (let e = sees.knows.0.0 in omega arith) in
        record {
          locks = sym fit.1 ∙ sym sees.of;
          owned = (
            row.0.owner,
            sym (ap (λ (x : Object). x.owner) same) ∙ ap (λ (x : Object). x.owner) (seen-inside s m fit.0.inside) ∙ ap (λ (x : Fields). owner_of x.owner) cell ∙ owner_of-some row.0.owner some,
            facts.1,
          );
        }

    -- what it returned is what it was decided
    replied : (x : Reply) (f : Phase) → returned (OnMutex c) f ≡ Some x → falls ≡ false → SteadyAt t f (z.words (cell_place s.layout m)) → Decided (decided_at f) (seen z m) → (x ≢ XRACED) × Does held o t op x (seen z m)
    replied x f e quiet calm done = grind (arith)

    -- it falls asleep, returns, or goes on
    one_step : (n : ℕ) → ((y : State) (q : Whole) → Kept y → Queued y → 1 ≤ t → t ≤ y.layout.threads → (y.threads t).stage ≡ Calling (OnMutex c) q → is_asleep y t ≡ false → SteadyAt t q.phase (y.words (cell_place y.layout m)) → Decided (decided_at q.phase) (seen y m) → ComesBack t held m op o KeptOut y n)
        → ComesBack t held m op o KeptOut s (suc n)
    one_step n further =
        takes_step t held m op o KeptOut s (call_step s t (OnMutex c) p) step queued pos known is awake m _ _ _ _ (returned (OnMutex c) to.phase) (call_goes s t (OnMutex c) p inv pos known is awake) (call_ends (OnMutex c) p to) n
        slept
        (λ x quiet e. replied x to.phase e quiet (steady_then quiet) changed_to)
        (λ quiet calling.
        ⊎_elim
        (λ ended. absurd (cc (sym (ap (λ (f : Phase). is_calling (stage_after (OnMutex c) p f)) ended.1) ∙ calling)))
        (λ on.
        further z (record p { phase = to.phase }) step.kept queued_then pos known (stage_then ∙ on (OnMutex c) p)
        (out_awake z t (still_out s t (call_step s t (OnMutex c) p) step pos known is queued awake quiet))
        (steady_then quiet) changed_to)
        (ended_or_not to.phase))

  -- a call that is awake, whatever steps it has made
  comes : (n : ℕ) (s : State) (p : Whole) → Kept s → Queued s → 1 ≤ t → t ≤ s.layout.threads → (s.threads t).stage ≡ Calling (OnMutex c) p → is_asleep s t ≡ false → SteadyAt t p.phase (s.words (cell_place s.layout m)) → Decided (decided_at p.phase) (seen s m) → ComesBack t held m op o KeptOut s n
  comes zero s p inv queued pos known is awake steady was = at_first t held m op o KeptOut s (call_step s t (OnMutex c) p) (step s p inv queued pos known is awake steady was) is awake
  comes (suc n) s p inv queued pos known is awake steady was = one_step s p inv queued pos known is awake steady was n (comes n)

-- ---- a call from its begin on

-- a call begins undecided, and knows nothing of the cell
first_decided : (c : Call) → decided_at (first_phase c) ≡ None
first_decided c = grind (arith)

first_steady : (t : ℕ) (c : Call) (w : ℕ) → SteadyAt t (first_phase c) w
first_steady t c w = grind (arith)

-- few accesses are left of it
first_few : (s : State) (t : ℕ) (o : Op) → left_of s (begins_at s.layout t o) ≤ 9000
first_few s t o = grind (arith)

-- where it has begun, with the mutex as it was
first_comes : (o : Object) (held n : ℕ) (s : State) (t : ℕ) (c : Op) → (acquires (acts_as c) ≡ true → held < 2048) → seen s (mutex_of s.layout c) ≡ o → Kept s → Queued s → 1 ≤ t → t ≤ s.layout.threads → (s.threads t).stage ≡ begins_at s.layout t c → is_asleep s t ≡ false
    → ComesBack t held (mutex_of s.layout c) (acts_as c) o (SleepsSo o t c) s n
first_comes o held n s t (OnMutex c) room same inv queued pos known is awake =
    let back = comes t held c o room n s (begins s.layout t c) inv queued pos known is awake (first_steady t c (s.words (cell_place s.layout (calls.mutex_of c))))
    (subst (λ (d : Option Reply). Decided t held c o room d (seen s (calls.mutex_of c))) (sym (first_decided c)) same) in
    (record { returns = back.0.returns; sleeps = λ e. inl (back.0.sleeps e) }, back.1)
first_comes o held n s t (OnCondition (CondCall.Wait k)) room same inv queued pos known is awake =
    let back = comes_at t held o (CondCall.Wait k) n s (condition.begins s.layout t (CondCall.Wait k)) inv queued pos known is awake same in
    (record { returns = back.0.returns; sleeps = λ e. inr (back.0.sleeps e) }, back.1)
first_comes o held n s t (OnCondition (CondCall.TimedWait k l)) room same inv queued pos known is awake =
    let back = comes_at t held o (CondCall.TimedWait k l) n s (condition.begins s.layout t (CondCall.TimedWait k l)) inv queued pos known is awake same in
    (record { returns = back.0.returns; sleeps = λ e. inr (back.0.sleeps e) }, back.1)
first_comes o held n s t (OnCondition (CondCall.Signal k)) room same inv queued pos known is awake =
    let back = comes_at t held o (CondCall.Signal k) n s (condition.begins s.layout t (CondCall.Signal k)) inv queued pos known is awake same in
    (record { returns = back.0.returns; sleeps = λ e. inr (back.0.sleeps e) }, back.1)
first_comes o held n s t (OnCondition (CondCall.Broadcast k)) room same inv queued pos known is awake =
    let back = comes_at t held o (CondCall.Broadcast k) n s (condition.begins s.layout t (CondCall.Broadcast k)) inv queued pos known is awake same in
    (record { returns = back.0.returns; sleeps = λ e. inr (back.0.sleeps e) }, back.1)

module _ (s : State) (t : ℕ) (c : Op) (n : ℕ) (inv : Kept s) (queued : Queued s) (pos : 1 ≤ t) (known : t ≤ s.layout.threads) (may : may_begin s t c ≡ true) (idle : (s.threads t).stage ≡ Idle) where
  abbrev k : ℕ
  k = mutex_of s.layout c

  abbrev owned : ℕ
  owned = held_by t (seen s) s.layout.mutexes

  abbrev full : Bool
  full = acquires (operation_of c) && nat_le 2048 (s.threads t).held

  abbrev begun_to : Bool → After
  begun_to b = begun s t c (if b then Err XHELD else Ok (begins_at s.layout t c))

  begins_so : happens s (Begin t c) ≡ begun_to full
  begins_so = ap (λ (b : Bool). if b then begun s t c (first_stage s.layout t (s.threads t).held c) else nothing s) may ∙ ap (λ (r : Result Stage Reply). begun s t c r) (first_is s.layout t (s.threads t).held c)

  -- refused at once
  refused : full ≡ true → IsUndivided s t c n
  refused e =
      let to : happens s (Begin t c) ≡ begun_to true = begins_so ∙ ap begun_to e in
      let still = idle_still s t idle in
      let back : run s (Begin t c ∷ replicate n (Step t)) ≡ s = ap (λ (a : After). run a.state (replicate n (Step t))) to ∙ still_run s t n still in
      let holds : (acquires (operation_of c) && nat_le 2048 owned) ≡ true = subst (λ (h : ℕ). (acquires (operation_of c) && nat_le 2048 h) ≡ true) (inv.held t pos known) e in
      record {
        ends = λ enough. inl (XHELD, subst (λ (a : After). IsAmong (Return t XHELD) (facts_of a.note ++ facts_among (notes a.state (replicate n (Step t))))) (sym to) (inr (inr (inl refl))));
        returns = λ x among.
            let said = subst (λ (a : After). IsAmong (Return t x) (facts_of a.note ++ facts_among (notes a.state (replicate n (Step t))))) to among in
            let is : x ≡ XHELD = only x (subst (λ fs. IsAmong (Return t x) (facts_of (begun_to true).note ++ fs)) (still_tells s t n still) said) in (
              (λ raced. cc (sym is ∙ raced)),
              subst (λ (z : Reply × State). Does owned (seen s k) t (acts_as c) z.0 (seen z.1 k)) (λ i. (sym is i, sym back i))
                  (subst (λ (b : Bool). MatchBool b ((XHELD ≡ XHELD) × (seen s k ≡ seen s k)) (Permits (seen s k) t (acts_as c) XHELD (seen s k))) (sym (ap (λ (b : Bool). b && nat_le 2048 owned) (acquires_same c) ∙ holds)) (refl, refl)),
            );
        sleeps = λ asleep. absurd (cc (sym (ap (λ (z : State). is_asleep z t) back ∙ ap (sleeps s t) idle) ∙ asleep));
      }
    where
      only : (x : Reply) → IsAmong (Return t x) (facts_of (begun_to true).note ++ []) → x ≡ XHELD
      only x among = grind (arith)

  -- begun
  goes : full ≡ false → IsUndivided s t c n
  goes e =
      let to : happens s (Begin t c) ≡ begun_to false = begins_so ∙ ap begun_to e in
      let s1 : State = (begun_to false).state in
      let kept1 : Kept s1 = subst (λ (a : After). Kept a.state) to (sound s (Begin t c) inv).kept in
      let queued1 : Queued s1 = subst (λ (a : After). Queued a.state) to (queued_on s (Begin t c) inv queued) in
      let begins_here : (s1.threads t).stage ≡ begins_at s.layout t c = ap (λ (z : Thread). z.stage) (put-same s.threads t (record (s.threads t) { stage = begins_at s.layout t c })) in
      let comes1 = first_comes (seen s k) owned n s1 t c (λ takes. room (sym (acquires_same c) ∙ takes)) refl kept1 queued1 pos known begins_here (out_awake s1 t (in_none s t queued (ap (sleeps s t) idle))) in
      record {
        ends = λ enough.
            subst (λ (a : After). ((x : Reply) × IsAmong (Return t x) (facts_of a.note ++ facts_among (notes a.state (replicate n (Step t))))) ⊎ (is_asleep (run a.state (replicate n (Step t))) t ≡ true)) (sym to)
            (⊎_elim (λ told. inl (told.0, inr told.1)) inr (comes1.1 (few enough)));
        returns = λ x among.
            let said = subst (λ (a : After). IsAmong (Return t x) (facts_of a.note ++ facts_among (notes a.state (replicate n (Step t))))) to among in
            subst (λ (a : After). (x ≢ XRACED) × Does owned (seen s k) t (acts_as c) x (seen (run a.state (replicate n (Step t))) k)) (sym to)
            (comes1.0.returns x (⊎_elim (λ b. absurd (cc b)) (λ rest. rest) said));
        sleeps = λ asleep.
            subst (λ (a : After). SleepsSo (seen s k) t c (run a.state (replicate n (Step t)))) (sym to)
            (comes1.0.sleeps (ap (λ (a : After). is_asleep (run a.state (replicate n (Step t))) t) (sym to) ∙ asleep));
      }
    where
      few : 9000 ≤ n → left_of (begun_to false).state ((begun_to false).state.threads t).stage ≤ n
      few enough = subst (λ (z : Thread). left_of (begun_to false).state z.stage ≤ n) (sym (put-same s.threads t (record (s.threads t) { stage = begins_at s.layout t c }))) (let most = first_few (begun_to false).state t c in omega arith)

      room : acquires (operation_of c) ≡ true → owned < 2048
      room takes = let h = inv.held t pos known in let few : (s.threads t).held < 2048 = grind (arith, nat_tests) in omega arith

undivided : (s : State) → Kept s → Queued s → (t : ℕ) (c : Op) (n : ℕ) → may_begin s t c ≡ true → IsUndivided s t c n
undivided s inv queued t c n may =
    let pos : 1 ≤ t = grind (arith, nat_tests) in
    let known : t ≤ s.layout.threads = grind (arith, nat_tests) in
    let idle : (s.threads t).stage ≡ Idle = at_rest (s.threads t).stage (grind (arith, nat_tests)) in
    go pos known idle (acquires (operation_of c) && nat_le 2048 (s.threads t).held) refl
  where
    go : 1 ≤ t → t ≤ s.layout.threads → (s.threads t).stage ≡ Idle → (b : Bool) → (acquires (operation_of c) && nat_le 2048 (s.threads t).held) ≡ b → IsUndivided s t c n
    go pos known idle true e = refused s t c n inv queued pos known may idle e
    go pos known idle false e = goes s t c n inv queued pos known may idle e

-- each state that events lead to keeps the three
runs_alone_from : (s : State) → Kept s → Queued s → RunsAlone s
runs_alone_from s inv queued = record { owed = somebody_owes s inv queued; ends = ends_alone s inv queued; undivided = undivided s inv queued }

pub runs_alone : (l : Layout') (counters : ℕ → ℕ) (events : List Event) → IsLayout l → RunsAlone (run (start l counters) events)
runs_alone l counters events is =
    runs_alone_from (run (start l counters) events) (run_kept (start l counters) events (start_kept l counters is)) (run_queued l counters events is)

pub nobody_stranded : NoSleeperIsStranded
nobody_stranded l counters events is = (runs_alone l counters events is).owed

pub all_rest : LoneThreadsComeToRest
all_rest l counters events is = (runs_alone l counters events is).ends

pub all_reply : UndividedCallsReply
all_reply l counters events is = (runs_alone l counters events is).undivided
