-- How often a thread's death is recorded.
use Rattle.std.proofs.Common.{eqb-true, ◌≡◌, ◌≢◌, ◌⊎◌, inl, inr, ℕ, ◌+◌, ◌≤◌, ◌==◌, Bool, true, false, ◌&&◌, Option, Some, None, List, [], ◌∷◌, ◌++◌, map, refl, sym, ap, ◌∙◌, subst, arith}
use Rattle.protocol.proofs.Vocabulary.{Call, OnMutex}
use Rattle.protocol.proofs.Declines.{spared_is}
use Rattle.protocol.proofs.Renewals.{renewed_seen, renewed_other}
use Rattle.protocol.proofs.Reinits.{Says_nothing, waiters_say_nothing, unowned, reinited_seen, reinited_far}
use Rattle.protocol.proofs.Vocabulary.{Operation, OK, eqb-false, Reply, CondCall, condition_of, CondWhole, cond_access, cond_led, Queue, Mutex, Condition, Fact, Access, sleeps_at, Object, XHELD}
use Rattle.protocol.proofs.Vocabulary.{Whole, whole_access, whole_led, Op, OnCondition, mutex_of, Thread, Event, Stage, Idle, Calling, AtCondition, Reaped, facts_of, death_facts}
use Rattle.protocol.proofs.Vocabulary.{reap_facts, State, After, place_met, start, run, notes, is_alive, begun, led, led_at, went, answer_of, decision, slept_in, woken_by}
use Rattle.protocol.proofs.Vocabulary.{moved_by, renewed, reinited, MayRemake, cell_place, walked, has_ended, stepped, happens, killed, seen, facts_among, if◌then◌else◌, nat_tests, Ok, Err}
use Rattle.protocol.proofs.CondAccesses.{cond_stepping}
use Rattle.exitwalk.specs.declared.row.Row.{Row}
use Rattle.exitwalk.specs.Standings as walks
use Rattle.protocol.proofs.Puts.{by_put, put-same, put-other}
use Rattle.protocol.proofs.Frames.{knows_at}
use Rattle.protocol.proofs.Steps.{Transition, Tells, met_no_move, after, went-is, note_of, onto, call_step, cond_onto, cond_step}
use Rattle.protocol.proofs.Stepping.{Stepping}
use Rattle.protocol.proofs.CallSteps.{call_stepping}
use Rattle.protocol.proofs.Accesses.{goes, fits_in}
use Rattle.protocol.proofs.Events.{begins_at, by_event, by_stage}
use Rattle.protocol.proofs.Working.{walk_is}
use Rattle.protocol.proofs.WalkSteps.{walk_of, walk_no_move, by_walked, walk_access, row_then, death_then, walk_after, walked-is, DeathTells, WalkStep, walk_step}
use Rattle.protocol.proofs.Reaped.{no_reaped_owns}
use Rattle.facts.specs.declared.fact.Fact.TheVariants.{Wake, Death, Renew}
use Rattle.protocol.specs.Machine.{Led}
use Rattle.protocol.specs.Deaths.{deaths, IsNotRenewed, ReportsDeaths, ReportsDeath, DeathsAreTold}
use Rattle.protocol.proofs.Objects.{one, one-none, one-own, others}
use Rattle.protocol.proofs.Kept.{Kept}
use Rattle.protocol.proofs.Runs.{sound, start_kept, run_kept, kill_kept}
use Rattle.protocol.proofs.NoteFacts.{IsOfSleep, behind_woken, of_access}
use Rattle.protocol.proofs.Cases.{at_or_else}
use Rattle.protocol.proofs.Seeing.{head_in}
use Rattle.protocol.proofs.Vocabulary.{is_calling}
use Rattle.protocol.proofs.Events.{spared_calls}
use Rattle.protocol.proofs.Sparing.{spare_is}

-- ---- renewals

-- a renewal is recorded neither by the one facts nor by the others
pub not_renewed_apart : (t : ℕ) (fs gs : List Fact) → IsNotRenewed t (fs ++ gs) → IsNotRenewed t fs × IsNotRenewed t gs
not_renewed_apart t [] gs none = (tt, none)
not_renewed_apart t (Renew u ∷ fs) gs none = let rest = not_renewed_apart t fs gs none.1 in ((none.0, rest.0), rest.1)
not_renewed_apart t (f ∷ fs) gs none = not_renewed_apart t fs gs none

-- ---- counting

deaths_later : (t m : ℕ) (fs gs : List Fact) → deaths t m (fs ++ gs) ≡ deaths t m fs + deaths t m gs
deaths_later t m [] gs = omega arith
deaths_later t m (Death u k ∷ fs) gs = let rest = deaths_later t m fs gs in omega arith
deaths_later t m (f ∷ fs) gs = deaths_later t m fs gs

sleep_deaths : (t m u : ℕ) (f : Fact) (fs : List Fact) → IsOfSleep u f → deaths t m fs ≡ 0 → deaths t m (f ∷ fs) ≡ 0
sleep_deaths t m u f fs of none = grind (arith)

note_deaths : (t m : ℕ) (s : State) (u j : ℕ) (k : Queue) (a : Access) (g : Led) → deaths t m (facts_of (note_of s u j k a g)) ≡ 0
note_deaths t m s u j k a g =
    of_access (λ (fs : List Fact). deaths t m fs ≡ 0) u j (decision u j g.operation g.point) (slept_in k (sleeps_at a (s.words (place_met s.layout u a)))) (woken_by a (s.words (place_met s.layout u a)) (s.queues (place_met s.layout u a)))
    (moved_by a (s.words (place_met s.layout u a)) (s.queues (place_met s.layout u a))) g.returned (λ e fs none. none) (λ f of fs none. sleep_deaths t m u f fs of none) (grind (arith))

reaped_deaths : (t m u : ℕ) (ws : List ℕ) (y : Bool) → deaths t m (map Wake ws ++ reap_facts u y) ≡ 0
reaped_deaths t m u ws y = behind_woken (λ (fs : List Fact). deaths t m fs ≡ 0) ws (reap_facts u y) (λ w fs none. none) (grind (arith))

-- a thread owns a mutex, or it counts for nothing there
owner_or : (t : ℕ) (o : Object) → (o.owner ≡ Some t) ⊎ ((o.owner ≢ Some t) × (one t o ≡ 0))
owner_or t o = grind (arith)

-- a walk of thread u that tells of mutex k, in numbers
told_once : (t m u k d o n : ℕ) → d ≡ 0 → (k ≢ m → n ≡ o) → (k ≡ m → u ≢ t → n ≡ o) → (k ≡ m → u ≡ t → (o ≡ 1) × (n ≡ 0)) → (if (u == t) && (k == m) then 1 else 0) + d + n ≡ o
told_once t m u k d o n none elsewhere theirs its = go (u == t) refl (k == m) refl
  where
    go : (a : Bool) → (u == t) ≡ a → (b : Bool) → (k == m) ≡ b → (if a && b then 1 else 0) + d + n ≡ o
    go true x true y = let both = its (eqb-true k m y) (eqb-true u t x) in omega (arith, both.0, both.1, none)
    go true x false y = let same = elsewhere (eqb-false k m y) in omega (arith, same, none)
    go false x true y = let same = theirs (eqb-true k m y) (eqb-false u t x) in omega (arith, same, none)
    go false x false y = let same = elsewhere (eqb-false k m y) in omega (arith, same, none)

-- ---- one event, of a thread t that died before it
module _ (t m : ℕ) where
  -- its death is recorded exactly where it loses the mutex
  abbrev Lost : State → After → Type 0
  Lost s a = deaths t m (facts_of a.note) + one t (seen a.state m) ≡ one t (seen s m)

  module _ (s : State) (inv : Kept s) (dead : is_alive (s.threads t).stage ≡ false) where
    -- whoever lives isn't that thread
    apart_from : (u : ℕ) (g : Stage) → (s.threads u).stage ≡ g → is_alive g ≡ true → u ≢ t
    apart_from u g is lives same = cc (sym dead ∙ ap (λ (v : ℕ). is_alive (s.threads v).stage) (sym same) ∙ ap is_alive is ∙ lives)

    -- a step of another thread leaves it as it was
    same : (u : ℕ) (v : Transition) → u ≢ t → Stepping s u v → one t (seen (after s u v) m) ≡ one t (seen s m)
    same u v other g = at_or_else (λ (k : ℕ). one t (seen (after s u v) k) ≡ one t (seen s k)) v.mutex m (told v.point (seen (after s u v) v.mutex) g.tells) (λ apart. ap (one t) (g.far m apart))
      where
        told : (x : Option Reply) (n : Object) → Tells u (seen s v.mutex) v.operation x n → one t n ≡ one t (seen s v.mutex)
        told None n e = ap (one t) e
        told (Some x) n permits = others (seen s v.mutex) n u t v.operation x other permits

    call_lost : (u : ℕ) → 1 ≤ u → u ≤ s.layout.threads → (o : Op) (p : Whole) → (s.threads u).stage ≡ Calling o p
        → Lost s (went s u (s.threads u).held (mutex_of s.layout o) (Mutex (mutex_of s.layout o)) (whole_access p) (led o p (whole_led p (answer_of s u (whole_access p)))))
    call_lost u pos known o p is =
        let g : Stepping s u (call_step s u o p) = call_stepping s u o p (goes s u o p inv pos known is) (fits_in s u o p inv pos known is).0 in
        subst (Lost s) (sym (went-is s u (mutex_of s.layout o) (Mutex (mutex_of s.layout o)) (Calling o p) (whole_access p) (λ a. led o p (whole_led p a)) g.valid))
        (let none = note_deaths t m s u (mutex_of s.layout o) (Mutex (mutex_of s.layout o)) (whole_access p) (led o p (onto s u p)) in
        let kept = same u (call_step s u o p) (apart_from u (Calling o p) is refl) g in omega arith)

    cond_lost : (u : ℕ) → 1 ≤ u → u ≤ s.layout.threads → (c : CondCall) (p : CondWhole) → (s.threads u).stage ≡ AtCondition c p
        → Lost s (went s u (s.threads u).held (mutex_of s.layout (OnCondition c)) (Condition (condition_of c)) (cond_access p) (led_at c p (cond_led p (answer_of s u (cond_access p)))))
    cond_lost u pos known c p is =
        let g : Stepping s u (cond_step s u c p) = cond_stepping s u c p inv pos known is in
        subst (Lost s) (sym (went-is s u (mutex_of s.layout (OnCondition c)) (Condition (condition_of c)) (AtCondition c p) (cond_access p) (λ a. led_at c p (cond_led p a)) g.valid))
        (let none = note_deaths t m s u (mutex_of s.layout (OnCondition c)) (Condition (condition_of c)) (cond_access p) (led_at c p (cond_onto s u p)) in
        let kept = same u (cond_step s u c p) (apart_from u (AtCondition c p) is refl) g in omega arith)

    walk_lost : (u : ℕ) (r : Row) → WalkStep s u r → Lost s (walked s u (s.threads u).held (walk_of s.layout u r))
    walk_lost u r g = subst (Lost s) (sym (walked-is s u r (met_no_move s.layout u (walk_access s u r) (walk_no_move (head_in s.layout u) r) ∙ g.valid))) (go (death_then s u r) g.tells)
      where
        go : (d : Option ℕ) → DeathTells s u d (walk_after s u r) → deaths t m (death_facts u d ++ (map Wake (woken_by (walk_access s u r) (s.words (place_met s.layout u (walk_access s u r))) (s.queues (place_met s.layout u (walk_access s u r)))) ++ reap_facts u (has_ended (row_then s u r)))) + one t (seen (walk_after s u r) m) ≡ one t (seen s m)
        go None tells = let none = reaped_deaths t m u (woken_by (walk_access s u r) (s.words (place_met s.layout u (walk_access s u r))) (s.queues (place_met s.layout u (walk_access s u r)))) (has_ended (row_then s u r)) in let same : one t (seen (walk_after s u r) m) ≡ one t (seen s m) = ap (one t) (tells m) in omega arith
        go (Some k) tells =
            told_once t m u k _ _ _ (reaped_deaths t m u (woken_by (walk_access s u r) (s.words (place_met s.layout u (walk_access s u r))) (s.queues (place_met s.layout u (walk_access s u r)))) (has_ended (row_then s u r)))
            (λ apart. ap (one t) (tells.2 m (λ e. apart (sym e))))
            (λ at other. subst (λ (i : ℕ). one t (seen (walk_after s u r) i) ≡ one t (seen s i)) at (others (seen s k) (seen (walk_after s u r) k) u t Operation.Death OK other tells.1))
            (λ at is. (
              one-own t (seen s m) (sym (ap (λ (i : ℕ). (seen s i).owner) at) ∙ tells.1.0 ∙ ap Some is),
              one-none t (seen (walk_after s u r) m) (sym (ap (λ (i : ℕ). (seen (walk_after s u r) i).owner) at) ∙ ap (λ (o : Object). o.owner) tells.1.1),
            ))

    step_lost : (u : ℕ) → 1 ≤ u → u ≤ s.layout.threads → Lost s (stepped s u (s.threads u).held (s.threads u).stage)
    step_lost u pos known =
        by_stage s u (Lost s) (λ rests. omega arith) (λ o p is awake. call_lost u pos known o p is) (λ c p is awake. cond_lost u pos known c p is)
        (λ w is awake.
        let there = walk_is s u w inv pos known is in
        subst (λ (z : walks.Standing). Lost s (walked s u (s.threads u).held z)) there.1
        (walk_lost u w.row (walk_step s u inv pos known w.row there.0.going (knows_at s.layout u w there.0) there.2)))

    event_lost : (e : Event) → Lost s (happens s e)
    event_lost e = by_event s (λ (x : Event) (a : After). Lost s a) (λ x. omega arith) (λ u o pos known inside idle b full. begun_lost u o b) step_lost (λ u pos known alive. omega arith) (λ u pos known asleep. omega arith) (λ u k p pos known is asleep may. omega arith) (λ u k x p pos known is there. omega arith)
        (λ u o p pos known is awake trims. subst (Lost s) (sym (spared_is s u o p is trims inv pos known)) (omega arith))
        (λ u pos known gone. let kept : one t (seen (renewed s u).state m) ≡ one t (seen s m) = ap (one t) (renewed_seen s u pos known m) in omega arith)
        (λ u k may. let kept = reinit_counts u k _ (waiters_say_nothing (s.words (cell_place s.layout k))) may in omega arith)
        (λ u k g sp. subst (Lost s) (sym (spare_is s u k g sp inv)) (omega arith)) e
      where
        begun_lost : (u : ℕ) (o : Op) (b : Bool) → Lost s (begun s u o (if b then Err XHELD else Ok (begins_at s.layout u o)))
        begun_lost u o true = omega arith
        begun_lost u o false = omega arith

        -- a mutex that is reinitialised was nobody's, and is
        reinit_counts : (u k w : ℕ) (says : Says_nothing w) (may : MayRemake s u k) → one t (seen (reinited s u k w).state m) ≡ one t (seen s m)
        reinit_counts u k w says may =
            at_or_else (λ (j : ℕ). one t (seen (reinited s u k w).state j) ≡ one t (seen s j)) k m
            (ap (one t) (reinited_seen s u k w says may) ∙ sym (one-none t (seen s k) (unowned s u k w says may inv)))
            (λ apart. ap (one t) (reinited_far s u k w says may m apart))

    calls_live : (g : Stage) → is_calling g ≡ true → is_alive g ≡ true
    calls_live g calls = grind (arith)

    -- it stays dead, unless it is renewed
    event_dead : (e : Event) → IsNotRenewed t (facts_of (happens s e).note) → is_alive ((happens s e).state.threads t).stage ≡ false
    event_dead e =
        by_event s (λ (x : Event) (a : After). IsNotRenewed t (facts_of a.note) → is_alive (a.state.threads t).stage ≡ false) (λ x none. dead) (λ u o pos known inside idle b full none. begun_dead u o idle b) (λ u pos known none. stepped_dead u)
        (λ u pos known alive none. by_put (λ (z : Thread). is_alive z.stage ≡ false) s.threads u _ t (λ e. refl) (λ apart. dead)) (λ u pos known asleep none. dead)
        (λ u k p pos known is asleep may none. ap (λ (z : Thread). is_alive z.stage) (put-other s.threads u _ t (λ e. apart_from u (Calling (OnMutex (Call.TimedLock k)) p) is refl (sym e))) ∙ dead)
        (λ u k x p pos known is there none. ap (λ (z : Thread). is_alive z.stage) (put-other s.threads u _ t (λ e. apart_from u (Calling (OnCondition (CondCall.TimedWait k x)) p) is refl (sym e))) ∙ dead)
        (λ u o p pos known is awake trims none. ap (λ (z : Thread). is_alive z.stage) (put-other s.threads u _ t (λ e. apart_from u (Calling o p) is refl (sym e))) ∙ dead)
        (λ u pos known gone none. ap (λ (z : Thread). is_alive z.stage) (renewed_other s u pos known t (λ e. none.0 (sym e))) ∙ dead) (λ u k may none. dead)
        (λ u k g sp none. ap (λ (z : Thread). is_alive z.stage) (put-other s.threads u _ t (λ e. apart_from u (s.threads u).stage refl (calls_live (s.threads u).stage (spared_calls s u k g sp.how)) (sym e))) ∙ dead) e
      where
        begun_dead : (u : ℕ) (o : Op) → (s.threads u).stage ≡ Idle → (b : Bool) → is_alive ((begun s u o (if b then Err XHELD else Ok (begins_at s.layout u o))).state.threads t).stage ≡ false
        begun_dead u o idle true = dead
        begun_dead u o idle false = ap (λ (z : Thread). is_alive z.stage) (put-other s.threads u (record (s.threads u) { stage = begins_at s.layout u o }) t (λ e. apart_from u Idle idle refl (sym e))) ∙ dead

        stepped_dead : (u : ℕ) → is_alive ((stepped s u (s.threads u).held (s.threads u).stage).state.threads t).stage ≡ false
        stepped_dead u =
            by_stage s u (λ (a : After). is_alive (a.state.threads t).stage ≡ false) (λ rests. dead)
            (λ o p is awake. ap (λ (z : Thread). is_alive z.stage) (put-other s.threads u _ t (λ e. apart_from u (Calling o p) is refl (sym e))) ∙ dead)
            (λ c p is awake. ap (λ (z : Thread). is_alive z.stage) (put-other s.threads u _ t (λ e. apart_from u (AtCondition c p) is refl (sym e))) ∙ dead)
            (λ w is awake. by_put (λ (z : Thread). is_alive z.stage ≡ false) s.threads u _ t (λ e. by_walked (λ (g : Stage). is_alive g ≡ false) w _ (λ ended. refl) (λ going. refl)) (λ apart. dead))

  -- ---- whole runs

  all_lost : (s : State) (es : List Event) → Kept s → is_alive (s.threads t).stage ≡ false → IsNotRenewed t (facts_among (notes s es)) → deaths t m (facts_among (notes s es)) + one t (seen (run s es) m) ≡ one t (seen s m)
  all_lost s [] inv dead none = omega arith
  all_lost s (e ∷ es) inv dead none =
      let apart = not_renewed_apart t (facts_of (happens s e).note) (facts_among (notes (happens s e).state es)) none in
      let first = event_lost s inv dead e in
      let rest = all_lost (happens s e).state es (sound s e inv).kept (event_dead s inv dead e apart.0) apart.1 in
      let both = deaths_later t m (facts_of (happens s e).note) (facts_among (notes (happens s e).state es)) in
      omega arith

reported_from : (s : State) (t : ℕ) (es : List Event) → Kept s → 1 ≤ t → t ≤ s.layout.threads → is_alive (s.threads t).stage ≡ true → IsNotRenewed t (facts_among (notes (killed s t).state es)) → ReportsDeath s t es
reported_from s t es inv pos known alive none_told = record {
  owned = λ m inside own. decide m (owner_or t (seen (run (killed s t).state es) m)) (one-own t (seen s m) own);
  others = λ m inside apart. none m (owner_or t (seen s m)) apart;
  reaped = λ m inside own gone. once m (owner_or t (seen (run (killed s t).state es) m)) (one-own t (seen s m) own) gone;
}
  where
    kept_then : Kept (killed s t).state
    kept_then = kill_kept s t inv pos known alive

    total : (m : ℕ) → deaths t m (facts_among (notes (killed s t).state es)) + one t (seen (run (killed s t).state es) m) ≡ one t (seen s m)
    total m = all_lost t m (killed s t).state es kept_then (ap (λ (z : Thread). is_alive z.stage) (put-same s.threads t _)) none_told

    decide : (m : ℕ) → ((seen (run (killed s t).state es) m).owner ≡ Some t) ⊎ (((seen (run (killed s t).state es) m).owner ≢ Some t) × (one t (seen (run (killed s t).state es) m) ≡ 0)) → one t (seen s m) ≡ 1
        → ((deaths t m (facts_among (notes (killed s t).state es)) ≡ 1) × ((seen (run (killed s t).state es) m).owner ≢ Some t)) ⊎ ((deaths t m (facts_among (notes (killed s t).state es)) ≡ 0) × ((seen (run (killed s t).state es) m).owner ≡ Some t))
    decide m (inl own) had = let all = total m in let has = one-own t (seen (run (killed s t).state es) m) own in inr (omega arith, own)
    decide m (inr gone) had = let all = total m in let has = gone.1 in inl (omega arith, gone.0)

    none : (m : ℕ) → ((seen s m).owner ≡ Some t) ⊎ (((seen s m).owner ≢ Some t) × (one t (seen s m) ≡ 0)) → (seen s m).owner ≢ Some t → deaths t m (facts_among (notes (killed s t).state es)) ≡ 0
    none m (inl own) apart = absurd (apart own)
    none m (inr free) apart = let all = total m in let nothing_there = free.1 in omega arith

    once : (m : ℕ) → ((seen (run (killed s t).state es) m).owner ≡ Some t) ⊎ (((seen (run (killed s t).state es) m).owner ≢ Some t) × (one t (seen (run (killed s t).state es) m) ≡ 0)) → one t (seen s m) ≡ 1 → ((run (killed s t).state es).threads t).stage ≡ Reaped → deaths t m (facts_among (notes (killed s t).state es)) ≡ 1
    once m (inl own) had gone = absurd (no_reaped_owns (run (killed s t).state es) (run_kept (killed s t).state es kept_then) m t gone own)
    once m (inr lost) had gone = let all = total m in let has = lost.1 in omega arith

-- so it is of every run from a state that keeps the invariant
pub reports_deaths : (s : State) (events : List Event) → Kept s → ReportsDeaths s events
reports_deaths s events kept before after rest t is there alive none =
    let inv : Kept (run s before) = run_kept s before kept in
    reported_from (run s before) t after inv (grind (arith, nat_tests)) (grind (arith, nat_tests)) alive none

pub told_deaths : DeathsAreTold
told_deaths l counters events is = reports_deaths (start l counters) events (start_kept l counters is)
