-- The step of a thread, in a call or dead.
use Rattle.std.proofs.Common.{arith, ◌≡◌, ℕ, ◌≤◌, Bool, true, false, Option, Some, None, List, [], ◌∷◌, ◌++◌, map, refl, sym, ap, ◌∙◌, subst}
use Rattle.protocol.proofs.Vocabulary.{Fact, CondCall, condition_of, CondWhole, cond_access, cond_led, Queue, Mutex, Condition, Operation, Decision, sleeps_at, Reply, OK, Whole}
use Rattle.protocol.proofs.Vocabulary.{whole_access, whole_led, Op, OnCondition, Step, Note, Stepped, Walked, Stage, Calling, AtCondition, Dying, mutex_of, facts_of, sleep_facts}
use Rattle.protocol.proofs.Vocabulary.{moves_to, return_facts, reap_facts, State, After, answer_of, woken_by, moved_by, sleeps, told_of, is_asleep, nothing, decision, slept_in}
use Rattle.protocol.proofs.Vocabulary.{led, led_at, went, walked, stepped, happens, if◌then◌else◌, queue_place, points_of}
use Rattle.exitwalk.specs.Standings as walks
use Rattle.protocol.specs.Wakings.{IsQueue}
use Rattle.protocol.proofs.Kept.{Walks, Sits, LeftToWalk, Listed, Kept}
use Rattle.protocol.proofs.Steps.{Transition, IsNoMove, after, place_of, met, met_queue, call_step, call_note, cond_step, cond_note, went-is}
use Rattle.protocol.proofs.Frames.{knows_at}
use Rattle.protocol.proofs.CallSteps.{call_stepping}
use Rattle.protocol.proofs.Accesses.{goes, fits_in}
use Rattle.protocol.proofs.WalkSteps.{walk_of, or_first, death_then, walk_no_move, walk_transition, walk_note, walked-is}
use Rattle.protocol.proofs.WalkStepping.{walks_awake, walk_stepping}
use Rattle.protocol.proofs.CondAccesses.{cond_sleeps, cond_stepping, fits_at}
use Rattle.protocol.proofs.Stepping.{Stepping}
use Rattle.protocol.proofs.Events.{is_known, IsWorking, by_stage}
use Rattle.protocol.proofs.NoteFacts.{IsOfSleep, behind_woken, behind_point}

-- ---- how a step is noted

-- as an access of a call, and where it falls asleep that queue is recorded; or as one of a walk
pub data Noted (s : State) (t : ℕ) (v : Transition) (n : Note) : Type 0 where
  Of_call : (k : Queue) (y : Option Reply) → n ≡ Stepped t v.mutex (decision t v.mutex v.operation v.point) (slept_in k (sleeps_at v.access (met s t v))) (woken_by v.access (met s t v) (met_queue s t v)) (moved_by v.access (met s t v) (met_queue s t v)) y
      → (sleeps_at v.access (met s t v) ≡ true → (place_of s t v ≡ queue_place s.layout k) × IsQueue s.layout k) → Noted s t v n
  Of_walk : (d : Option ℕ) (y : Bool) → n ≡ Walked t d (woken_by v.access (met s t v) (met_queue s t v)) y → v.mutex ≡ or_first d → v.operation ≡ Operation.Death → v.point ≡ told_of d → sleeps_at v.access (met s t v) ≡ false → IsNoMove v.access → Noted s t v n

-- ---- the points of a step

abbrev pub point_of : ℕ → ℕ → Operation → Option Reply → List Decision
point_of t m op None = []
point_of t m op (Some x) = record { thread = t; mutex = m; operation = op; reply = x } ∷ []

abbrev pub point_at : ℕ → Transition → List Decision
point_at t v = point_of t v.mutex v.operation v.point

-- who sleeps, who is woken or moved, what is returned and who is reaped is no point
sleep_points : (t : ℕ) (f : Fact) (fs : List Fact) → IsOfSleep t f → points_of fs ≡ [] → points_of (f ∷ fs) ≡ []
sleep_points t f fs of none = grind (arith)

no_points : (t m : ℕ) (z : Option Queue) (ws ms : List ℕ) (y : Option Reply) → points_of (sleep_facts t z ++ (map Fact.Wake ws ++ (map (moves_to m) ms ++ return_facts t y))) ≡ []
no_points t m z ws ms y = behind_point (λ (fs : List Fact). points_of fs ≡ []) t m z ws ms (return_facts t y) (λ f of fs none. sleep_points t f fs of none) (grind (arith))

pub reaped_points : (t : ℕ) (ws : List ℕ) (y : Bool) → points_of (map Fact.Wake ws ++ reap_facts t y) ≡ []
reaped_points t ws y = behind_woken (λ (fs : List Fact). points_of fs ≡ []) ws (reap_facts t y) (λ w fs none. none) (grind (arith))

pub told_call : (t m : ℕ) (op : Operation) (x : Option Reply) (z : Option Queue) (ws ms : List ℕ) (y : Option Reply) → points_of (facts_of (Stepped t m (decision t m op x) z ws ms y)) ≡ point_of t m op x
told_call t m op None z ws ms y = no_points t m z ws ms y
told_call t m op (Some x) z ws ms y = ap (λ (ds : List Decision). record { thread = t; mutex = m; operation = op; reply = x } ∷ ds) (no_points t m z ws ms y)

pub told_walk : (t : ℕ) (d : Option ℕ) (us : List ℕ) (y : Bool) → points_of (facts_of (Walked t d us y)) ≡ point_of t (or_first d) Operation.Death (told_of d)
told_walk t None us y = reaped_points t us y
told_walk t (Some m) us y = ap (λ (ds : List Decision). record { thread = t; mutex = m; operation = Operation.Death; reply = OK } ∷ ds) (reaped_points t us y)

-- a step is noted with its point
pub noted_points : (s : State) (t : ℕ) (v : Transition) (n : Note) → Noted s t v n → points_of (facts_of n) ≡ point_at t v
noted_points s t v n (Of_call k y is where_to) = ap (λ (z : Note). points_of (facts_of z)) is ∙ told_call t v.mutex v.operation v.point _ _ _ y
noted_points s t v n (Of_walk d y is m op point quiet stays) = ap (λ (z : Note). points_of (facts_of z)) is ∙ told_walk t d _ y ∙ (λ i. point_of t (sym m i) (sym op i) (sym point i))

-- ---- a step

-- a thread's walk is at a row
pub walk_is : (s : State) (t : ℕ) (w : walks.Standing) → Kept s → 1 ≤ t → t ≤ s.layout.threads → (s.threads t).stage ≡ Dying w → Walks s.layout t w × (walk_of s.layout t w.row ≡ w) × LeftToWalk s t w.row
walk_is s t w inv pos known is =
    let f : Walks s.layout t w = subst (λ (g : Stage). Sits s t (s.threads t).held g) is (inv.sits t pos known) in
    (f, (λ i. record { thread = sym f.mine i; head = sym f.head i; row = w.row }), subst (Listed s t) is (inv.listed t pos known))

-- what holds of a thread that rests or sleeps, where nothing happens, and of each access of one that is awake, holds of its step
pub by_step : (s : State) (t : ℕ) → Kept s → 1 ≤ t → t ≤ s.layout.threads → (P : After → Type 0)
    → ((is_asleep s t ≡ false → IsWorking (s.threads t).stage → ⊥) → P (nothing s))
    → ((v : Transition) (n : Note) → (s.threads t).stage ≡ v.from → is_asleep s t ≡ false → Stepping s t v → Noted s t v n → P (record { state = after s t v; note = n }))
    → P (stepped s t (s.threads t).held (s.threads t).stage)
by_step s t inv pos known P none accesses = by_stage s t P none called at_condition on_a_walk
  where
    called : (o : Op) (p : Whole) → (s.threads t).stage ≡ Calling o p → is_asleep s t ≡ false → P (went s t (s.threads t).held (mutex_of s.layout o) (Mutex (mutex_of s.layout o)) (whole_access p) (led o p (whole_led p (answer_of s t (whole_access p)))))
    called o p is awake =
        let fits = fits_in s t o p inv pos known is in
        let g = goes s t o p inv pos known is in
        let step = call_stepping s t o p g fits.0 in
        subst P (sym (went-is s t (mutex_of s.layout o) (Mutex (mutex_of s.layout o)) (Calling o p) (whole_access p) (λ a. led o p (whole_led p a)) step.valid))
        (accesses (call_step s t o p) (call_note s t o p) is awake step (Of_call (Mutex (mutex_of s.layout o)) _ refl (λ on. (g.place on, fits.0.inside))))

    at_condition : (c : CondCall) (p : CondWhole) → (s.threads t).stage ≡ AtCondition c p → is_asleep s t ≡ false
        → P (went s t (s.threads t).held (mutex_of s.layout (OnCondition c)) (Condition (condition_of c)) (cond_access p) (led_at c p (cond_led p (answer_of s t (cond_access p)))))
    at_condition c p is awake =
        let step = cond_stepping s t c p inv pos known is in
        subst P (sym (went-is s t (mutex_of s.layout (OnCondition c)) (Condition (condition_of c)) (AtCondition c p) (cond_access p) (λ a. led_at c p (cond_led p a)) step.valid))
        (accesses (cond_step s t c p) (cond_note s t c p) is awake step (Of_call (Condition (condition_of c)) _ refl (λ on. (cond_sleeps s t c p inv pos known is on, (fits_at s t c p inv pos known is).there))))

    on_a_walk : (w : walks.Standing) → (s.threads t).stage ≡ Dying w → is_asleep s t ≡ false → P (walked s t (s.threads t).held w)
    on_a_walk w is awake =
        let there = walk_is s t w inv pos known is in
        let g : Stepping s t (walk_transition s t w.row) = walk_stepping s t w.row inv pos known there.0.going (knows_at s.layout t w there.0) there.2 in
        subst (λ (z : walks.Standing). P (walked s t (s.threads t).held z)) there.1
        (subst P (sym (walked-is s t w.row g.valid))
        (accesses (walk_transition s t w.row) (walk_note s t w.row) (is ∙ ap Dying (sym there.1)) awake g (Of_walk (death_then s t w.row) _ refl refl refl refl (walks_awake _ w.row _) (walk_no_move _ w.row))))

-- ---- a thread that is awake

-- where its step leads
pub record Goes (s : State) (t : ℕ) : Type 0 where
  pub v : Transition
  pub is : (s.threads t).stage ≡ v.from
  pub step : Stepping s t v
  pub to : (happens s (Step t)).state ≡ after s t v

pub awake_goes : (s : State) (t : ℕ) → Kept s → 1 ≤ t → t ≤ s.layout.threads → is_asleep s t ≡ false → IsWorking (s.threads t).stage → Goes s t
awake_goes s t inv pos known awake working =
    by_step s t inv pos known (λ (a : After). (happens s (Step t)).state ≡ a.state → Goes s t)
    (λ rests to. absurd (rests awake working))
    (λ v n is out step noted to. record { v = v; is = is; step = step; to = to })
    (ap (λ (b : Bool). (if b then stepped s t (s.threads t).held (s.threads t).stage else nothing s).state) (is_known s t pos known))

-- the step of a thread that is awake in a call
pub call_goes : (s : State) (t : ℕ) (o : Op) (p : Whole) → Kept s → 1 ≤ t → t ≤ s.layout.threads → (s.threads t).stage ≡ Calling o p → is_asleep s t ≡ false → happens s (Step t) ≡ record { state = after s t (call_step s t o p); note = call_note s t o p }
call_goes s t o p inv pos known is awake =
    ap (λ (b : Bool). if b then stepped s t (s.threads t).held (s.threads t).stage else nothing s) (is_known s t pos known)
    ∙ ap (stepped s t (s.threads t).held) is
    ∙ ap (λ (b : Bool). if b then nothing s else went s t (s.threads t).held (mutex_of s.layout o) (Mutex (mutex_of s.layout o)) (whole_access p) (led o p (whole_led p (answer_of s t (whole_access p))))) (sym (ap (sleeps s t) is) ∙ awake)
    ∙ went-is s t (mutex_of s.layout o) (Mutex (mutex_of s.layout o)) (Calling o p) (whole_access p) (λ a. led o p (whole_led p a)) (call_stepping s t o p (goes s t o p inv pos known is) (fits_in s t o p inv pos known is).0).valid

-- before the lock that ends a wait, and in a signal or broadcast
pub cond_goes : (s : State) (t : ℕ) (c : CondCall) (p : CondWhole) → Kept s → 1 ≤ t → t ≤ s.layout.threads → (s.threads t).stage ≡ AtCondition c p → happens s (Step t) ≡ record { state = after s t (cond_step s t c p); note = cond_note s t c p }
cond_goes s t c p inv pos known is =
    ap (λ (b : Bool). if b then stepped s t (s.threads t).held (s.threads t).stage else nothing s) (is_known s t pos known)
    ∙ ap (stepped s t (s.threads t).held) is
    ∙ went-is s t (mutex_of s.layout (OnCondition c)) (Condition (condition_of c)) (AtCondition c p) (cond_access p) (λ a. led_at c p (cond_led p a)) (cond_stepping s t c p inv pos known is).valid
