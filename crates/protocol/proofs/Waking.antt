-- Which threads fall asleep and which are woken, as the trace tells it.
use Rattle.std.proofs.Common.{◌≡◌, ◌≢◌, ◌⊎◌, ⊎_elim, inl, inr, ℕ, ◌<◌, ◌≤◌, length, ◌==◌, Bool, true, false, Option, Some, None, Ok, Err, List, [], ◌∷◌, ◌++◌, map, refl, sym, ap, ◌∙◌, subst, arith, eq-eqb, eqb-true, append-nil}
use Rattle.protocol.proofs.Vocabulary.{Queue, Mutex, Fact, Decision, Layout', cell_place, counter_place, sleeps_at, Reply, XHELD, OnCondition, Op, Event, Note, Stepped}
use Rattle.protocol.proofs.Vocabulary.{overslept, waits_on}
use Rattle.protocol.proofs.Vocabulary.{Walked, facts_of, sleep_facts, moves_to, return_facts, reap_facts, State, After, start, woken_by, moved_by, stands_in, is_asleep, begun}
use Rattle.protocol.proofs.Vocabulary.{nothing, decision, slept_in, killed, happens, run, notes, facts_among, if◌then◌else◌, slice_index, CondCall, queue_place}
use Rattle.protocol.proofs.Vocabulary.{place_in, place_met}
use Rattle.buckets.specs.Queues.{without}
use Rattle.facts.specs.declared.fact.Fact.TheVariants.{Sleep, Wake, Move, Kill}
use Rattle.protocol.specs.Sleepers.{StandsIn, IsAmong}
use Rattle.protocol.specs.Wakings.{asleep_next, asleep_after, told_asleep, Alternates, IsQueue, nobody, FallsAsleep, LeavesQueue, IsMoved, TellsTurns, TellsSleepers, SleepsAreTold, MaySleepIn}
use Rattle.protocol.specs.PassedBy.{call_told}
use Rattle.protocol.specs.Wakes.{left_by}
use Rattle.protocol.proofs.Learnt.{run_learnt}
use Rattle.protocol.proofs.Callers.{told_of_callers}
use Rattle.protocol.proofs.Kept.{Kept}
use Rattle.protocol.proofs.Places.{counter_is_no_cell}
use Rattle.protocol.proofs.Steps.{Transition, IsNoMove, after, place_of, met, met_queue}
use Rattle.protocol.proofs.Stepping.{Stepping, Moving, Moves_none, Moves_to}
use Rattle.protocol.proofs.Events.{names_mutex, begins_at, by_event}
use Rattle.protocol.proofs.Working.{Noted, Of_call, Of_walk, by_step}
use Rattle.protocol.proofs.Queues.{Once, IsOut, without_gone, stands_without, woken_once, moved_once, Turned, As_before, Falls, Woken, Moved}
use Rattle.protocol.proofs.Queued.{Queued, in_none}
use Rattle.protocol.proofs.Queued.{turn as turn_at}
use Rattle.protocol.proofs.QueueRuns.{queued_on, start_queued, run_queued}
use Rattle.protocol.proofs.Runs.{sound, start_kept, run_kept, run_layout}
use Rattle.protocol.proofs.InTurn.{same_queue, TellsAll, told_in_turn}
use Rattle.protocol.proofs.Departures.{asleep_where}
use Rattle.protocol.proofs.Vocabulary.{lapsed, Call, OnMutex, Whole}
use Rattle.protocol.proofs.Declines.{spared_is}
use Rattle.protocol.specs.Applies.{IsInAQueue}
use Rattle.protocol.proofs.Vocabulary.{departed}
use Rattle.protocol.proofs.Cases.{by_equal}
use Rattle.protocol.proofs.Seeing.{cell_again, counter_again, cell_in}
use Rattle.protocol.proofs.Sparing.{spare_is}

-- ---- the facts of one thread's sleep

abbrev about : ℕ → Fact → Bool
about t (Sleep u q) = u == t
about t (Move u m) = u == t
about t (Wake u) = u == t
about t (Kill u) = u == t
about t f = false

abbrev turns : ℕ → List Fact → List Fact
turns t [] = []
turns t (f ∷ fs) = if about t f then f ∷ turns t fs else turns t fs

this : (t : ℕ) → (t == t) ≡ true
this t = eq-eqb t t refl

turns-append : (t : ℕ) (fs gs : List Fact) → turns t (fs ++ gs) ≡ turns t fs ++ turns t gs
turns-append t [] gs = refl
turns-append t (f ∷ fs) gs = grind (arith, turns-append t fs gs)

after-turns : (t : ℕ) (w : Option Queue) (fs : List Fact) → asleep_after t w fs ≡ asleep_after t w (turns t fs)
after-turns t w [] = refl
after-turns t w (f ∷ fs) = grind (arith, after-turns t (asleep_next t w f) fs, after-turns t w fs)

after-append : (t : ℕ) (w : Option Queue) (fs gs : List Fact) → asleep_after t w (fs ++ gs) ≡ asleep_after t (asleep_after t w fs) gs
after-append t w [] gs = refl
after-append t w (f ∷ fs) gs = after-append t (asleep_next t w f) fs gs

alternates-turns : (t : ℕ) (w : Option Queue) (fs : List Fact) → Alternates t w (turns t fs) → Alternates t w fs
alternates-turns t w [] h = tt
alternates-turns t w (f ∷ fs) h = grind (arith, alternates-turns t (asleep_next t w f) fs, alternates-turns t w fs)

alternates-append : (t : ℕ) (w : Option Queue) (fs gs : List Fact) → Alternates t w fs → Alternates t (asleep_after t w fs) gs → Alternates t w (fs ++ gs)
alternates-append t w [] gs h k = k
alternates-append t w (f ∷ fs) gs h k = (h.0, alternates-append t (asleep_next t w f) fs gs h.1 k)

among-turns : (t : ℕ) (f : Fact) (fs : List Fact) → about t f ≡ true → IsAmong f fs → IsAmong f (turns t fs)
among-turns t f [] on h = h
among-turns t f (g ∷ gs) on h = grind (arith, among-turns t f gs on)

turns-among : (t : ℕ) (f : Fact) (fs : List Fact) → IsAmong f (turns t fs) → IsAmong f fs
turns-among t f [] h = h
turns-among t f (g ∷ gs) h = grind (arith, turns-among t f gs)

-- ---- the facts of a note

-- facts, one of each thread and about that thread alone
module _ (t : ℕ) (tells : ℕ → Fact) (of_it : (u : ℕ) → about t (tells u) ≡ (u == t)) where
  none_told : (us : List ℕ) → stands_in t us ≡ false → turns t (map tells us) ≡ []
  none_told [] out = refl
  none_told (u ∷ us) out = grind (arith, of_it u, none_told us)

  one_told : (us : List ℕ) → Once us → stands_in t us ≡ true → turns t (map tells us) ≡ tells t ∷ []
  one_told [] once stands = absurd cc
  one_told (u ∷ us) once stands = ap (λ (b : Bool). if b then tells u ∷ turns t (map tells us) else turns t (map tells us)) (of_it u) ∙ go (u == t) refl stands (one_told us once.1)
    where
      go : (b : Bool) → (u == t) ≡ b → (if b then true else stands_in t us) ≡ true → (stands_in t us ≡ true → turns t (map tells us) ≡ tells t ∷ []) → (if b then tells u ∷ turns t (map tells us) else turns t (map tells us)) ≡ tells t ∷ []
      go true e h later =
          let same : u ≡ t = eqb-true u t e in
          (λ i. tells (same i) ∷ none_told us (sym (ap (λ (v : ℕ). stands_in v us) same) ∙ once.0) i)
      go false e h later = later h

no_wakes : (t : ℕ) (us : List ℕ) → stands_in t us ≡ false → turns t (map Wake us) ≡ []
no_wakes t = none_told t Wake (λ u. refl)

no_moves : (t m : ℕ) (us : List ℕ) → stands_in t us ≡ false → turns t (map (moves_to m) us) ≡ []
no_moves t m = none_told t (moves_to m) (λ u. refl)

one_move : (t m : ℕ) (us : List ℕ) → Once us → stands_in t us ≡ true → turns t (map (moves_to m) us) ≡ Move t m ∷ []
one_move t m = one_told t (moves_to m) (λ u. refl)

one_wake : (t : ℕ) (us : List ℕ) → Once us → stands_in t us ≡ true → turns t (map Wake us) ≡ Wake t ∷ []
one_wake t = one_told t Wake (λ u. refl)

nothing_behind : (t : ℕ) (fs gs : List Fact) → turns t gs ≡ [] → turns t (fs ++ gs) ≡ turns t fs
nothing_behind t fs gs e = turns-append t fs gs ∙ ap (λ (zs : List Fact). turns t fs ++ zs) e ∙ append-nil (turns t fs)

return_turns : (t u : ℕ) (x : Option Reply) → turns t (return_facts u x) ≡ []
return_turns t u None = refl
return_turns t u (Some x) = refl

reap_turns : (t u : ℕ) (b : Bool) → turns t (reap_facts u b) ≡ []
reap_turns t u true = refl
reap_turns t u false = refl

step_turns : (t u m : ℕ) (d : Option Decision) (k : Option Queue) (us vs : List ℕ) (x : Option Reply) → turns t (facts_of (Stepped u m d k us vs x)) ≡ turns t (sleep_facts u k) ++ (turns t (map Wake us) ++ turns t (map (moves_to m) vs))
step_turns t u m d k us vs x =
    point d ∙ turns-append t (sleep_facts u k) (map Wake us ++ (map (moves_to m) vs ++ return_facts u x))
    ∙ ap (λ (zs : List Fact). turns t (sleep_facts u k) ++ zs)
    (turns-append t (map Wake us) (map (moves_to m) vs ++ return_facts u x) ∙ ap (λ (zs : List Fact). turns t (map Wake us) ++ zs) (nothing_behind t (map (moves_to m) vs) (return_facts u x) (return_turns t u x)))
  where
    point : (z : Option Decision) → turns t (facts_of (Stepped u m z k us vs x)) ≡ turns t (sleep_facts u k ++ (map Wake us ++ (map (moves_to m) vs ++ return_facts u x)))
    point None = refl
    point (Some z) = refl

walk_turns : (t u : ℕ) (death : Option ℕ) (us : List ℕ) (ended : Bool) → turns t (facts_of (Walked u death us ended)) ≡ turns t (map Wake us)
walk_turns t u death us ended = told death ∙ nothing_behind t (map Wake us) (reap_facts u ended) (reap_turns t u ended)
  where
    told : (z : Option ℕ) → turns t (facts_of (Walked u z us ended)) ≡ turns t (map Wake us ++ reap_facts u ended)
    told None = refl
    told (Some m) = refl

-- ---- one event

-- what event e, which leaves these queues, is to thread t, and which of these facts it tells of it
data Turn (s : State) (qs : ℕ → List ℕ) (t : ℕ) (e : Event) (told : List Fact) : Type 0 where
  Stays : told ≡ [] → ((key : ℕ) → stands_in t (qs key) ≡ stands_in t (s.queues key)) → Turn s qs t e told
  Falls_asleep : (q : Queue) → told ≡ Sleep t q ∷ [] → IsQueue s.layout q → IsOut s.queues t → stands_in t (qs (queue_place s.layout q)) ≡ true → Turn s qs t e told
  Is_woken : (key : ℕ) → told ≡ Wake t ∷ [] → stands_in t (s.queues key) ≡ true → IsOut qs t → e ≢ Event.Kill t → Turn s qs t e told
  Is_moved : (k m : ℕ) → told ≡ Move t m ∷ [] → k < length s.layout.conditions → slice_index s.layout.conditions k ≡ m → m < s.layout.mutexes → stands_in t (s.queues (counter_place s.layout k)) ≡ true → stands_in t (qs (cell_place s.layout m)) ≡ true → Turn s qs t e told
  Dies : told ≡ Kill t ∷ [] → e ≡ Event.Kill t → IsOut qs t → Turn s qs t e told

abbrev TurnOf : State → ℕ → Event → After → Type 0
TurnOf s t e z = Turn s z.state.queues t e (turns t (facts_of z.note))

idle_turn : (s : State) (t : ℕ) (e : Event) → TurnOf s t e (nothing s)
idle_turn s t e = Stays refl (λ key. refl)

-- an access of thread u, which is awake
module _ (s : State) (u t : ℕ) (v : Transition) (g : Stepping s u v) (pos : 1 ≤ u) (known : u ≤ s.layout.threads) (is : (s.threads u).stage ≡ v.from) (queued : Queued s) (awake : is_asleep s u ≡ false) (ev : Event) (kills : ev ≢ Event.Kill t) where
  abbrev at : ℕ
  at = place_of s u v

  abbrev w : ℕ
  w = met s u v

  abbrev q : List ℕ
  q = met_queue s u v

  abbrev queues' : ℕ → List ℕ
  queues' = (after s u v).queues

  turned_to : Turned s.layout t u v.access at w s.queues queues'
  turned_to = turn_at s u v g pos known is queued awake t

  -- of a call, which would fall asleep in queue k
  module _ (k : Queue) (there : sleeps_at v.access w ≡ true → (at ≡ queue_place s.layout k) × IsQueue s.layout k) where
    abbrev tells : List Fact
    tells = turns t (sleep_facts u (slept_in k (sleeps_at v.access w))) ++ (turns t (map Wake (woken_by v.access w q)) ++ turns t (map (moves_to v.mutex) (moved_by v.access w q)))

    no_sleep : (t ≡ u → sleeps_at v.access w ≡ false) → turns t (sleep_facts u (slept_in k (sleeps_at v.access w))) ≡ []
    no_sleep quiet = grind (arith)

    call_turn : Turn s queues' t ev tells
    call_turn = go turned_to
      where
        go : Turned s.layout t u v.access at w s.queues queues' → Turn s queues' t ev tells
        go (As_before quiet unwoken unmoved same) = Stays (λ i. no_sleep quiet i ++ (no_wakes t (woken_by v.access w q) unwoken i ++ no_moves t v.mutex (moved_by v.access w q) unmoved i)) same
        go (Falls me on nobody none stands elsewhere) =
            let where_to = there on in
            Falls_asleep k
            (ap (λ (b : Bool). turns t (sleep_facts u (slept_in k b)) ++ (turns t (map Wake (woken_by v.access w q)) ++ turns t (map (moves_to v.mutex) (moved_by v.access w q)))) on
            ∙ ap (λ (us : List ℕ). turns t (Sleep u k ∷ []) ++ (turns t (map Wake us) ++ turns t (map (moves_to v.mutex) (moved_by v.access w q)))) nobody
            ∙ ap (λ (us : List ℕ). turns t (Sleep u k ∷ []) ++ turns t (map (moves_to v.mutex) us)) none
            ∙ ap (λ (x : ℕ). turns t (Sleep x k ∷ []) ++ []) (sym me)
            ∙ ap (λ (b : Bool). (if b then Sleep t k ∷ [] else []) ++ []) (this t))
            where_to.1 (subst (IsOut s.queues) (sym me) (in_none s u queued awake)) (sym (ap (λ (x : ℕ). stands_in t (queues' x)) where_to.0) ∙ stands)
        go (Woken quiet woken unmoved stood gone) =
            Is_woken at (λ i. no_sleep (λ me. quiet) i ++ (one_wake t (woken_by v.access w q) (woken_once v.access w q (queued.once at)) woken i ++ no_moves t v.mutex (moved_by v.access w q) unmoved i)) stood gone kills
        go (Moved from e n to j form quiet unwoken moved stood stands elsewhere) = carried g.moving
          where
            told : tells ≡ Move t v.mutex ∷ []
            told = λ i. no_sleep (λ me. quiet) i ++ (no_wakes t (woken_by v.access w q) unwoken i ++ one_move t v.mutex (moved_by v.access w q) (moved_once v.access w q (queued.once at)) moved i)

            carried : Moving s u v → Turn s queues' t ev tells
            carried (Moves_none none) = absurd (subst IsNoMove form none)
            carried (Moves_to c x y below of shape waits owned) =
                let target : to ≡ cell_in s.layout u v.mutex = cc (sym form ∙ shape) in
                let to_is : place_in s.layout u to ≡ cell_place s.layout v.mutex = ap (place_in s.layout u) target ∙ cell_again s.layout u g.kept.layout pos known v.mutex g.inside in
                let at_is : at ≡ counter_place s.layout c = ap (place_met s.layout u) shape ∙ counter_again s.layout u g.kept.layout pos known c below in
                Is_moved c v.mutex told below of g.inside (sym (ap (λ (x : ℕ). stands_in t (s.queues x)) at_is) ∙ stood) (sym (ap (λ (x : ℕ). stands_in t (queues' x)) to_is) ∙ stands)

  -- of a walk, which never sleeps and moves nobody
  walk_turn : sleeps_at v.access w ≡ false → IsNoMove v.access → Turn s queues' t ev (turns t (map Wake (woken_by v.access w q)))
  walk_turn quiet still = go turned_to
    where
      go : Turned s.layout t u v.access at w s.queues queues' → Turn s queues' t ev (turns t (map Wake (woken_by v.access w q)))
      go (As_before none unwoken unmoved same) = Stays (no_wakes t (woken_by v.access w q) unwoken) same
      go (Falls me on nobody none stands elsewhere) = absurd (cc (on, quiet))
      go (Woken none woken unmoved stood gone) = Is_woken at (one_wake t (woken_by v.access w q) (woken_once v.access w q (queued.once at)) woken) stood gone kills
      go (Moved from e n to j form none unwoken moved stood stands elsewhere) = absurd (subst IsNoMove form still)

  step_turn : (n : Note) → Noted s u v n → TurnOf s t ev (record { state = after s u v; note = n })
  step_turn n (Of_call k y noted there) =
      subst (Turn s queues' t ev)
      (sym (ap (λ (z : Note). turns t (facts_of z)) noted ∙ step_turns t u v.mutex (decision u v.mutex v.operation v.point) (slept_in k (sleeps_at v.access w)) (woken_by v.access w q) (moved_by v.access w q) y))
      (call_turn k there)
  step_turn n (Of_walk d y noted m op point quiet still) =
      subst (Turn s queues' t ev) (sym (ap (λ (z : Note). turns t (facts_of z)) noted ∙ walk_turns t u d (woken_by v.access w q) y)) (walk_turn quiet still)

kill_turn : (s : State) (u t : ℕ) → TurnOf s t (Event.Kill u) (killed s u)
kill_turn s u t =
    by_equal (Turn s (λ key. without u (s.queues key)) t (Event.Kill u)) u t (Kill u ∷ []) []
    (λ same. Dies (ap (λ (v : ℕ). Kill v ∷ []) same) (ap Event.Kill same) (λ key. ap (λ (v : ℕ). stands_in v (without u (s.queues key))) (sym same) ∙ without_gone u (s.queues key)))
    (λ apart. Stays refl (λ key. stands_without t u (s.queues key) (grind (arith))))

leave_turn : (s : State) (u t : ℕ) → is_asleep s u ≡ true → TurnOf s t (Event.Leave u) (departed s u)
leave_turn s u t asleep =
    by_equal (Turn s (λ key. without u (s.queues key)) t (Event.Leave u)) u t (Wake u ∷ []) []
    (λ same.
    let stood = subst (λ (v : ℕ). IsInAQueue s v) same (asleep_where s u asleep) in
    Is_woken stood.0 (ap (λ (v : ℕ). Wake v ∷ []) same) stood.1 (λ key. ap (λ (v : ℕ). stands_in v (without u (s.queues key))) (sym same) ∙ without_gone u (s.queues key)) (λ e. cc))
    (λ apart. Stays refl (λ key. stands_without t u (s.queues key) (grind (arith))))

expire_turn : (s : State) (u t m : ℕ) (p : Whole) → is_asleep s u ≡ true → TurnOf s t (Event.Expire u) (lapsed s u (s.threads u).held (OnMutex (Call.TimedLock m)) p)
expire_turn s u t m p asleep =
    by_equal (Turn s (λ key. without u (s.queues key)) t (Event.Expire u)) u t (Wake u ∷ []) []
    (λ same.
    let stood = subst (λ (v : ℕ). IsInAQueue s v) same (asleep_where s u asleep) in
    Is_woken stood.0 (ap (λ (v : ℕ). Wake v ∷ []) same) stood.1 (λ key. ap (λ (v : ℕ). stands_in v (without u (s.queues key))) (sym same) ∙ without_gone u (s.queues key)) (λ e. cc))
    (λ apart. Stays refl (λ key. stands_without t u (s.queues key) (grind (arith))))

oversleep_turn : (s : State) (u t k : ℕ) (p : Whole) → waits_on s u k ≡ true → TurnOf s t (Event.Expire u) (overslept s u (s.threads u).held k p)
oversleep_turn s u t k p there =
    by_equal (Turn s (λ key. without u (s.queues key)) t (Event.Expire u)) u t (Wake u ∷ []) []
    (λ same.
    let stood : IsInAQueue s t = subst (λ (v : ℕ). IsInAQueue s v) same (counter_place s.layout k, there) in
    Is_woken stood.0 (ap (λ (v : ℕ). Wake v ∷ []) same) stood.1 (λ key. ap (λ (v : ℕ). stands_in v (without u (s.queues key))) (sym same) ∙ without_gone u (s.queues key)) (λ e. cc))
    (λ apart. Stays refl (λ key. stands_without t u (s.queues key) (grind (arith))))

turn : (s : State) (e : Event) → Kept s → Queued s → (t : ℕ) → TurnOf s t e (happens s e)
turn s e inv queued t =
    by_event s (λ (x : Event) (z : After). TurnOf s t x z)
    (λ x. idle_turn s t x)
    (λ u o pos known inside idle b full. begins_so u o b)
    (λ u pos known. by_step s u inv pos known (TurnOf s t (Event.Step u)) (λ rests. idle_turn s t (Event.Step u)) (λ v n is awake g noted. step_turn s u t v g pos known is queued awake (Event.Step u) (λ same. cc same) n noted))
    (λ u pos known alive. kill_turn s u t)
    (λ u pos known asleep. leave_turn s u t asleep)
    (λ u m p pos known is asleep may. expire_turn s u t m p asleep)
    (λ u k x p pos known is there. oversleep_turn s u t k p there)
    (λ u o p pos known is awake trims. subst (TurnOf s t (Event.Decline u)) (sym (spared_is s u o p is trims inv pos known)) (Stays refl (λ key. refl)))
    (λ u pos known gone. Stays refl (λ key. refl))
    (λ u m may. Stays refl (λ key. refl))
    (λ u m g sp. subst (TurnOf s t (Event.Spare u sp.by)) (sym (spare_is s u m g sp inv)) (Stays refl (λ key. refl)))
    e
  where
    begins_so : (u : ℕ) (o : Op) (b : Bool) → TurnOf s t (Event.Begin u o) (begun s u o (if b then Err XHELD else Ok (begins_at s.layout u o)))
    begins_so u o true = Stays refl (λ key. refl)
    begins_so u o false = Stays refl (λ key. refl)

-- ---- what was recorded of a thread is where it stands

abbrev Stood : Layout' → (ℕ → List ℕ) → ℕ → Option Queue → Type 0
Stood l qs t None = IsOut qs t
Stood l qs t (Some q) = IsQueue l q × (stands_in t (qs (queue_place l q)) ≡ true)

after_turn : (s : State) (qs : ℕ → List ℕ) (t : ℕ) (e : Event) (told : List Fact) (w : Option Queue) → Turn s qs t e told → Stood s.layout s.queues t w → Stood s.layout qs t (asleep_after t w told)
after_turn s qs t e told w is stood = grind (arith)

may_turn : (s : State) (qs : ℕ → List ℕ) (t : ℕ) (e : Event) (told : List Fact) (w : Option Queue) → Turn s qs t e told → Stood s.layout s.queues t w → Alternates t w told
may_turn s qs t e told w is stood = grind (arith)

-- ---- what the next event tells

only : (f g : Fact) → IsAmong f (g ∷ []) → g ≡ f
only f g (inl e) = e
only f g (inr h) = absurd h

module _ (s : State) (e : Event) (inv : Kept s) (queued : Queued s) (t : ℕ) where
  abbrev s' : State
  s' = (happens s e).state

  abbrev facts : List Fact
  facts = facts_of (happens s e).note

  same_layout : s'.layout ≡ s.layout
  same_layout = (sound s e inv).same

  -- where it stands, in the layout as it was
  stands_then : (q : Queue) → stands_in t (s'.queues (queue_place s.layout q)) ≡ true → StandsIn s' t q
  stands_then q stands = subst (λ (l : Layout'). stands_in t (s'.queues (queue_place l q)) ≡ true) (sym same_layout) stands

  stands_there : (q : Queue) → StandsIn s' t q → stands_in t (s'.queues (queue_place s.layout q)) ≡ true
  stands_there q stands = subst (λ (l : Layout'). stands_in t (s'.queues (queue_place l q)) ≡ true) same_layout stands

  -- it stands in one queue
  one_then : (q r : Queue) → IsQueue s.layout q → IsQueue s.layout r → stands_in t (s'.queues (queue_place s.layout q)) ≡ true → stands_in t (s'.queues (queue_place s.layout r)) ≡ true → q ≡ r
  one_then q r inside below here there = same_queue s.layout q r inside below ((queued_on s e inv queued).one t (queue_place s.layout q) (queue_place s.layout r) here there)

  -- what a fact of its sleep tells
  abbrev Says : Fact → Type 0
  Says (Sleep u q) = FallsAsleep s s' t q
  Says (Wake u) = LeavesQueue s s' t × (e ≢ Event.Kill t)
  Says (Move u m) = IsMoved s s' t m
  Says f = Unit {0}

  says : (f : Fact) → IsAmong f (turns t facts) → Turn s s'.queues t e (turns t facts) → Says f
  says f h (Stays none same) = absurd (subst (IsAmong f) none h)
  says f h (Falls_asleep q is inside out stands) = subst Says (only f (Sleep t q) (subst (IsAmong f) is h)) (out, inside, stands_then q stands)
  says f h (Is_woken key is stands out kills) = subst Says (only f (Wake t) (subst (IsAmong f) is h)) (((key, stands), out), kills)
  says f h (Is_moved k m is below of inside before stands) = subst Says (only f (Move t m) (subst (IsAmong f) is h)) ((k, below, of, before), stands_then (Mutex m) stands)
  says f h (Dies is kill out) = subst Says (only f (Kill t) (subst (IsAmong f) is h)) tt

  fell : (q : Queue) → FallsAsleep s s' t q → Turn s s'.queues t e (turns t facts) → IsAmong (Sleep t q) facts
  fell q (was, inside, now) (Stays none same) = absurd (cc (now, same (queue_place s'.layout q) ∙ was (queue_place s'.layout q)))
  fell q (was, inside, now) (Falls_asleep k is there out stands) =
      let same : k ≡ q = one_then k q there inside stands (stands_there q now) in
      turns-among t (Sleep t q) facts (subst (IsAmong (Sleep t q)) (sym is) (inl (ap (Sleep t) same)))
  fell q (was, inside, now) (Is_woken key is stands out kills) = absurd (cc (now, out (queue_place s'.layout q)))
  fell q (was, inside, now) (Is_moved k m is below of there before stands) = absurd (cc (before, was (counter_place s.layout k)))
  fell q (was, inside, now) (Dies is kill out) = absurd (cc (now, out (queue_place s'.layout q)))

  was_moved : (m : ℕ) → IsMoved s s' t m → Turn s s'.queues t e (turns t facts) → IsAmong (Move t m) facts
  was_moved m ((k, below, of, before), now) (Stays none same) =
      let inside : m < s.layout.mutexes = subst (λ (x : ℕ). x < s.layout.mutexes) of (names_mutex s.layout (OnCondition (CondCall.Signal k)) inv.layout below) in
      absurd (counter_is_no_cell s.layout m k inside (queued.one t (counter_place s.layout k) (cell_place s.layout m) before (sym (same (cell_place s.layout m)) ∙ stands_there (Mutex m) now)))
  was_moved m ((k, below, of, before), now) (Falls_asleep q is inside out stands) = absurd (cc (before, out (counter_place s.layout k)))
  was_moved m ((k, below, of, before), now) (Is_woken key is stands out kills) = absurd (cc (now, out (queue_place s'.layout (Mutex m))))
  was_moved m ((k, below, of, before), now) (Is_moved j n is there its inside stood stands) =
      let here : m < s.layout.mutexes = subst (λ (x : ℕ). x < s.layout.mutexes) of (names_mutex s.layout (OnCondition (CondCall.Signal k)) inv.layout below) in
      let place = (queued_on s e inv queued).one t (cell_place s.layout n) (cell_place s.layout m) stands (stands_there (Mutex m) now) in
      let same : n ≡ m = omega (arith, place) in
      turns-among t (Move t m) facts (subst (IsAmong (Move t m)) (sym is) (inl (ap (Move t) same)))
  was_moved m ((k, below, of, before), now) (Dies is kill out) = absurd (cc (now, out (queue_place s'.layout (Mutex m))))

  woke : LeavesQueue s s' t → e ≢ Event.Kill t → Turn s s'.queues t e (turns t facts) → IsAmong (Wake t) facts
  woke (stood, gone) lives (Stays none same) = absurd (cc (sym (gone stood.0) ∙ (same stood.0 ∙ stood.1)))
  woke (stood, gone) lives (Falls_asleep q is inside out stands) = absurd (cc (stood.1, out stood.0))
  woke (stood, gone) lives (Is_woken key is stands out kills) = turns-among t (Wake t) facts (subst (IsAmong (Wake t)) (sym is) (inl refl))
  woke (stood, gone) lives (Is_moved k m is below of inside before stands) = absurd (cc (stands, gone (cell_place s.layout m)))
  woke (stood, gone) lives (Dies is kill out) = absurd (lives kill)

  tells_turns : TellsTurns s e t
  tells_turns = record {
    sleep = λ q. ((λ among. says (Sleep t q) (among-turns t (Sleep t q) facts (this t) among) (turn s e inv queued t)), (λ fallen. fell q fallen (turn s e inv queued t)));
    wake = ((λ among. says (Wake t) (among-turns t (Wake t) facts (this t) among) (turn s e inv queued t)), (λ gone. woke gone.0 gone.1 (turn s e inv queued t)));
    move = λ m. ((λ among. says (Move t m) (among-turns t (Move t m) facts (this t) among) (turn s e inv queued t)), (λ is. was_moved m is (turn s e inv queued t)));
  }

  stood_on : (w : Option Queue) → Stood s.layout s.queues t w → Stood s'.layout s'.queues t (asleep_after t w facts)
  stood_on w stood =
      subst (λ (l : Layout'). Stood l s'.queues t (asleep_after t w facts)) (sym same_layout)
      (subst (Stood s.layout s'.queues t) (sym (after-turns t w facts)) (after_turn s s'.queues t e (turns t facts) w (turn s e inv queued t) stood))

  alternates_on : (w : Option Queue) → Stood s.layout s.queues t w → Alternates t w facts
  alternates_on w stood = alternates-turns t w facts (may_turn s s'.queues t e (turns t facts) w (turn s e inv queued t) stood)

-- ---- runs

run_stood : (s : State) (es : List Event) → Kept s → Queued s → (t : ℕ) (w : Option Queue) → Stood s.layout s.queues t w → Stood (run s es).layout (run s es).queues t (asleep_after t w (facts_among (notes s es)))
run_stood s [] inv queued t w stood = stood
run_stood s (e ∷ es) inv queued t w stood =
    subst (Stood (run (happens s e).state es).layout (run (happens s e).state es).queues t) (sym (after-append t w (facts_of (happens s e).note) (facts_among (notes (happens s e).state es))))
    (run_stood (happens s e).state es (sound s e inv).kept (queued_on s e inv queued) t (asleep_after t w (facts_of (happens s e).note)) (stood_on s e inv queued t w stood))

run_alternates : (s : State) (es : List Event) → Kept s → Queued s → (t : ℕ) (w : Option Queue) → Stood s.layout s.queues t w → Alternates t w (facts_among (notes s es))
run_alternates s [] inv queued t w stood = tt
run_alternates s (e ∷ es) inv queued t w stood =
    alternates-append t w (facts_of (happens s e).note) (facts_among (notes (happens s e).state es)) (alternates_on s e inv queued t w stood)
    (run_alternates (happens s e).state es (sound s e inv).kept (queued_on s e inv queued) t (asleep_after t w (facts_of (happens s e).note)) (stood_on s e inv queued t w stood))

tells_sleepers : (s : State) (ns : List Note) → Kept s → Queued s → ((t : ℕ) → Stood s.layout s.queues t (told_asleep t ns)) → ((t : ℕ) → Alternates t None (facts_among ns)) → TellsAll s.layout s.queues nobody ns
    → ((e : Event) (t : ℕ) (q : Queue) → IsAmong (Sleep t q) (facts_of (happens s e).note) → MaySleepIn q (call_told t ns))
    → TellsSleepers s.layout s ns
tells_sleepers s ns inv queued stood alternate turns callers = record {
  stands = λ t key on. found t key on (told_asleep t ns) refl (stood t);
  sleeps = λ t q e. subst (Stood s.layout s.queues t) e (stood t);
  alternate = alternate;
  queues = turns.0;
  fronts = turns.1;
  next = λ e t. tells_turns s e inv queued t;
  callers = callers;
}
  where
    found : (t key : ℕ) → stands_in t (s.queues key) ≡ true → (w : Option Queue) → told_asleep t ns ≡ w → Stood s.layout s.queues t w → (q : Queue) × (told_asleep t ns ≡ Some q) × (key ≡ queue_place s.layout q)
    found t key on None e out = absurd (cc (on, out key))
    found t key on (Some q) e there = (q, e, queued.one t key (queue_place s.layout q) on there.1)

pub told_sleeps : SleepsAreTold
told_sleeps l counters events is =
    let inv = start_kept l counters is in
    let queued = start_queued l counters in
    subst (λ (k : Layout'). TellsSleepers k (run (start l counters) events) (notes (start l counters) events)) (run_layout (start l counters) events inv)
    (tells_sleepers (run (start l counters) events) (notes (start l counters) events) (run_kept (start l counters) events inv) (run_queued l counters events is)
    (λ t. run_stood (start l counters) events inv queued t None (λ key. refl))
    (λ t. run_alternates (start l counters) events inv queued t None (λ key. refl))
    (subst (λ (k : Layout'). TellsAll k (run (start l counters) events).queues nobody (notes (start l counters) events)) (sym (run_layout (start l counters) events inv)) (told_in_turn l counters events inv))
    (told_of_callers (run (start l counters) events) (run_kept (start l counters) events inv) (λ t. call_told t (notes (start l counters) events)) (λ t. left_by t (start l counters) None events) (λ t. run_learnt (start l counters) events inv t None None tt)))
