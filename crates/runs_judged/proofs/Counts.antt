-- How many lines a run has: each wake and each move is of a thread that fell asleep before.
use Rattle.std.proofs.Common.{◌≡◌, ◌≢◌, ◌⊎◌, inl, inr, ℕ, zero, suc, ◌+◌, ◌*◌, ◌<◌, ◌≤◌, ◌==◌, Bool, true, false, not, Option, Some, None, Ok, Err, List, [], ◌∷◌, ◌++◌, map, length, refl, sym, ap, ◌∙◌, subst, eqb-true, eq-eqb, arith}
use Rattle.std.specs.Prelude.{if◌then◌else◌}
use Rattle.std.proofs.lemmas.Bool.{eqb-false}
use Rattle.lockword.specs.declared.reply.Reply.{Reply}
use Rattle.lockword.specs.declared.reply.Reply.TheVariants.{XHELD}
use Rattle.posixmutex.specs.declared.point.Decision.{Decision}
use Rattle.memorymap.specs.Layouts.{Layout', IsLayout}
use Rattle.facts.specs.declared.fact.Queue.{Queue}
use Rattle.facts.specs.declared.fact.Queue.TheVariants.{Mutex, Condition}
use Rattle.facts.specs.declared.fact.Fact.{Fact}
use Rattle.facts.specs.declared.fact.Fact.TheVariants.{Begin, Point, Death, Sleep, Wake, Move, Return, Kill, Reap, Renew}
use Rattle.facts.specs.Facts.{thread_of, is_passive}
use Rattle.condvar.specs.declared.op.Op.{Op}
use Rattle.protocol.specs.declared.event.Event.{Event}
use Rattle.protocol.specs.declared.event.Event.TheVariants as event
use Rattle.protocol.specs.declared.note.Note.{Note}
use Rattle.protocol.specs.declared.note.Note.TheVariants.{Nothing, Began, Stepped, Killed, Left, Expired, Walked, Renewed, Reinited}
use Rattle.protocol.specs.Notes.{facts_of, point_facts, sleep_facts, moves_to, return_facts, death_facts, reap_facts}
use Rattle.protocol.specs.Machine.{State, start, stands_in, begun, happens, run, notes}
use Rattle.protocol.specs.Headline.{facts_among}
use Rattle.protocol.specs.Sleepers.{IsAmong}
use Rattle.protocol.specs.Ops.{queue_place}
use Rattle.protocol.specs.Wakings.{asleep_next, asleep_after, told_asleep, FallsAsleep, LeavesQueue, MayFollow, Alternates, TellsTurns, IsQueue}
use Rattle.protocol.proofs.Kept.{Kept}
use Rattle.protocol.proofs.Queues.{Once, moved_once}
use Rattle.protocol.proofs.Queued.{Queued}
use Rattle.protocol.proofs.Events.{begins_at, by_event}
use Rattle.protocol.proofs.Steps.{Transition, place_of, met, met_queue}
use Rattle.protocol.proofs.Working.{Noted, Of_call, Of_walk, by_step}
use Rattle.runs_judged.proofs.Turns.{sleep_other}
use Rattle.runs_judged.proofs.Moments.{Moment, moment}
use Rattle.runs_judged.proofs.Facts.{among_left, among_right, asleep_push, run_push, notes_push}
use Rattle.runs_judged.proofs.Inside.{EachOf}

-- ---- moves

-- how often a thread that sleeps there may still be moved or woken: off a condition variable, and then off its mutex
abbrev pub weight : Option Queue → ℕ
weight None = 0
weight (Some (Mutex m)) = 1
weight (Some (Condition k)) = 2

-- it is moved off a condition variable
abbrev MovesOff : ℕ → Option Queue → Fact → Type 0
MovesOff t w (Move u m) = u ≡ t → weight w ≡ 2
MovesOff t w f = Unit {0}

abbrev pub AreMoved : ℕ → Option Queue → List Fact → Type 0
AreMoved t w [] = Unit {0}
AreMoved t w (f ∷ fs) = MovesOff t w f × AreMoved t (asleep_next t w f) fs

moved_append : (t : ℕ) (w : Option Queue) (fs gs : List Fact) → AreMoved t w fs → AreMoved t (asleep_after t w fs) gs → AreMoved t w (fs ++ gs)
moved_append t w [] gs h k = k
moved_append t w (f ∷ fs) gs h k = (h.0, moved_append t (asleep_next t w f) fs gs h.1 k)

moved_points : (t : ℕ) (w : Option Queue) (p : Option Decision) → AreMoved t w (point_facts p)
moved_points t w None = tt
moved_points t w (Some d) = (tt, tt)

moved_sleep : (t u : ℕ) (w : Option Queue) (z : Option Queue) → AreMoved t w (sleep_facts u z)
moved_sleep t u w None = tt
moved_sleep t u w (Some q) = (tt, tt)

moved_wakes : (t : ℕ) (w : Option Queue) (us : List ℕ) → AreMoved t w (map Wake us)
moved_wakes t w [] = tt
moved_wakes t w (u ∷ us) = (tt, moved_wakes t (asleep_next t w (Wake u)) us)

moved_return : (t u : ℕ) (w : Option Queue) (y : Option Reply) → AreMoved t w (return_facts u y)
moved_return t u w None = tt
moved_return t u w (Some x) = (tt, tt)

moved_death : (t u : ℕ) (w : Option Queue) (d : Option ℕ) → AreMoved t w (death_facts u d)
moved_death t u w None = tt
moved_death t u w (Some m) = (tt, tt)

moved_reap : (t u : ℕ) (w : Option Queue) (b : Bool) → AreMoved t w (reap_facts u b)
moved_reap t u w true = (tt, tt)
moved_reap t u w false = tt

-- each thread once
moved_moves : (t m : ℕ) (w : Option Queue) (vs : List ℕ) → Once vs → (stands_in t vs ≡ true → weight w ≡ 2) → AreMoved t w (map (moves_to m) vs)
moved_moves t m w [] once h = tt
moved_moves t m w (v ∷ vs) once h = (here, go (v == t) refl (λ x. moved_moves t m x vs once.1))
  where
    here : v ≡ t → weight w ≡ 2
    here is = h (ap (λ (b : Bool). if b then true else stands_in t vs) (eq-eqb v t is))

    go : (b : Bool) → (v == t) ≡ b → ((x : Option Queue) → (stands_in t vs ≡ true → weight x ≡ 2) → AreMoved t x (map (moves_to m) vs)) → AreMoved t (if b then Some (Mutex m) else w) (map (moves_to m) vs)
    go true e rest = rest (Some (Mutex m)) (λ on. let gone = ap (λ (x : ℕ). stands_in x vs) (sym (eqb-true v t e)) ∙ once.0 in absurd (cc (on, gone)))
    go false e rest = rest w (λ on. h (ap (λ (b : Bool). if b then true else stands_in t vs) e ∙ on))

-- neither told to fall asleep nor woken, it sleeps as before
same_sleep : (t u : ℕ) (w : Option Queue) (z : Option Queue) → ((q : Queue) → IsAmong (Sleep t q) (sleep_facts u z) → ⊥) → asleep_after t w (sleep_facts u z) ≡ w
same_sleep t u w None none = refl
same_sleep t u w (Some q) none = go (u == t) refl
  where
    go : (b : Bool) → (u == t) ≡ b → (if b then Some q else w) ≡ w
    go true e = absurd (none q (inl (ap (λ (v : ℕ). Sleep v q) (eqb-true u t e))))
    go false e = refl

same_wakes : (t : ℕ) (w : Option Queue) (us : List ℕ) → (IsAmong (Wake t) (map Wake us) → ⊥) → asleep_after t w (map Wake us) ≡ w
same_wakes t w [] none = refl
same_wakes t w (u ∷ us) none = go (u == t) refl (same_wakes t w us (λ h. none (inr h)))
  where
    go : (b : Bool) → (u == t) ≡ b → asleep_after t w (map Wake us) ≡ w → asleep_after t (if b then None else w) (map Wake us) ≡ w
    go true e rest = absurd (none (inl (ap Wake (eqb-true u t e))))
    go false e rest = rest

same_points : (t : ℕ) (w : Option Queue) (p : Option Decision) → asleep_after t w (point_facts p) ≡ w
same_points t w None = refl
same_points t w (Some d) = refl

stands_among : (t m : ℕ) (vs : List ℕ) → stands_in t vs ≡ true → IsAmong (Move t m) (map (moves_to m) vs)
stands_among t m [] on = absurd cc
stands_among t m (v ∷ vs) on = go (v == t) refl on (stands_among t m vs)
  where
    go : (b : Bool) → (v == t) ≡ b → (if b then true else stands_in t vs) ≡ true → (stands_in t vs ≡ true → IsAmong (Move t m) (map (moves_to m) vs)) → IsAmong (Move t m) (Move v m ∷ map (moves_to m) vs)
    go true e h rest = inl (ap (λ (x : ℕ). Move x m) (eqb-true v t e))
    go false e h rest = inr (rest h)

-- of an event
abbrev OnceMoved : Note → Type 0
OnceMoved (Stepped u m p z us vs y) = Once vs
OnceMoved n = Unit {0}

-- whoever is moved slept on a condition variable, and is neither told to fall asleep nor woken by that event
record Moves (t : ℕ) (w : Option Queue) (fs : List Fact) : Type 0 where
  slept : (m : ℕ) → IsAmong (Move t m) fs → weight w ≡ 2
  awake : (m : ℕ) (q : Queue) → IsAmong (Move t m) fs → IsAmong (Sleep t q) fs → ⊥
  woken : (m : ℕ) → IsAmong (Move t m) fs → IsAmong (Wake t) fs → ⊥

step_moved : (t : ℕ) (w : Option Queue) (u m : ℕ) (p : Option Decision) (z : Option Queue) (us vs : List ℕ) (y : Option Reply) → Once vs → Moves t w (facts_of (Stepped u m p z us vs y)) → AreMoved t w (facts_of (Stepped u m p z us vs y))
step_moved t w u m p z us vs y once k =
    moved_append t w P (S ++ (W ++ (M ++ R))) (moved_points t w p)
    (moved_append t wp S (W ++ (M ++ R)) (moved_sleep t u wp z)
    (moved_append t ws W (M ++ R) (moved_wakes t ws us)
    (moved_append t ww M R (moved_moves t m ww vs once off) (moved_return t u _ y))))
  where
    P : List Fact
    P = point_facts p

    S : List Fact
    S = sleep_facts u z

    W : List Fact
    W = map Wake us

    M : List Fact
    M = map (moves_to m) vs

    R : List Fact
    R = return_facts u y

    wp : Option Queue
    wp = asleep_after t w P

    ws : Option Queue
    ws = asleep_after t wp S

    ww : Option Queue
    ww = asleep_after t ws W

    off : stands_in t vs ≡ true → weight ww ≡ 2
    off on = ap weight (same_wakes t ws us (λ h. k.woken m moves (in_wakes h)) ∙ same_sleep t u wp z (λ q h. k.awake m q moves (in_sleep q h)) ∙ same_points t w p) ∙ k.slept m moves
      where
        in_wakes : IsAmong (Wake t) W → IsAmong (Wake t) (P ++ (S ++ (W ++ (M ++ R))))
        in_wakes h = among_right (Wake t) P (S ++ (W ++ (M ++ R))) (among_right (Wake t) S (W ++ (M ++ R)) (among_left (Wake t) W (M ++ R) h))

        in_sleep : (q : Queue) → IsAmong (Sleep t q) S → IsAmong (Sleep t q) (P ++ (S ++ (W ++ (M ++ R))))
        in_sleep q h = among_right (Sleep t q) P (S ++ (W ++ (M ++ R))) (among_left (Sleep t q) S (W ++ (M ++ R)) h)

        moves : IsAmong (Move t m) (P ++ (S ++ (W ++ (M ++ R))))
        moves = among_right (Move t m) P (S ++ (W ++ (M ++ R))) (among_right (Move t m) S (W ++ (M ++ R)) (among_right (Move t m) W (M ++ R) (among_left (Move t m) M R (stands_among t m vs on))))

note_moved : (t : ℕ) (w : Option Queue) (n : Note) → OnceMoved n → Moves t w (facts_of n) → AreMoved t w (facts_of n)
note_moved t w Nothing once k = tt
note_moved t w (Began u c None) once k = (tt, tt)
note_moved t w (Began u c (Some x)) once k = (tt, (tt, (tt, tt)))
note_moved t w (Killed u) once k = (tt, tt)
note_moved t w (Left u) once k = (tt, tt)
note_moved t w (Expired u (Mutex m)) once k = (tt, (tt, tt))
note_moved t w (Expired u (Condition c)) once k = (tt, tt)
note_moved t w (Renewed u) once k = (tt, tt)
note_moved t w (Reinited u j) once k = (tt, (tt, (tt, tt)))
note_moved t w (Walked u d us b) once k = moved_append t w (death_facts u d) (map Wake us ++ reap_facts u b) (moved_death t u w d) (moved_append t _ (map Wake us) (reap_facts u b) (moved_wakes t _ us) (moved_reap t u _ b))
note_moved t w (Stepped u m p z us vs y) once k = step_moved t w u m p z us vs y once k

begun_once : (s : State) (u : ℕ) (o : Op) (b : Bool) → OnceMoved (begun s u o (if b then Err XHELD else Ok (begins_at s.layout u o))).note
begun_once s u o true = tt
begun_once s u o false = tt

noted_once : (s : State) (t : ℕ) (v : Transition) (n : Note) → Queued s → Noted s t v n → OnceMoved n
noted_once s t v n queued (Of_call k y is where_to) = subst OnceMoved (sym is) (moved_once v.access (met s t v) (met_queue s t v) (queued.once (place_of s t v)))
noted_once s t v n queued (Of_walk d y is m op point quiet stays) = subst OnceMoved (sym is) tt

event_once : (s : State) (e : Event) → Kept s → Queued s → OnceMoved (happens s e).note
event_once s e inv queued =
    by_event s (λ x a. OnceMoved a.note) (λ x. tt) (λ u o first most inside idle b full. begun_once s u o b)
    (λ u first most. by_step s u inv first most (λ a. OnceMoved a.note) (λ rests. tt) (λ v n is awake step noted. noted_once s u v n queued noted))
    (λ u first most alive. tt)
    (λ u first most asleep. tt)
    (λ u k p first most is asleep may. tt)
    (λ u k x p first most is there. tt)
    (λ u o p first most is awake trims. tt)
    (λ u first most gone. tt)
    (λ u j may. tt)
    (λ u m g sp. tt)
    e

-- ---- runs

-- a thread that stands in the queue of a condition variable is told to sleep there
on_condition : (l : Layout') (s : State) (ns : List Note) → Moment l s ns → (t k : ℕ) → k < length s.layout.conditions → stands_in t (s.queues (queue_place s.layout (Condition k))) ≡ true → weight (told_asleep t ns) ≡ 2
on_condition l s ns m t k below stands =
    let told = m.tells.stands t (queue_place s.layout (Condition k)) stands in
    ap weight told.1 ∙ there told.0 (m.tells.sleeps t told.0 told.1).0 (ap (λ (z : Layout'). queue_place z (Condition k)) (sym m.layout) ∙ told.2)
  where
    there : (q : Queue) → IsQueue l q → queue_place l (Condition k) ≡ queue_place l q → weight (Some q) ≡ 2
    there (Condition j) inside place = refl
    there (Mutex n) inside place = absurd (omega (arith, inside, place))

module _ (l : Layout') (counters : ℕ → ℕ) (is : IsLayout l) (t : ℕ) where
  event_moved : (es : List Event) (e : Event) → AreMoved t (told_asleep t (notes (start l counters) es)) (facts_of (happens (run (start l counters) es) e).note)
  event_moved es e = note_moved t (told_asleep t ns) (happens s e).note (event_once s e m.kept m.queued) record {
    slept = λ k h. let moved = ((turns.move k).0 h).0 in on_condition l s ns m t moved.0 moved.1 moved.3;
    awake = λ k q h sleeps. not_asleep k q h ((turns.sleep q).0 sleeps);
    woken = λ k h wakes. not_woken k h (turns.wake.0 wakes);
  }
    where
      s : State
      s = run (start l counters) es

      ns : List Note
      ns = notes (start l counters) es

      m : Moment l s ns
      m = moment l counters es is

      turns : TellsTurns s e t
      turns = m.tells.next e t

      not_asleep : (k : ℕ) (q : Queue) → IsAmong (Move t k) (facts_of (happens s e).note) → FallsAsleep s (happens s e).state t q → ⊥
      not_asleep k q h falls =
          let moved = ((turns.move k).0 h).0 in
          let out = falls.0 (queue_place s.layout (Condition moved.0)) in
          let stands = moved.3 in
          absurd (cc (out, stands))

      not_woken : (k : ℕ) → IsAmong (Move t k) (facts_of (happens s e).note) → LeavesQueue s (happens s e).state t × (e ≢ event.Kill t) → ⊥
      not_woken k h left =
          let stands = ((turns.move k).0 h).1 in
          let gone = left.0.1 (queue_place (happens s e).state.layout (Mutex k)) in
          absurd (cc (stands, gone))

  moved_from : (es later : List Event) → AreMoved t (told_asleep t (notes (start l counters) es)) (facts_among (notes (run (start l counters) es) later))
  moved_from es [] = tt
  moved_from es (e ∷ later) =
      let s = run (start l counters) es in
      let ns = notes (start l counters) es in
      let n = (happens s e).note in
      moved_append t (told_asleep t ns) (facts_of n) (facts_among (notes (happens s e).state later)) (event_moved es e)
      (subst (λ (z : State). AreMoved t (asleep_after t (told_asleep t ns) (facts_of n)) (facts_among (notes z later))) (run_push (start l counters) es e)
      (subst (λ (w : Option Queue). AreMoved t w (facts_among (notes (run (start l counters) (es ++ e ∷ [])) later))) (ap (told_asleep t) (notes_push (start l counters) es e) ∙ asleep_push t ns n)
      (moved_from (es ++ e ∷ []) later)))

-- ---- sums over the threads

-- of the first this many threads
abbrev pub sum_to : (ℕ → ℕ) → ℕ → ℕ
sum_to f zero = 0
sum_to f (suc n) = f (suc n) + sum_to f n

sum_same : (f g : ℕ → ℕ) (n : ℕ) → ((t : ℕ) → t ≤ n → g t ≡ f t) → sum_to g n ≡ sum_to f n
sum_same f g zero h = refl
sum_same f g (suc n) h = let here = h (suc n) (omega arith) in let rest = sum_same f g n (λ t most. h t (omega arith)) in omega (arith, here, rest)

sum_one : (f g : ℕ → ℕ) (n u : ℕ) → 1 ≤ u → u ≤ n → ((t : ℕ) → t ≢ u → g t ≡ f t) → sum_to g n + f u ≡ sum_to f n + g u
sum_one f g zero u first most h = absurd (omega arith)
sum_one f g (suc n) u first most h = go (suc n == u) refl (λ below. sum_one f g n u first below h)
  where
    go : (b : Bool) → (suc n == u) ≡ b → (u ≤ n → sum_to g n + f u ≡ sum_to f n + g u) → (g (suc n) + sum_to g n) + f u ≡ (f (suc n) + sum_to f n) + g u
    go true e rest =
        let is : suc n ≡ u = eqb-true (suc n) u e in
        let below = sum_same f g n (λ t low. h t (λ same. absurd (omega arith))) in
        let a = ap f is in
        let b = ap g is in
        omega (arith, below, a, b)
    go false e rest =
        let apart : suc n ≢ u = eqb-false (suc n) u e in
        let below = rest (omega arith) in
        let here = h (suc n) apart in
        omega (arith, below, here)

sum_none : (n : ℕ) → sum_to (λ t. 0) n ≡ 0
sum_none zero = refl
sum_none (suc n) = let rest = sum_none n in omega (arith, rest)

-- ---- counts

abbrev pub is_sleep : Fact → Bool
is_sleep (Sleep t q) = true
is_sleep f = false

abbrev pub one_if : Bool → ℕ
one_if b = if b then 1 else 0

abbrev pub passives : List Fact → ℕ
passives [] = 0
passives (f ∷ fs) = one_if (is_passive f) + passives fs

abbrev pub asleeps : List Fact → ℕ
asleeps [] = 0
asleeps (f ∷ fs) = one_if (is_sleep f) + asleeps fs

abbrev pub actives : List Fact → ℕ
actives [] = 0
actives (f ∷ fs) = one_if (not (is_passive f)) + actives fs

weighs : (w : Option Queue) → w ≢ None → 1 ≤ weight w
weighs None h = absurd (h refl)
weighs (Some (Mutex m)) h = omega arith
weighs (Some (Condition k)) h = omega arith

at_most_two : (q : Queue) → weight (Some q) ≤ 2
at_most_two (Mutex m) = omega arith
at_most_two (Condition k) = omega arith

-- one fact of its thread
one_fact : (w : Option Queue) (f : Fact) → MayFollow (thread_of f) w f → MovesOff (thread_of f) w f → weight (asleep_next (thread_of f) w f) + one_if (is_passive f) ≤ weight w + 2 * one_if (is_sleep f)
one_fact w (Sleep u q) follows moves = let now = ap (λ (b : Bool). weight (if b then Some q else w)) (eq-eqb u u refl) in let most = at_most_two q in omega (arith, now, most)
one_fact w (Wake u) follows moves = let now = ap (λ (b : Bool). weight (if b then None else w)) (eq-eqb u u refl) in let least = weighs w (follows refl) in omega (arith, now, least)
one_fact w (Move u m) follows moves = let now = ap (λ (b : Bool). weight (if b then Some (Mutex m) else w)) (eq-eqb u u refl) in let two = moves refl in omega (arith, now, two)
one_fact w (Kill u) follows moves = let now = ap (λ (b : Bool). weight (if b then None else w)) (eq-eqb u u refl) in omega (arith, now)
one_fact w (Begin u c) follows moves = omega arith
one_fact w (Point d) follows moves = omega arith
one_fact w (Death u m) follows moves = omega arith
one_fact w (Return u x) follows moves = omega arith
one_fact w (Reap u) follows moves = omega arith
one_fact w (Renew u) follows moves = omega arith

-- each wake and each move takes from what the sleeps gave
count_bound : (n : ℕ) (fs : List Fact) (w : ℕ → Option Queue) → EachOf (λ f. (1 ≤ thread_of f) × (thread_of f ≤ n)) fs → ((t : ℕ) → Alternates t (w t) fs) → ((t : ℕ) → AreMoved t (w t) fs) → passives fs ≤ sum_to (λ t. weight (w t)) n + 2 * asleeps fs
count_bound n [] w inside alternates moved = omega arith
count_bound n (f ∷ fs) w inside alternates moved =
    let rest = count_bound n fs (λ t. asleep_next t (w t) f) inside.1 (λ t. (alternates t).1) (λ t. (moved t).1) in
    let one = one_fact (w (thread_of f)) f (alternates (thread_of f)).0 (moved (thread_of f)).0 in
    let sum = sum_one (λ t. weight (w t)) (λ t. weight (asleep_next t (w t) f)) n (thread_of f) inside.0.0 inside.0.1 (λ t apart. ap weight (sleep_other t (w t) f (other (thread_of f) t apart))) in
    omega (arith, rest, one, sum)
  where
    other : (u t : ℕ) → t ≢ u → (u == t) ≡ false
    other u t apart = pick (u == t) refl
      where
        pick : (b : Bool) → (u == t) ≡ b → b ≡ false
        pick true e = absurd (apart (sym (eqb-true u t e)))
        pick false e = refl

-- ---- the lines of an event

length-parts : (fs : List Fact) → length fs ≡ actives fs + passives fs
length-parts [] = refl
length-parts (f ∷ fs) = let rest = length-parts fs in go (is_passive f) rest
  where
    go : (b : Bool) → length fs ≡ actives fs + passives fs → suc (length fs) ≡ (one_if (not b) + actives fs) + (one_if b + passives fs)
    go true rest = omega (arith, rest)
    go false rest = omega (arith, rest)

actives-append : (fs gs : List Fact) → actives (fs ++ gs) ≡ actives fs + actives gs
actives-append [] gs = omega arith
actives-append (f ∷ fs) gs = let rest = actives-append fs gs in omega (arith, rest)

passives-append : (fs gs : List Fact) → passives (fs ++ gs) ≡ passives fs + passives gs
passives-append [] gs = omega arith
passives-append (f ∷ fs) gs = let rest = passives-append fs gs in omega (arith, rest)

asleeps-append : (fs gs : List Fact) → asleeps (fs ++ gs) ≡ asleeps fs + asleeps gs
asleeps-append [] gs = omega arith
asleeps-append (f ∷ fs) gs = let rest = asleeps-append fs gs in omega (arith, rest)

-- at most this many lines of its own thread, and this many sleeps
record Few (fs : List Fact) (own : ℕ) (slept : ℕ) : Type 0 where
  own_few : actives fs ≤ own
  slept_few : asleeps fs ≤ slept

few_wakes : (us : List ℕ) → Few (map Wake us) 0 0
few_wakes [] = record { own_few = omega arith; slept_few = omega arith }
few_wakes (u ∷ us) = let rest = few_wakes us in record { own_few = omega (arith, rest.own_few); slept_few = omega (arith, rest.slept_few) }

few_moves : (m : ℕ) (us : List ℕ) → Few (map (moves_to m) us) 0 0
few_moves m [] = record { own_few = omega arith; slept_few = omega arith }
few_moves m (u ∷ us) = let rest = few_moves m us in record { own_few = omega (arith, rest.own_few); slept_few = omega (arith, rest.slept_few) }

few_points : (p : Option Decision) → Few (point_facts p) 1 0
few_points None = record { own_few = omega arith; slept_few = omega arith }
few_points (Some d) = record { own_few = omega arith; slept_few = omega arith }

few_sleeps : (t : ℕ) (z : Option Queue) → Few (sleep_facts t z) 1 1
few_sleeps t None = record { own_few = omega arith; slept_few = omega arith }
few_sleeps t (Some q) = record { own_few = omega arith; slept_few = omega arith }

few_returns : (t : ℕ) (y : Option Reply) → Few (return_facts t y) 1 0
few_returns t None = record { own_few = omega arith; slept_few = omega arith }
few_returns t (Some x) = record { own_few = omega arith; slept_few = omega arith }

few_deaths : (t : ℕ) (d : Option ℕ) → Few (death_facts t d) 1 0
few_deaths t None = record { own_few = omega arith; slept_few = omega arith }
few_deaths t (Some m) = record { own_few = omega arith; slept_few = omega arith }

few_reaps : (t : ℕ) (b : Bool) → Few (reap_facts t b) 1 0
few_reaps t true = record { own_few = omega arith; slept_few = omega arith }
few_reaps t false = record { own_few = omega arith; slept_few = omega arith }

few_both : (fs gs : List Fact) (a b c d : ℕ) → Few fs a b → Few gs c d → Few (fs ++ gs) (a + c) (b + d)
few_both fs gs a b c d h k = record { own_few = omega (arith, actives-append fs gs, h.own_few, k.own_few); slept_few = omega (arith, asleeps-append fs gs, h.slept_few, k.slept_few) }

few_more : (fs : List Fact) (a b c d : ℕ) → a ≤ c → b ≤ d → Few fs a b → Few fs c d
few_more fs a b c d less fewer h = record { own_few = omega (arith, h.own_few); slept_few = omega (arith, h.slept_few) }

note_few : (n : Note) → Few (facts_of n) 3 1
note_few Nothing = record { own_few = omega arith; slept_few = omega arith }
note_few (Began u c None) = record { own_few = omega arith; slept_few = omega arith }
note_few (Began u c (Some x)) = record { own_few = omega arith; slept_few = omega arith }
note_few (Killed u) = record { own_few = omega arith; slept_few = omega arith }
note_few (Left u) = record { own_few = omega arith; slept_few = omega arith }
note_few (Expired u (Mutex m)) = record { own_few = omega arith; slept_few = omega arith }
note_few (Expired u (Condition c)) = record { own_few = omega arith; slept_few = omega arith }
note_few (Renewed u) = record { own_few = omega arith; slept_few = omega arith }
note_few (Reinited u j) = record { own_few = omega arith; slept_few = omega arith }
note_few (Walked u d us b) =
    few_more (facts_of (Walked u d us b)) _ _ 3 1 (omega arith) (omega arith)
    (few_both (death_facts u d) (map Wake us ++ reap_facts u b) 1 0 (0 + 1) (0 + 0) (few_deaths u d) (few_both (map Wake us) (reap_facts u b) 0 0 1 0 (few_wakes us) (few_reaps u b)))
note_few (Stepped u m p z us vs y) =
    few_more (facts_of (Stepped u m p z us vs y)) _ _ 3 1 (omega arith) (omega arith)
    (few_both (point_facts p) (sleep_facts u z ++ (map Wake us ++ (map (moves_to m) vs ++ return_facts u y))) 1 0 (1 + (0 + (0 + 1))) (1 + (0 + (0 + 0))) (few_points p)
    (few_both (sleep_facts u z) (map Wake us ++ (map (moves_to m) vs ++ return_facts u y)) 1 1 (0 + (0 + 1)) (0 + (0 + 0)) (few_sleeps u z)
    (few_both (map Wake us) (map (moves_to m) vs ++ return_facts u y) 0 0 (0 + 1) (0 + 0) (few_wakes us) (few_both (map (moves_to m) vs) (return_facts u y) 0 0 1 0 (few_moves m vs) (few_returns u y)))))

notes_few : (ns : List Note) → Few (facts_among ns) (3 * length ns) (length ns)
notes_few [] = record { own_few = omega arith; slept_few = omega arith }
notes_few (n ∷ ns) =
    let rest = notes_few ns in
    let here = note_few n in
    record { own_few = omega (arith, actives-append (facts_of n) (facts_among ns), rest.own_few, here.own_few); slept_few = omega (arith, asleeps-append (facts_of n) (facts_among ns), rest.slept_few, here.slept_few) }

-- at most five lines an event
pub run_lines : (l : Layout') (counters : ℕ → ℕ) (events : List Event) → IsLayout l → EachOf (λ f. (1 ≤ thread_of f) × (thread_of f ≤ l.threads)) (facts_among (notes (start l counters) events)) → length (facts_among (notes (start l counters) events)) ≤ 5 * length (notes (start l counters) events)
run_lines l counters events is inside =
    let ns = notes (start l counters) events in
    let fs = facts_among ns in
    let few = notes_few ns in
    let bound = count_bound l.threads fs (λ t. None) inside (λ t. (moment l counters events is).tells.alternate t) (λ t. moved_from l counters is t [] events) in
    omega (arith, length-parts fs, few.own_few, few.slept_few, bound, sum_none l.threads)
