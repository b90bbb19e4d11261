-- Which threads sleep where, and which answer for a mutex that nobody owns.
use Rattle.std.proofs.Common.{◌≡◌, ◌≢◌, ◌⊎◌, ⊎_elim, inl, inr, ℕ, ◌<◌, ◌≤◌, ◌==◌, Bool, true, false, List, [], ◌∷◌, drop, length, refl, sym, ap, ◌∙◌, subst, arith, eqb-true}
use Rattle.protocol.proofs.Vocabulary.{Access, Layout', cell_place, counter_place, sleeps_at, Whole, Op, mutex_of, Thread, Stage, Idle, Calling, AtCondition, Dying}
use Rattle.protocol.proofs.Vocabulary.{Reaped, State, stands_in, sleepers, sleeps, is_asleep, IsUnowned, slice_index, eqb-false, Sleeps, IsInNoQueue, place_in, place_met, put}
use Rattle.memorymap.specs.Chains.{IsAmong}
use Rattle.protocol.specs.Machine.{places_of}
use Rattle.protocol.proofs.Puts.{put-same, put-other}
use Rattle.protocol.proofs.Kept.{Kept}
use Rattle.protocol.proofs.Places.{counter_is_no_cell}
use Rattle.protocol.proofs.Accesses.{fits_in}
use Rattle.protocol.proofs.Steps.{Transition, IsNoMove, done, after, place_of, met, thread_after}
use Rattle.protocol.proofs.Stepping.{SleepsAs, AnswersAs, HasWaiters, Moving, Moves_none, Moves_to, Continues, Settles, Wakes_there, Answers_now, Found_free, Stepping}
use Rattle.protocol.proofs.Queues.{Once, stands_none, not_true, first_gone, first_stands, InOne, Turned, As_before, Falls, Woken, Moved, Route, Nowhere, Somewhere, turned, once_then, one_then}
use Rattle.protocol.proofs.WalkStepping.{same_answers}
use Rattle.protocol.proofs.Cases.{by_same}
use Rattle.protocol.proofs.Seeing.{cell_in, counter_in, cell_again, counter_again}

-- thread t stands in the queue of this key as its stage says
abbrev pub Slept : State → ℕ → ℕ → Type 0
Slept s t key = (1 ≤ t) × (t ≤ s.layout.threads) × SleepsAs s.layout key (s.threads t).stage

-- thread t, awake in a call or dead, answers for mutex m
pub record Answering (s : State) (m t : ℕ) : Type 0 where
  pub first : 1 ≤ t
  pub last : t ≤ s.layout.threads
  pub answers : AnswersAs s.layout s.words m t (s.threads t).stage
  pub awake : IsInNoQueue s t

pub record Queued (s : State) : Type 0 where
  pub sleeps : (key t : ℕ) → stands_in t (s.queues key) ≡ true → Slept s t key
  pub one : (t : ℕ) → InOne s.queues t
  pub once : (key : ℕ) → Once (s.queues key)
  pub bits : (m u : ℕ) → m < s.layout.mutexes → Sleeps s u m → HasWaiters s m
  pub answered : (m u : ℕ) → m < s.layout.mutexes → IsUnowned s m → Sleeps s u m → (t : ℕ) × Answering s m t

-- whoever stands in a queue sleeps there
sleeps_there : (s : State) (t key : ℕ) (g : Stage) → SleepsAs s.layout key g → stands_in t (s.queues key) ≡ true → sleeps s t g ≡ true
sleeps_there s t key g h stands = grind (arith)

pub asleep_there : (s : State) (t key : ℕ) → Queued s → stands_in t (s.queues key) ≡ true → is_asleep s t ≡ true
asleep_there s t key queued stands = sleeps_there s t key (s.threads t).stage (queued.sleeps key t stands).2 stands

-- so who is awake stands in none
pub in_none : (s : State) (t : ℕ) → Queued s → is_asleep s t ≡ false → IsInNoQueue s t
in_none s t queued awake key = not_true (stands_in t (s.queues key)) (λ stands. cc (asleep_there s t key queued stands, awake))

-- and whoever stands in none is awake
pub out_awake : (s : State) (t : ℕ) → IsInNoQueue s t → is_asleep s t ≡ false
out_awake s t out = stands_none t s.queues (places_of s.layout (s.threads t).stage) out

-- whoever is woken on a mutex answers for it
woken_as : (l : Layout') (words : ℕ → ℕ) (k t : ℕ) (g : Stage) → k < l.mutexes → SleepsAs l (cell_place l k) g → AnswersAs l words k t g
woken_as l words k t g inside h = grind (arith)

-- the mutex of a call in progress
pub mutex_inside : (s : State) (t : ℕ) → Kept s → 1 ≤ t → t ≤ s.layout.threads → (o : Op) (p : Whole) → (s.threads t).stage ≡ Calling o p → mutex_of s.layout o < s.layout.mutexes
mutex_inside s t inv first last o p is = (fits_in s t o p inv first last is).0.inside

-- whoever sleeps on a condition variable may sleep on its mutex
carried_as : (l : Layout') (c m : ℕ) (g : Stage) → ((o : Op) (p : Whole) → g ≡ Calling o p → mutex_of l o < l.mutexes) → slice_index l.conditions c ≡ m → SleepsAs l (counter_place l c) g → SleepsAs l (cell_place l m) g
carried_as l c m (Calling o p) inside of h = (h.0, there o p (inside o p refl) h.1)
  where
    there : (o : Op) (p : Whole) → mutex_of l o < l.mutexes → IsAmong (counter_place l c) (places_of l (Calling o p)) → IsAmong (cell_place l m) (places_of l (Calling o p))
    there o p below place = grind (arith)
carried_as l c m Idle inside of h = absurd h
carried_as l c m (AtCondition d p) inside of h = absurd h
carried_as l c m (Dying w) inside of h = absurd h
carried_as l c m Reaped inside of h = absurd h

-- ---- one access of thread t, which is awake
module _ (s : State) (t : ℕ) (v : Transition) (g : Stepping s t v) (pos : 1 ≤ t) (known : t ≤ s.layout.threads) (is : (s.threads t).stage ≡ v.from) (queued : Queued s) (awake : is_asleep s t ≡ false) where
  abbrev s' : State
  s' = after s t v

  abbrev at : ℕ
  at = place_of s t v

  out : IsInNoQueue s t
  out = in_none s t queued awake

  -- other threads, and this one
  theirs : (u : ℕ) → u ≢ t → (s'.threads u).stage ≡ (s.threads u).stage
  theirs u apart = ap (λ (z : Thread). z.stage) (put-other s.threads t (thread_after s t v) u apart)

  pub mine : (s'.threads t).stage ≡ v.next
  mine = ap (λ (z : Thread). z.stage) (put-same s.threads t (thread_after s t v))

  -- an access that moves from a condition variable's queue is there
  from_counter : (c e n : ℕ) → c < length s.layout.conditions → v.access ≡ Access.CmpRequeue (counter_in s.layout t c) e 0 (cell_in s.layout t v.mutex) n → at ≡ counter_place s.layout c
  from_counter c e n below is = ap (place_met s.layout t) is ∙ counter_again s.layout t g.kept.layout pos known c below

  -- it moves nobody, or from a condition variable's queue to its mutex's
  pub route : Route s.layout t v.access at
  route = go g.moving
    where
      go : Moving s t v → Route s.layout t v.access at
      go (Moves_none none) = Nowhere none
      go (Moves_to c e n below of is waits owned) =
          Somewhere (counter_in s.layout t c) e 0 (cell_in s.layout t v.mutex) n is (λ same. counter_is_no_cell s.layout v.mutex c g.inside (sym (from_counter c e n below is) ∙ sym same ∙ cell_again s.layout t g.kept.layout pos known v.mutex g.inside))

  pub turn : (u : ℕ) → Turned s.layout u t v.access at (met s t v) s.queues s'.queues
  turn u = turned s.layout s.queues t v.access at (met s t v) queued.once queued.one out route u

  -- thread u, asleep on a condition variable, is moved to its mutex, which is owned
  pub record Carried (u key : ℕ) : Type 0 where
    pub apart : u ≢ t
    pub from : ℕ
    pub below : from < length s.layout.conditions
    pub of : slice_index s.layout.conditions from ≡ v.mutex
    pub left : stands_in u (s.queues (counter_place s.layout from)) ≡ true
    pub to : key ≡ cell_place s.layout v.mutex
    pub waits : HasWaiters s v.mutex
    pub owned : IsUnowned s v.mutex → ⊥
    pub moves : IsNoMove v.access → ⊥

  -- who is moved
  pub carries : (u key from e n to k : ℕ) → v.access ≡ Access.CmpRequeue from e n to k → stands_in u (s.queues at) ≡ true → key ≡ place_in s.layout t to → Carried u key
  carries u key from e n to k is before there = go g.moving
    where
      go : Moving s t v → Carried u key
      go (Moves_none none) = absurd (subst IsNoMove is none)
      go (Moves_to c f x below of same waits owned) =
          let targets : to ≡ cell_in s.layout t v.mutex = ap target (sym is ∙ same) in
          record {
            apart = λ me. cc (sym (ap (λ (y : ℕ). stands_in y (s.queues at)) me) ∙ before, out at);
            from = c;
            below = below;
            of = of;
            left = sym (ap (λ (x : ℕ). stands_in u (s.queues x)) (from_counter c f x below same)) ∙ before;
            to = there ∙ ap (place_in s.layout t) targets ∙ cell_again s.layout t g.kept.layout pos known v.mutex g.inside;
            waits = waits;
            owned = owned;
            moves = λ none. subst IsNoMove is none;
          }
        where
          target : Access → ℕ
          target (Access.CmpRequeue p q r y z) = y
          target a = 0

  -- whoever stands in a queue then was there, or is this thread, which falls asleep, or is moved there
  pub stood : (u key : ℕ) → stands_in u (s'.queues key) ≡ true → ((u ≢ t) × (stands_in u (s.queues key) ≡ true)) ⊎ (((u ≡ t) × (sleeps_at v.access (met s t v) ≡ true) × (key ≡ at)) ⊎ Carried u key)
  stood u key stands = go (turn u)
    where
      only : (place : ℕ) → ((x : ℕ) → x ≢ place → stands_in u (s'.queues x) ≡ false) → key ≡ place
      only place elsewhere = by_same key place (λ is. is) (λ apart. absurd (cc (stands, elsewhere key apart)))

      go : Turned s.layout u t v.access at (met s t v) s.queues s'.queues → ((u ≢ t) × (stands_in u (s.queues key) ≡ true)) ⊎ (((u ≡ t) × (sleeps_at v.access (met s t v) ≡ true) × (key ≡ at)) ⊎ Carried u key)
      go (As_before quiet unwoken unmoved same) = let before = sym (same key) ∙ stands in inl ((λ me. cc (sym (ap (λ (x : ℕ). stands_in x (s.queues key)) me) ∙ before, out key)), before)
      go (Falls me on nobody none there elsewhere) = inr (inl (me, on, only at elsewhere))
      go (Woken quiet woken unmoved before gone) = absurd (cc (stands, gone key))
      go (Moved from e n to k is quiet unwoken moved before there elsewhere) = inr (inr (carries u key from e n to k is before (only (place_in s.layout t to) elsewhere)))

  -- this thread sleeps then, or stands in no queue
  pub still_out : sleeps_at v.access (met s t v) ≡ false → IsInNoQueue s' t
  still_out quiet key = not_true (stands_in t (s'.queues key)) (λ stands. ⊎_elim (λ old. old.0 refl) (λ new. ⊎_elim (λ falls. cc (quiet, falls.1)) (λ moved. moved.apart refl) new) (stood t key stands))

  sleeps' : (key u : ℕ) → stands_in u (s'.queues key) ≡ true → Slept s' u key
  sleeps' key u stands =
      ⊎_elim
      (λ old. let slept = queued.sleeps key u old.1 in (slept.0, slept.1, subst (SleepsAs s.layout key) (sym (theirs u old.0)) slept.2))
      (λ new. ⊎_elim (λ falls. subst (λ (x : ℕ). Slept s' x key) (sym falls.0) (pos, known, subst (SleepsAs s.layout key) (sym mine) (subst (λ (k : ℕ). SleepsAs s.layout k v.next) (sym falls.2) (g.sleeper falls.1)))) moved new)
      (stood u key stands)
    where
      moved : Carried u key → Slept s' u key
      moved c =
          let slept = queued.sleeps (counter_place s.layout c.from) u c.left in
          let here : SleepsAs s.layout (counter_place s.layout c.from) (s'.threads u).stage = subst (SleepsAs s.layout (counter_place s.layout c.from)) (sym (theirs u c.apart)) slept.2 in
          (slept.0, slept.1, subst (λ (x : ℕ). SleepsAs s.layout x (s'.threads u).stage) (sym c.to) (carried_as s.layout c.from v.mutex (s'.threads u).stage (mutex_inside s' u g.kept slept.0 slept.1) c.of here))

  pub now_asleep : sleeps_at v.access (met s t v) ≡ true → is_asleep s' t ≡ true
  now_asleep on = go (turn t)
    where
      go : Turned s.layout t t v.access at (met s t v) s.queues s'.queues → is_asleep s' t ≡ true
      go h = grind (arith)

  pub bits' : (k u : ℕ) → k < s.layout.mutexes → Sleeps s' u k → HasWaiters s' k
  bits' k u inside stands =
      ⊎_elim (λ on. on) (λ none. absurd (cc (sym (ap (stands_in u) none.0) ∙ stands)))
      (g.waiters k inside
      (⊎_elim (λ old. queued.bits k u inside old.1)
      (λ new. ⊎_elim (λ falls. (g.asleep falls.1 k inside (sym falls.2)).0) (λ moved. subst (HasWaiters s) (let place = moved.to in omega (arith, place)) moved.waits) new)
      (stood u (cell_place s.layout k) stands)))

  -- ---- who answers then

  pub this_answers : (k : ℕ) → Continues s t v k → Answering s' k t
  this_answers k c = record { first = pos; last = known; answers = subst (AnswersAs s.layout s'.words k t) (sym mine) c.1; awake = still_out c.0 }

  still_answers : (k u : ℕ) → u ≢ t → Answering s k u → Answering s' k u
  still_answers k u apart a = record {
    first = a.first;
    last = a.last;
    answers = subst (AnswersAs s.layout s'.words k u) (sym (theirs u apart)) (same_answers s.layout s.words s'.words k u (s.threads u).stage (g.pendings u a.first a.last (λ e. apart (sym e))) a.answers);
    awake = λ key. not_true (stands_in u (s'.queues key)) (λ stands. ⊎_elim (λ old. cc (old.1, a.awake key)) (λ new. ⊎_elim (λ falls. apart falls.0) (λ moved. cc (moved.left, a.awake (counter_place s.layout moved.from))) new) (stood u key stands));
  }

  -- one that it wakes
  module _ (k u n : ℕ) (inside : k < s.layout.mutexes) (some : 1 ≤ n) (wakes : v.access ≡ Access.Wake (cell_in s.layout t k) n) (stands : Sleeps s u k) where
    queue : s'.queues (cell_place s.layout k) ≡ drop n (s.queues (cell_place s.layout k))
    queue = ap (λ (a : Access). (done s t a (thread_after s t v)).queues (cell_place s.layout k)) wakes ∙ ap (λ (x : ℕ). put s.queues x (drop n (s.queues x)) (cell_place s.layout k)) (cell_again s.layout t g.kept.layout pos known k inside) ∙ put-same s.queues (cell_place s.layout k) (drop n (s.queues (cell_place s.layout k)))

    pub woken_one : (x : ℕ) × Sleeps s x k × IsInNoQueue s' x
    woken_one = go (s.queues (cell_place s.layout k)) refl
      where
        gone : (x : ℕ) → Sleeps s x k → stands_in x (sleepers s' k) ≡ false → Turned s.layout x t v.access at (met s t v) s.queues s'.queues → IsInNoQueue s' x
        gone x before none h = grind (arith)

        go : (ds : List ℕ) → s.queues (cell_place s.layout k) ≡ ds → (x : ℕ) × Sleeps s x k × IsInNoQueue s' x
        go [] same = absurd (cc (sym (ap (stands_in u) same) ∙ stands))
        go (x ∷ xs) same =
            let before : Sleeps s x k = ap (stands_in x) same ∙ first_stands x xs in
            let none : stands_in x (sleepers s' k) ≡ false = ap (stands_in x) (queue ∙ ap (drop n) same) ∙ first_gone x n xs (subst Once same (queued.once (cell_place s.layout k))) some in
            (x, before, gone x before none (turn x))

    woken_answers : (x : ℕ) × Answering s' k x
    woken_answers =
        let x = woken_one.0 in
        let slept = queued.sleeps (cell_place s.layout k) x woken_one.1 in
        let apart : x ≢ t = λ me. cc (sym (ap (λ (y : ℕ). stands_in y (sleepers s k)) me) ∙ woken_one.1, out (cell_place s.layout k)) in
        (x, record { first = slept.0; last = slept.1; answers = subst (AnswersAs s.layout s'.words k x) (sym (theirs x apart)) (woken_as s.layout s'.words k x (s.threads x).stage inside slept.2); awake = woken_one.2 })

  answered' : (k u : ℕ) → k < s.layout.mutexes → IsUnowned s' k → Sleeps s' u k → (x : ℕ) × Answering s' k x
  answered' k u inside none stands = ⊎_elim (λ old. stays old.1) (λ new. ⊎_elim falls moves new) (stood u (cell_place s.layout k) stands)
    where
      still : IsUnowned s k → Sleeps s u k → (AnswersAs s.layout s.words k t v.from → Continues s t v k) → (x : ℕ) × Answering s' k x
      still free before more = let old = queued.answered k u inside free before in go old.0 old.1 (old.0 == t) refl
        where
          go : (x : ℕ) → Answering s k x → (b : Bool) → (x == t) ≡ b → (x : ℕ) × Answering s' k x
          go x a true e = let me : x ≡ t = eqb-true x t e in (t, this_answers k (more (subst (AnswersAs s.layout s.words k t) is (subst (λ (y : ℕ). AnswersAs s.layout s.words k y (s.threads y).stage) me a.answers))))
          go x a false e = (x, still_answers k x (eqb-false x t e) a)

      stays : Sleeps s u k → (x : ℕ) × Answering s' k x
      stays before = go (g.settles k inside none (bits' k u inside stands))
        where
          go : Settles s t v k → (x : ℕ) × Answering s' k x
          go (Wakes_there n some wakes) = woken_answers k u n inside some wakes before
          go (Answers_now c) = (t, this_answers k c)
          go (Found_free free more) = still free before more

      falls : (u ≡ t) × (sleeps_at v.access (met s t v) ≡ true) × (cell_place s.layout k ≡ at) → (x : ℕ) × Answering s' k x
      falls new = go (g.settles k inside none (bits' k u inside stands))
        where
          go : Settles s t v k → (x : ℕ) × Answering s' k x
          go (Wakes_there n some wakes) = absurd (cc (sym (ap (λ a. sleeps_at a (met s t v)) wakes) ∙ new.1))
          go (Answers_now c) = (t, this_answers k c)
          go (Found_free free more) = absurd ((g.asleep new.1 k inside (sym new.2)).1 free)

      moves : Carried u (cell_place s.layout k) → (x : ℕ) × Answering s' k x
      moves c = go (g.settles k inside none (bits' k u inside stands))
        where
          go : Settles s t v k → (x : ℕ) × Answering s' k x
          go (Wakes_there n some wakes) = absurd (c.moves (subst IsNoMove (sym wakes) tt))
          go (Answers_now now) = (t, this_answers k now)
          go (Found_free free more) = absurd (c.owned (subst (IsUnowned s) (let place = c.to in omega (arith, place)) free))

  pub went_queued : Queued s'
  went_queued = record {
    sleeps = sleeps';
    one = one_then s.layout s.queues t v.access at (met s t v) queued.once queued.one out route;
    once = once_then s.layout s.queues t v.access at (met s t v) queued.once queued.one out route;
    bits = bits';
    answered = answered';
  }
