-- Wakes that are spared.
use Rattle.std.proofs.Common.{◌≡◌, ◌≢◌, ◌⊎◌, inl, inr, ℕ, zero, suc, ◌+◌, ◌<◌, ◌≤◌, ◌==◌, ◌&&◌, Bool, true, false, None, List, [], ◌∷◌, refl, sym, ap, ◌∙◌, subst, arith, eqb-true}
use Rattle.protocol.proofs.Vocabulary.{CondCall, CondPhase, CondRow, WaitRow, CondWhole, cond_led, Operation, OK, Count, Phase, AtCell, Clearing, UnlockRow, Whole, whole_led, leaving, Op, OnCondition, mutex_of}
use Rattle.protocol.proofs.Vocabulary.{Event, Thread, Stage, Idle, Calling, AtCondition, Dying, Reaped, Note, Stepped, State, After, Layout', put, place_met, nothing, is_asleep, Led, led, led_at, spared, stage_after, held_after, happens}
use Rattle.protocol.proofs.Vocabulary.{Access, nat_tests, sleeps, stands_in, if◌then◌else◌, not, ◌||◌, eqb-false, a_walk_minds, another_answers, answers, cell_place, is_calling, is_left_to, is_owned, IsUnowned, LeftTo, minds, sparing, walk_minds, wakes_one, In_unlock, In_wait, IsLeftTo, WakesOneOf, MaySpare, head_place}
use mathlib.Core.Path.{fun_ext}
use Rattle.mutex.specs.Whole.{phase_led}
use Rattle.mutex.specs.declared.row.Row.TheVariants.{Unlock}
use Rattle.condvar.specs.Whole as condition
use Rattle.condvar.specs.Calls.{acts_as}
use Rattle.protocol.specs.Machine.{returned}
use Rattle.protocol.specs.declared.event.Event.TheVariants.{Spare}
use Rattle.protocol.proofs.Puts.{by_put, put-other}
use Rattle.protocol.proofs.Kept.{Kept}
use Rattle.protocol.proofs.Steps.{after, unmoved, call_step, cond_step}
use Rattle.protocol.proofs.Stepping.{SleepsAs, Minds, AnswersAs, wakes_next}
use Rattle.exitwalk.specs.declared.row.Row as walk_row
use Rattle.exitwalk.specs.declared.row.Row.TheVariants as walk
use Rattle.exitwalk.specs.declared.row.Part.TheVariants as part
use Rattle.exitwalk.specs.Standings as walks
use Rattle.lockword.specs.Cells.{fields_of}
use Rattle.protocol.specs.Machine.{is_first, is_pending}
use Rattle.protocol.proofs.Seeing.{entry_in, cell_in}
use Rattle.protocol.proofs.Phases.{answers_at}
use Rattle.protocol.proofs.Accesses.{fits_in, goes}
use Rattle.protocol.proofs.CondAccesses.{cond_stepping}
use Rattle.protocol.proofs.Queued.{Queued, Answering, in_none, out_awake}
use Rattle.protocol.proofs.Events.{is_known, by_event, spared_calls, HowSpared, Of_unlock, Of_wait, Sparing}
use Rattle.protocol.proofs.Departures.{queues_kept, asleep_where}
use Rattle.protocol.proofs.Queues.{not_true}
use Rattle.protocol.proofs.Cases.{at_or_else}

-- ---- another that answers

record Another (s : State) (t m n : ℕ) : Type 0 where
  other : ℕ
  first : 1 ≤ other
  last : other ≤ n
  apart : other ≢ t
  awake : is_asleep s other ≡ false
  looks : answers s.layout s.words m other (s.threads other).stage ≡ true

another_is : (s : State) (t m n : ℕ) → another_answers s t m n ≡ true → Another s t m n
another_is s t m zero e = absurd cc
another_is s t m (suc n) e = go (suc n == t) refl (is_asleep s (suc n)) refl (answers s.layout s.words m (suc n) (s.threads (suc n)).stage) refl e (another_is s t m n)
  where
    later : Another s t m n → Another s t m (suc n)
    later a = record { other = a.other; first = a.first; last = let most = a.last in omega arith; apart = a.apart; awake = a.awake; looks = a.looks }

    go : (a : Bool) → (suc n == t) ≡ a → (b : Bool) → is_asleep s (suc n) ≡ b → (c : Bool) → answers s.layout s.words m (suc n) (s.threads (suc n)).stage ≡ c → ((not a && not b && c) || another_answers s t m n) ≡ true → (another_answers s t m n ≡ true → Another s t m n) → Another s t m (suc n)
    go false apart false awake true looks e rest = record { other = suc n; first = omega arith; last = omega arith; apart = eqb-false (suc n) t apart; awake = awake; looks = looks }
    go false apart false awake false looks e rest = later (rest e)
    go false apart true awake c looks e rest = later (rest e)
    go true is b awake c looks e rest = later (rest e)

pub another_again : (s : State) (t m n u : ℕ) → 1 ≤ u → u ≤ n → u ≢ t → is_asleep s u ≡ false → answers s.layout s.words m u (s.threads u).stage ≡ true → another_answers s t m n ≡ true
another_again s t m zero u first last apart awake looks = absurd (omega arith)
another_again s t m (suc n) u first last apart awake looks = go (suc n == u) refl (another_again s t m n u first)
  where
    or_else : (b : Bool) → (b || true) ≡ true
    or_else true = refl
    or_else false = refl

    off : (b : Bool) → (suc n == t) ≡ b → u ≡ suc n → b ≡ false
    off true is same = absurd (apart (same ∙ eqb-true (suc n) t is))
    off false is same = refl

    go : (b : Bool) → (suc n == u) ≡ b → (u ≤ n → u ≢ t → is_asleep s u ≡ false → answers s.layout s.words m u (s.threads u).stage ≡ true → another_answers s t m n ≡ true)
        → ((not (suc n == t) && not (is_asleep s (suc n)) && answers s.layout s.words m (suc n) (s.threads (suc n)).stage) || another_answers s t m n) ≡ true
    go true is rest =
        let same : u ≡ suc n = sym (eqb-true (suc n) u is) in
        let a : (suc n == t) ≡ false = off (suc n == t) refl same in
        let b : is_asleep s (suc n) ≡ false = subst (λ (v : ℕ). is_asleep s v ≡ false) same awake in
        let c : answers s.layout s.words m (suc n) (s.threads (suc n)).stage ≡ true = subst (λ (v : ℕ). answers s.layout s.words m v (s.threads v).stage ≡ true) same looks in
        λ i. (not (a i) && not (b i) && c i) || another_answers s t m n
    go false off rest =
        let other = eqb-false (suc n) u off in
        ap (λ (x : Bool). (not (suc n == t) && not (is_asleep s (suc n)) && answers s.layout s.words m (suc n) (s.threads (suc n)).stage) || x) (rest (omega arith) apart awake looks)
        ∙ or_else (not (suc n == t) && not (is_asleep s (suc n)) && answers s.layout s.words m (suc n) (s.threads (suc n)).stage)

-- as the test says, and as the invariant does
answers_as : (l : Layout') (words : ℕ → ℕ) (m u : ℕ) (g : Stage) → answers l words m u g ≡ true → AnswersAs l words m u g
answers_as l words m u (Calling o p) e = go (mutex_of l o == m) refl e
  where
    go : (b : Bool) → (mutex_of l o == m) ≡ b → (b && answers_at p.phase) ≡ true → (mutex_of l o ≡ m) × (answers_at p.phase ≡ true)
    go true is e = (eqb-true (mutex_of l o) m is, e)
    go false is e = absurd cc
answers_as l words m u (AtCondition c p) e = go (mutex_of l (OnCondition c) == m) refl e
  where
    go : (b : Bool) → (mutex_of l (OnCondition c) == m) ≡ b → (b && wakes_next p.phase) ≡ true → (mutex_of l (OnCondition c) ≡ m) × (wakes_next p.phase ≡ true)
    go true is e = (eqb-true (mutex_of l (OnCondition c)) m is, e)
    go false is e = absurd cc
answers_as l words m u Idle e = absurd cc
answers_as l words m u (Dying w) e = go w.row e
  where
    go : (r : walk_row.Row) → (is_first r && is_pending l words m u) ≡ true → Minds l words m u r
    go walk.LoadFirst e = eqb-true (words (head_place u + 2)) (entry_in l u m) e
    go r e = absurd cc
answers_as l words m u Reaped e = absurd cc

-- ---- a walk that answers

record AWalk (s : State) (m n : ℕ) : Type 0 where
  dead : ℕ
  first : 1 ≤ dead
  last : dead ≤ n
  looks : walk_minds s.layout s.words m dead (s.threads dead).stage ≡ true

a_walk_is : (s : State) (m n : ℕ) → a_walk_minds s m n ≡ true → AWalk s m n
a_walk_is s m zero e = absurd cc
a_walk_is s m (suc n) e = go (walk_minds s.layout s.words m (suc n) (s.threads (suc n)).stage) refl e (a_walk_is s m n)
  where
    go : (a : Bool) → walk_minds s.layout s.words m (suc n) (s.threads (suc n)).stage ≡ a → (a || a_walk_minds s m n) ≡ true → (a_walk_minds s m n ≡ true → AWalk s m n) → AWalk s m (suc n)
    go true looks e rest = record { dead = suc n; first = omega arith; last = omega arith; looks = looks }
    go false looks e rest = let a = rest e in record { dead = a.dead; first = a.first; last = (let most = a.last in omega arith); looks = a.looks }

pub a_walk_again : (s : State) (m n u : ℕ) → 1 ≤ u → u ≤ n → walk_minds s.layout s.words m u (s.threads u).stage ≡ true → a_walk_minds s m n ≡ true
a_walk_again s m zero u first last looks = absurd (omega arith)
a_walk_again s m (suc n) u first last looks = go (suc n == u) refl (a_walk_again s m n u first)
  where
    or_else : (b : Bool) → (b || true) ≡ true
    or_else true = refl
    or_else false = refl

    go : (b : Bool) → (suc n == u) ≡ b → (u ≤ n → walk_minds s.layout s.words m u (s.threads u).stage ≡ true → a_walk_minds s m n ≡ true) → (walk_minds s.layout s.words m (suc n) (s.threads (suc n)).stage || a_walk_minds s m n) ≡ true
    go true is rest =
        let here : walk_minds s.layout s.words m (suc n) (s.threads (suc n)).stage ≡ true = subst (λ (v : ℕ). walk_minds s.layout s.words m v (s.threads v).stage ≡ true) (sym (eqb-true (suc n) u is)) looks in
        ap (λ (x : Bool). x || a_walk_minds s m n) here
    go false off rest = let apart = eqb-false (suc n) u off in ap (λ (x : Bool). walk_minds s.layout s.words m (suc n) (s.threads (suc n)).stage || x) (rest (omega arith) looks) ∙ or_else (walk_minds s.layout s.words m (suc n) (s.threads (suc n)).stage)

either_is : (a b x : ℕ) (c : ℕ) → ((a == b) || (x == c)) ≡ true → (a ≡ b) ⊎ (x ≡ c)
either_is a b x c e = go (a == b) refl e
  where
    go : (y : Bool) → (a == b) ≡ y → (y || (x == c)) ≡ true → (a ≡ b) ⊎ (x ≡ c)
    go true is e = inl (eqb-true a b is)
    go false is e = inr (eqb-true x c e)

-- as the test says, and as the invariant does
minds_as : (l : Layout') (words : ℕ → ℕ) (m u : ℕ) (r : walk_row.Row) → minds l words m u r ≡ true → Minds l words m u r
minds_as l words m u walk.LoadFirst e = eqb-true (words (head_place u + 2)) (entry_in l u m) e
minds_as l words m u (walk.LoadOffset f) e = eqb-true (words (head_place u + 2)) (entry_in l u m) e
minds_as l words m u (walk.LoadPending f o) e = eqb-true (words (head_place u + 2)) (entry_in l u m) e
minds_as l words m u (walk.LoadNext r) e = eqb-true r.pending (entry_in l u m) e
minds_as l words m u (walk.LoadWord at (part.List r)) e = eqb-true r.pending (entry_in l u m) e
minds_as l words m u (walk.LoadWord at part.Pending) e = eqb-true at (cell_in l u m) e
minds_as l words m u (walk.Mark at v again (part.List r)) e = eqb-true r.pending (entry_in l u m) e
minds_as l words m u (walk.WakeOne at (part.List r)) e = either_is at (cell_in l u m) r.pending (entry_in l u m) e
minds_as l words m u (walk.WakeOne at part.Pending) e = eqb-true at (cell_in l u m) e
minds_as l words m u (walk.Mark at v again part.Pending) e = absurd cc
minds_as l words m u walk.Ended e = absurd cc

-- whose stage it is
walks_as : (l : Layout') (words : ℕ → ℕ) (m u : ℕ) (g : Stage) → walk_minds l words m u g ≡ true → (w : walks.Standing) × (g ≡ Dying w) × (minds l words m u w.row ≡ true)
walks_as l words m u (Dying w) e = (w, refl, e)
walks_as l words m u (Calling o p) e = absurd cc
walks_as l words m u (AtCondition c p) e = absurd cc
walks_as l words m u Idle e = absurd cc
walks_as l words m u Reaped e = absurd cc

-- ---- where the thread goes on

abbrev pub next_of : (s : State) (t m : ℕ) (g : Led) → HowSpared s t m g → Stage
next_of s t m g (Of_unlock o p is mutex at leads) = Calling o (record p { phase = Clearing OK })
next_of s t m g (Of_wait c p seen is mutex at leads) = AtCondition c (record p { phase = CondPhase.AtWords (CondRow.Wait (WaitRow.Sleep seen)) })

-- as it stands after that
abbrev pub behind : (s : State) (t m : ℕ) (g : Led) → HowSpared s t m g → Thread
behind s t m g how = record { stage = next_of s t m g how; held = (s.threads t).held }

abbrev pub spared_state : (s : State) (t m : ℕ) (g : Led) → HowSpared s t m g → State
spared_state s t m g how = record s { threads = put s.threads t (behind s t m g how) }

abbrev pub unwoken : ℕ → ℕ → Note
unwoken t m = Stepped t m None None [] [] None

-- as if thread t slept on every word
abbrev slept_on : ℕ → ℕ → List ℕ
slept_on t key = t ∷ []

-- ---- an unlock
module _ (s : State) (t : ℕ) (o : Op) (p : Whole) (is : (s.threads t).stage ≡ Calling o p) (at : p.phase ≡ AtCell (Unlock (UnlockRow.Wake false))) (inv : Kept s) (pos : 1 ≤ t) (known : t ≤ s.layout.threads) where
  abbrev whole : Whole
  whole = record p { phase = AtCell (Unlock (UnlockRow.Wake false)) }

  same : p ≡ whole
  same = λ i. record { thread = p.thread; operation = p.operation; head = p.head; entry = p.entry; cell = p.cell; phase = at i }

  stands : (s.threads t).stage ≡ Calling o whole
  stands = is ∙ ap (Calling o) same

  unlocks : p.operation ≡ Operation.Unlock
  unlocks = sym (fits_in s t o whole inv pos known stands).0.stands.of

  abbrev led_as : Operation → Led
  led_as op = record { stage = stage_after o p (leaving p op OK); operation = op; point = None; returned = returned o (leaving p op OK) }

  unlock_led : led o p (whole_led p (Count 1)) ≡ led_as Operation.Unlock
  unlock_led = ap (λ (f : Phase). led o p (phase_led p f (Count 1))) at ∙ ap led_as unlocks

  unlock_is : (m : ℕ) → spared s t (s.threads t).held m (led o p (whole_led p (Count 1))) ≡ record { state = record s { threads = put s.threads t (record { stage = Calling o (record p { phase = Clearing OK }); held = (s.threads t).held }) }; note = unwoken t m }
  unlock_is m = ap (spared s t (s.threads t).held m) unlock_led

  abbrev s1 : State
  s1 = record s { queues = slept_on t }

  abbrev s2 : State
  s2 = after s1 t (call_step s1 t o whole)

  abbrev place : ℕ
  place = place_met s.layout t (Access.Wake p.cell 1)

  abbrev With : Operation → (ℕ → ℕ) → Type 0
  With op ws = Kept (record { layout = s.layout; words = ws; queues = s2.queues; threads = put s.threads t (record { stage = stage_after o whole (leaving whole op OK); held = held_after (s.threads t).held op None }) })

  words_stay : put s.words place (s.words place) ≡ s.words
  words_stay = fun_ext (λ x. by_put (λ (v : ℕ). v ≡ s.words x) s.words place _ x (λ at. ap s.words (sym at)) (λ apart. refl))

  unlock_kept : Kept (record s { threads = put s.threads t (record { stage = Calling o (record p { phase = Clearing OK }); held = (s.threads t).held }) })
  unlock_kept =
      let first : With p.operation (put s.words place (s.words place)) = (goes s1 t o whole (queues_kept s (slept_on t) inv) pos known stands).kept in
      let second : With Operation.Unlock (put s.words place (s.words place)) = subst (λ (op : Operation). With op (put s.words place (s.words place))) unlocks first in
      let third : With Operation.Unlock s.words = subst (With Operation.Unlock) words_stay second in
      queues_kept (record s { queues = s2.queues; threads = put s.threads t (record { stage = Calling o (record p { phase = Clearing OK }); held = (s.threads t).held }) }) s.queues third

-- ---- a wait
module _ (s : State) (t : ℕ) (c : CondCall) (p : CondWhole) (seen : ℕ) (is : (s.threads t).stage ≡ AtCondition c p) (at : p.phase ≡ CondPhase.AtWords (CondRow.Wait (WaitRow.Wake seen))) where
  abbrev whole_at : CondWhole
  whole_at = record p { phase = CondPhase.AtWords (CondRow.Wait (WaitRow.Wake seen)) }

  abbrev sleeping : CondWhole
  sleeping = record p { phase = CondPhase.AtWords (CondRow.Wait (WaitRow.Sleep seen)) }

  same_at : p ≡ whole_at
  same_at = λ i. record { thread = p.thread; head = p.head; entry = p.entry; cell = p.cell; counter = p.counter; phase = at i }

  stands_at : (s.threads t).stage ≡ AtCondition c whole_at
  stands_at = is ∙ ap (AtCondition c) same_at

  abbrev led_on : Led
  led_on = record { stage = AtCondition c sleeping; operation = acts_as c; point = None; returned = None }

  wait_led : led_at c p (cond_led p (Count 1)) ≡ led_on
  wait_led = ap (λ (f : CondPhase). led_at c p (condition.phase_led p f (Count 1))) at

  abbrev waiting_on : ℕ → State
  waiting_on held = record s { threads = put s.threads t (record { stage = AtCondition c sleeping; held = held }) }

  wait_is : (m : ℕ) → spared s t (s.threads t).held m (led_at c p (cond_led p (Count 1))) ≡ record { state = waiting_on (s.threads t).held; note = unwoken t m }
  wait_is m = ap (spared s t (s.threads t).held m) wait_led ∙ (λ i. record { state = waiting_on (unmoved (acts_as c) (s.threads t).held i); note = unwoken t m })

  abbrev s3 : State
  s3 = record s { queues = slept_on t }

  abbrev s4 : State
  s4 = after s3 t (cond_step s3 t c whole_at)

  abbrev place_at : ℕ
  place_at = place_met s.layout t (Access.Wake p.cell 1)

  abbrev With_at : ℕ → (ℕ → ℕ) → Type 0
  With_at held ws = Kept (record { layout = s.layout; words = ws; queues = s4.queues; threads = put s.threads t (record { stage = AtCondition c sleeping; held = held }) })

  words_stay_at : put s.words place_at (s.words place_at) ≡ s.words
  words_stay_at = fun_ext (λ x. by_put (λ (v : ℕ). v ≡ s.words x) s.words place_at _ x (λ at. ap s.words (sym at)) (λ apart. refl))

  wait_kept : Kept s → 1 ≤ t → t ≤ s.layout.threads → Kept (waiting_on (s.threads t).held)
  wait_kept inv pos known =
      let first : With_at (held_after (s.threads t).held (acts_as c) None) (put s.words place_at (s.words place_at)) = (cond_stepping s3 t c whole_at (queues_kept s (slept_on t) inv) pos known stands_at).kept in
      let second : With_at (s.threads t).held (put s.words place_at (s.words place_at)) = subst (λ (h : ℕ). With_at h (put s.words place_at (s.words place_at))) (unmoved (acts_as c) (s.threads t).held) first in
      let third : With_at (s.threads t).held s.words = subst (With_at (s.threads t).held) words_stay_at second in
      queues_kept (record s { queues = s4.queues; threads = put s.threads t (record { stage = AtCondition c sleeping; held = (s.threads t).held }) }) s.queues third

-- ---- of both

pub spare_is : (s : State) (t m : ℕ) (g : Led) (sp : Sparing s t m g) → Kept s → spared s t (s.threads t).held m g ≡ record { state = spared_state s t m g sp.how; note = unwoken t m }
spare_is s t m g sp inv = go sp.how
  where
    go : (how : HowSpared s t m g) → spared s t (s.threads t).held m g ≡ record { state = spared_state s t m g how; note = unwoken t m }
    go (Of_unlock o p is mutex at leads) = ap (spared s t (s.threads t).held m) leads ∙ unlock_is s t o p is at inv sp.first sp.last m
    go (Of_wait c p seen is mutex at leads) = ap (spared s t (s.threads t).held m) leads ∙ wait_is s t c p seen is at m

pub spare_kept : (s : State) (t m : ℕ) (g : Led) (sp : Sparing s t m g) → Kept s → Kept (spared_state s t m g sp.how)
spare_kept s t m g sp inv = go sp.how
  where
    go : (how : HowSpared s t m g) → Kept (spared_state s t m g how)
    go (Of_unlock o p is mutex at leads) = unlock_kept s t o p is at inv sp.first sp.last
    go (Of_wait c p seen is mutex at leads) = wait_kept s t c p seen is at inv sp.first sp.last

-- a mutex that nobody owns has no owner in its word
owned_not : (s : State) (m : ℕ) → m < s.layout.mutexes → IsUnowned s m → is_owned s m ≡ true → ⊥
owned_not s m inside free e = grind (arith, nat_tests)

module _ (s : State) (t m : ℕ) (g : Led) (sp : Sparing s t m g) (queued : Queued s) where
  abbrev s' : State
  s' = spared_state s t m g sp.how

  pub spared_awake : is_asleep s t ≡ false
  spared_awake = not_true (is_asleep s t) (λ asleep. let there = asleep_where s t asleep in never there.0 (queued.sleeps there.0 t there.1).2 sp.how)
    where
      never : (key : ℕ) → SleepsAs s.layout key (s.threads t).stage → HowSpared s t m g → ⊥
      never key slept (Of_unlock o p is mutex at leads) = let so = subst (SleepsAs s.layout key) is slept in cc (so.0, at)
      never key slept (Of_wait c p seen is mutex at leads) = subst (SleepsAs s.layout key) is slept

  -- it answered for this mutex alone
  its_mutex : (k : ℕ) → AnswersAs s.layout s.words k t (s.threads t).stage → k ≡ m
  its_mutex k a = go sp.how
    where
      go : HowSpared s t m g → k ≡ m
      go (Of_unlock o p is mutex at leads) = let so = subst (AnswersAs s.layout s.words k t) is a in sym so.0 ∙ sym mutex
      go (Of_wait c p seen is mutex at leads) = let so = subst (AnswersAs s.layout s.words k t) is a in sym so.0 ∙ sym mutex

  stage_stays : (u : ℕ) → u ≢ t → (s'.threads u).stage ≡ (s.threads u).stage
  stage_stays u apart = ap (λ (z : Thread). z.stage) (put-other s.threads t (behind s t m g sp.how) u apart)

  asleep_apart : (u key : ℕ) → stands_in u (s.queues key) ≡ true → u ≢ t
  asleep_apart u key there at = cc (sym (ap (λ (v : ℕ). stands_in v (s.queues key)) at) ∙ there, in_none s t queued spared_awake key)

  still_answers : (k x : ℕ) → x ≢ t → Answering s k x → Answering s' k x
  still_answers k x apart a = record { first = a.first; last = a.last; answers = subst (AnswersAs s.layout s.words k x) (sym (stage_stays x apart)) a.answers; awake = a.awake }

  another_answering : (a : Another s t m s.layout.threads) → Answering s m a.other
  another_answering a = record {
    first = a.first;
    last = a.last;
    answers = answers_as s.layout s.words m a.other (s.threads a.other).stage a.looks;
    awake = in_none s a.other queued a.awake;
  }

  walk_answering : (a : AWalk s m s.layout.threads) → (a.dead ≢ t) × Answering s m a.dead
  walk_answering a =
      let there = walks_as s.layout s.words m a.dead (s.threads a.dead).stage a.looks in (
        (λ me. cc (spared_calls s t m g sp.how, ap (λ (v : ℕ). is_calling (s.threads v).stage) (sym me) ∙ ap is_calling there.1)),
        record {
          first = a.first;
          last = a.last;
          answers = subst (AnswersAs s.layout s.words m a.dead) (sym there.1) (minds_as s.layout s.words m a.dead there.0.row there.2);
          awake = in_none s a.dead queued (ap (sleeps s a.dead) there.1);
        },
      )

  -- who answers for the mutex where nobody owns it, but this thread
  left_answering : m < s.layout.mutexes → IsUnowned s m → (by : LeftTo) → is_left_to s t m by ≡ true → (x : ℕ) × (x ≢ t) × Answering s m x
  left_answering inside free LeftTo.Thread e = let a = another_is s t m s.layout.threads e in (a.other, a.apart, another_answering a)
  left_answering inside free LeftTo.Owner e = absurd (owned_not s m inside free e)
  left_answering inside free LeftTo.Walk e = let a = a_walk_is s m s.layout.threads e in let b = walk_answering a in (a.dead, b.0, b.1)

  answered_then : (k x : ℕ) → k < s.layout.mutexes → IsUnowned s k → Answering s k x → (y : ℕ) × Answering s' k y
  answered_then k x inside free =
      at_or_else (λ (y : ℕ). Answering s k y → (z : ℕ) × Answering s' k z) t x
      (λ a.
      let same = its_mutex k a.answers in
      let other = left_answering (subst (λ (j : ℕ). j < s.layout.mutexes) same inside) (subst (IsUnowned s) same free) sp.by sp.left in
      (other.0, subst (λ (j : ℕ). Answering s' j other.0) (sym same) (still_answers m other.0 other.1 other.2)))
      (λ apart a. (x, still_answers k x apart a))

  pub spare_queued : Queued s'
  spare_queued = record {
    sleeps = λ key u there. let slept = queued.sleeps key u there in (slept.0, slept.1, subst (SleepsAs s.layout key) (sym (stage_stays u (asleep_apart u key there))) slept.2);
    one = queued.one;
    once = queued.once;
    bits = queued.bits;
    answered = λ k u inside none there. let old = queued.answered k u inside none there in answered_then k old.0 inside none old.1;
  }

-- ---- the event

-- the test says who answers, and the other way round
pub left_again : (s : State) (t m : ℕ) (by : LeftTo) → IsLeftTo s t m by → is_left_to s t m by ≡ true
left_again s t m LeftTo.Thread a = another_again s t m s.layout.threads a.other a.first a.last a.apart (out_awake s a.other a.awake) a.looks
left_again s t m LeftTo.Owner some = go ((fields_of (s.words (cell_place s.layout m))).owner == 0) refl
  where
    go : (b : Bool) → ((fields_of (s.words (cell_place s.layout m))).owner == 0) ≡ b → not b ≡ true
    go true is = absurd (some (eqb-true (fields_of (s.words (cell_place s.layout m))).owner 0 is))
    go false is = refl
left_again s t m LeftTo.Walk a = a_walk_again s m s.layout.threads a.dead a.first a.last (ap (walk_minds s.layout s.words m a.dead) a.dies ∙ a.looks)

pub left_so : (s : State) (t m : ℕ) → Queued s → (by : LeftTo) → is_left_to s t m by ≡ true → IsLeftTo s t m by
left_so s t m queued LeftTo.Thread e = let a = another_is s t m s.layout.threads e in record { other = a.other; first = a.first; last = a.last; apart = a.apart; awake = in_none s a.other queued a.awake; looks = a.looks }
left_so s t m queued LeftTo.Owner e = go ((fields_of (s.words (cell_place s.layout m))).owner == 0) refl e
  where
    go : (b : Bool) → ((fields_of (s.words (cell_place s.layout m))).owner == 0) ≡ b → not b ≡ true → (fields_of (s.words (cell_place s.layout m))).owner ≢ 0
    go false is e = eqb-false (fields_of (s.words (cell_place s.layout m))).owner 0 is
    go true is e = absurd cc
left_so s t m queued LeftTo.Walk e =
    let a = a_walk_is s m s.layout.threads e in
    let there = walks_as s.layout s.words m a.dead (s.threads a.dead).stage a.looks in
    record { dead = a.dead; first = a.first; last = a.last; at = there.0; dies = there.1; looks = there.2 }

-- where it may be spared it is
pub spare_goes : (s : State) (t m : ℕ) (by : LeftTo) (g : Stage) → Kept s → Queued s → 1 ≤ t → t ≤ s.layout.threads → WakesOneOf s t m g → IsLeftTo s t m by
    → happens s (Spare t by) ≡ record { state = record s { threads = put s.threads t (record { stage = g; held = (s.threads t).held }) }; note = unwoken t m }
spare_goes s t m by g inv queued pos known wakes left = ap (λ (b : Bool). if b then sparing s t by (s.threads t).held (s.threads t).stage else nothing s) (is_known s t pos known) ∙ go wakes
  where
    answered : (k : ℕ) → m ≡ k → is_left_to s t k by ≡ true
    answered k same = subst (λ (j : ℕ). is_left_to s t j by ≡ true) same (left_again s t m by left)

    To : Stage → ℕ → After
    To z k = record { state = record s { threads = put s.threads t (record { stage = z; held = (s.threads t).held }) }; note = unwoken t k }

    go : WakesOneOf s t m g → sparing s t by (s.threads t).held (s.threads t).stage ≡ To g m
    go (In_unlock o p is mutex at goes) =
        ap (sparing s t by (s.threads t).held) is
        ∙ ap (λ (f : Phase). if wakes_one f && is_left_to s t (mutex_of s.layout o) by then spared s t (s.threads t).held (mutex_of s.layout o) (led o p (whole_led p (Count 1))) else nothing s) at
        ∙ ap (λ (b : Bool). if b then spared s t (s.threads t).held (mutex_of s.layout o) (led o p (whole_led p (Count 1))) else nothing s) (answered (mutex_of s.layout o) mutex)
        ∙ unlock_is s t o p is at inv pos known (mutex_of s.layout o)
        ∙ (λ i. To (sym goes i) (sym mutex i))
    go (In_wait c p seen is mutex at goes) =
        ap (sparing s t by (s.threads t).held) is
        ∙ ap (λ (f : CondPhase). if wakes_next f && is_left_to s t (mutex_of s.layout (OnCondition c)) by then spared s t (s.threads t).held (mutex_of s.layout (OnCondition c)) (led_at c p (cond_led p (Count 1))) else nothing s) at
        ∙ ap (λ (b : Bool). if b then spared s t (s.threads t).held (mutex_of s.layout (OnCondition c)) (led_at c p (cond_led p (Count 1))) else nothing s) (answered (mutex_of s.layout (OnCondition c)) mutex)
        ∙ wait_is s t c p seen is at (mutex_of s.layout (OnCondition c))
        ∙ (λ i. To (sym goes i) (sym mutex i))

-- what the test says
pub spare_so : (s : State) (t m : ℕ) (g : Led) → Queued s → (sp : Sparing s t m g) → MaySpare s t sp.by
spare_so s t m g queued sp = (m, next_of s t m g sp.how, go sp.how, left_so s t m queued sp.by sp.left)
  where
    go : (how : HowSpared s t m g) → WakesOneOf s t m (next_of s t m g how)
    go (Of_unlock o p is mutex at leads) = In_unlock o p is mutex at refl
    go (Of_wait c p seen is mutex at leads) = In_wait c p seen is mutex at refl

-- where it may not, nothing happens
pub spare_rests : (s : State) (t : ℕ) (by : LeftTo) → Queued s → (1 ≤ t → t ≤ s.layout.threads → MaySpare s t by → ⊥) → happens s (Spare t by) ≡ nothing s
spare_rests s t by queued never =
    by_event s (λ (x : Event) (a : After). x ≡ Spare t by → a ≡ nothing s) (λ x same. refl) (λ u o pos known named idle b full same. absurd cc) (λ u pos known same. absurd cc) (λ u pos known alive same. absurd cc) (λ u pos known asleep same. absurd cc)
    (λ u m p pos known is asleep may same. absurd cc)
    (λ u k x p pos known is there same. absurd cc)
    (λ u o p pos known is awake trims same. absurd cc) (λ u pos known gone same. absurd cc) (λ u m may same. absurd cc)
    (λ u m g sp same. absurd (never_so u sp.by (thread_is u t sp.by by same) (left_is u t sp.by by same) sp.first sp.last (spare_so s u m g queued sp)))
    (Spare t by) refl
  where
    thread_is : (u v : ℕ) (a b : LeftTo) → Spare u a ≡ Spare v b → u ≡ v
    thread_is u v a b e = cc

    left_is : (u v : ℕ) (a b : LeftTo) → Spare u a ≡ Spare v b → a ≡ b
    left_is u v a b e = cc

    never_so : (u : ℕ) (a : LeftTo) → u ≡ t → a ≡ by → 1 ≤ u → u ≤ s.layout.threads → MaySpare s u a → ⊥
    never_so u a same left = subst (λ (z : ℕ × LeftTo). 1 ≤ z.0 → z.0 ≤ s.layout.threads → MaySpare s z.0 z.1 → ⊥) (λ i. (sym same i, sym left i)) never
