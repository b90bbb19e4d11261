-- One access of a walk, and what that is of a thread's access.
use Rattle.std.proofs.Common.{◌≡◌, ◌≢◌, ◌⊎◌, ⊎_elim, inl, inr, ℕ, ◌+◌, ◌<◌, ◌≤◌, false, Option, Some, None, refl, sym, ap, ◌∙◌, subst, arith, ◌==◌, Bool, true, eqb-true, eq-eqb}
use Rattle.protocol.proofs.Vocabulary.{Rest, Part, LoadFirst, LoadOffset, LoadPending, LoadNext, LoadWord, Mark, WakeOne, Object, Layout', head_place, cell_place, word_among}
use Rattle.protocol.proofs.Vocabulary.{changed, answer_at, sleeps_at, Fields, fields_of, Stage, State, told_of, seen, IsUnowned, Access, Operation, place_met}
use Rattle.protocol.proofs.Vocabulary.{sum_of, entry_place, place_in, object_of, if◌then◌else◌, ◌||◌}
use Rattle.exitwalk.specs.declared.row.Row.{Row}
use Rattle.exitwalk.specs.declared.row.Row.TheVariants.{Ended}
use Rattle.exitwalk.specs.Walks.{Knows, IsGoing, row_access, forward, further}
use Rattle.exitwalk.specs.Ranks.{left_alone}
use Rattle.exitwalk.specs.Steps.{Right, IsTrueOf}
use Rattle.exitwalk.proofs.Steps.{steps}
use Rattle.protocol.proofs.Puts.{by_put, put-same, put-other}
use Rattle.protocol.proofs.Kept.{LeftToWalk, Kept}
use Rattle.protocol.proofs.Places.{head_is_no_cell, treated_at}
use Rattle.protocol.proofs.Steps.{Tells, Transition, met_no_move, met, seen-inside}
use Rattle.protocol.proofs.WalkSteps.{walk_of, or_first, by_walked, walk_access, walk_answer, row_then, death_then, walk_no_move, walk_transition, walk_after, DeathTells, WalkStep, walk_step, walk_word}
use Rattle.protocol.proofs.Stepping.{Minds, AnswersAs, left_of, HasWaiters, Moves_none, Continues, Settles, Wakes_there, Answers_now, Found_free, Stepping}
use Rattle.protocol.proofs.Cases.{by_same}
use Rattle.protocol.proofs.Seeing.{head_in, entry_in, cell_in, words_in, not_null, cell_before}
use Rattle.mutex.proofs.Addresses.{head_word_again}
use Rattle.protocol.proofs.CallSteps.{free_field}

-- it wakes one that sleeps on mutex m
abbrev IsWaking : ℕ → Row → Type 0
IsWaking cell (WakeOne at rest) = at ≡ cell
IsWaking cell r = ⊥

waking_or : (cell : ℕ) (r : Row) → IsWaking cell r ⊎ (IsWaking cell r → ⊥)
waking_or cell (WakeOne at rest) = grind (arith)
waking_or cell r = inr (λ h. h)

waking_is : (cell h : ℕ) (r : Row) → IsWaking cell r → row_access h r ≡ Access.Wake cell 1
waking_is cell h (WakeOne at rest) is = ap (λ (x : ℕ). Access.Wake x 1) is
waking_is cell h r is = absurd is

-- a walk falls asleep nowhere
pub walks_awake : (h : ℕ) (r : Row) (w : ℕ) → sleeps_at (row_access h r) w ≡ false
walks_awake h r w = grind (arith)

-- a mutex that a walk answers for, in words with the same pending entry
same_minds : (l : Layout') (words words' : ℕ → ℕ) (m t : ℕ) (r : Row) → words' (head_place t + 2) ≡ words (head_place t + 2) → Minds l words m t r → Minds l words' m t r
same_minds l words words' m t r same h = grind (arith)

-- who answers, in words with the same pending entry
pub same_answers : (l : Layout') (words words' : ℕ → ℕ) (m t : ℕ) (g : Stage) → words' (head_place t + 2) ≡ words (head_place t + 2) → AnswersAs l words m t g → AnswersAs l words' m t g
same_answers l words words' m t g same h = grind (arith)

-- a walk is answered truly
true_answer : (s : State) (t : ℕ) (r : Row) → IsGoing r → IsTrueOf (row_access (head_in s.layout t) r) (s.words (place_met s.layout t (row_access (head_in s.layout t) r))) (walk_answer s t r)
true_answer s t r going = grind (arith)

-- something is left of a walk that hasn't ended
some_left : (words : ℕ → ℕ) (r : Row) → IsGoing r → 0 < left_alone words r
some_left words r going = grind (arith)

module _ (s : State) (t : ℕ) (r : Row) (inv : Kept s) (pos : 1 ≤ t) (known : t ≤ s.layout.threads) (going : IsGoing r) (knows : Knows t (head_in s.layout t) r) (left : LeftToWalk s t r) where
  abbrev step : WalkStep s t r
  step = walk_step s t inv pos known r going knows left

  abbrev v : Transition
  v = walk_transition s t r

  abbrev s' : State
  s' = walk_after s t r

  abbrev q : Row
  q = row_then s t r

  -- ---- which mutexes it answers for then
  minds_forward : (m : ℕ) (z : Rest) → z.offset ≡ 18446744073709551615 → z.pending ≡ entry_in s.layout t m → m < s.layout.mutexes → Minds s.layout s.words m t (forward (head_in s.layout t) z)
  minds_forward m z offset pends inside = go (z.entry == head_in s.layout t || z.loaded == 2048) (z.pending == 0) refl
    where
      go : (a b : Bool) → (z.pending == 0) ≡ b → Minds s.layout s.words m t (if a then (if b then Ended else LoadWord (sum_of z.pending z.offset) Part.Pending) else LoadNext z)
      go true true none = absurd (not_null s.layout t inv.layout pos known (entry_place s.layout m) (omega arith) (omega arith) (sym pends ∙ eqb-true z.pending 0 none))
      go true false some = ap (sum_of z.pending) offset ∙ ap (λ (e : ℕ). sum_of e 18446744073709551615) pends ∙ cell_before s.layout t inv.layout pos known m inside
      go false b e = pends

  minds_then : (z : Row) → LeftToWalk s t z → Knows t (head_in s.layout t) z → (m : ℕ) → m < s.layout.mutexes → IsUnowned s m → Minds s.layout s.words m t z → (IsWaking (cell_in s.layout t m) z → ⊥) → Minds s.layout s.words m t (row_then s t z)
  minds_then LoadFirst l k m inside none h silent = h
  minds_then (LoadOffset f) l k m inside none h silent = h
  minds_then (LoadPending f o) l k m inside none h silent =
      minds_forward m (record { entry = f; offset = o; pending = s.words (place_in s.layout t (sum_of (head_in s.layout t) 2)); loaded = 0 }) l.1 (ap s.words (head_word_again s.layout t inv.layout pos known 2 (omega arith)) ∙ h) inside
  minds_then (LoadNext z) l k m inside none h silent = grind (arith, minds_forward m (further z (s.words (place_in s.layout t z.entry))) l.2 h inside)
  minds_then (LoadWord at (Part.List z)) l k m inside none h silent = grind (arith, minds_forward m z l.2.2 h inside)
  minds_then (LoadWord at Part.Pending) l k m inside none h silent =
      subst (λ (b : Bool). Minds s.layout s.words m t (if b then WakeOne at Part.Pending else if (fields_of w).owner == t then Mark at w false Part.Pending else Ended)) (sym (eq-eqb (fields_of w).owner 0 free)) h
    where
      w : ℕ
      w = s.words (place_in s.layout t at)

      free : (fields_of w).owner ≡ 0
      free = free_field w (ap (λ (x : ℕ). (object_of (fields_of (s.words x))).owner) (treated_at s t inv.layout pos known at m (inside, h)) ∙ sym (ap (λ (z : Object). z.owner) (seen-inside s m inside)) ∙ none)
  minds_then (Mark at v again (Part.List z)) l k m inside none h silent = grind (arith, minds_forward m z l.2.2 h inside)
  minds_then (Mark at v again Part.Pending) l k m inside none h silent = absurd h
  minds_then (WakeOne at (Part.List z)) l k m inside none h silent = minds_forward m z l.2.2 (⊎_elim (λ here. absurd (silent here)) (λ pends. pends) h) inside
  minds_then (WakeOne at Part.Pending) l k m inside none h silent = absurd (silent h)
  minds_then Ended l k m inside none h silent = absurd h

  -- ---- what the access leaves

  abbrev at_place : ℕ
  at_place = place_met s.layout t (walk_access s t r)

  -- WAITERS stays as it is in every cell
  same_waiters : (k : ℕ) → (fields_of (s'.words (cell_place s.layout k))).waiters ≡ (fields_of (s.words (cell_place s.layout k))).waiters
  same_waiters k =
      by_put (λ x. (fields_of x).waiters ≡ (fields_of (s.words (cell_place s.layout k))).waiters) s.words at_place (word_among (walk_access s t r) (s.words at_place) (s.queues at_place)) (cell_place s.layout k)
      (λ here. ap (λ (x : ℕ). (fields_of x).waiters) (walk_word (head_in s.layout t) r (s.words at_place) (s.queues at_place)) ∙ ⊎_elim (λ same. ap (λ (x : ℕ). (fields_of x).waiters) same) (λ died. ap (λ (c : Fields). c.waiters) died.cell) law.changes ∙ ap (λ (x : ℕ). (fields_of (s.words x)).waiters) (sym here))
      (λ apart. refl)
    where
      law : Right t r (answer_at (walk_access s t r) (s.words at_place)) (s.words at_place) (changed (walk_access s t r) (s.words at_place))
      law = steps.right t (head_in s.layout t) (s.words at_place) r pos going knows

  -- and every pending word
  pub pending_stays : (u : ℕ) → 1 ≤ u → u ≤ s.layout.threads → s'.words (head_place u + 2) ≡ s.words (head_place u + 2)
  pending_stays u first most = go (death_then s t r) refl
    where
      go : (d : Option ℕ) → death_then s t r ≡ d → s'.words (head_place u + 2) ≡ s.words (head_place u + 2)
      go None e = step.reads e (head_place u + 2)
      go (Some k) e = put-other s.words at_place (word_among (walk_access s t r) (s.words at_place) (s.queues at_place)) (head_place u + 2) (λ same. head_is_no_cell s.layout u k 2 first most (omega arith) (same ∙ step.place k e))

  awake : sleeps_at v.access (met s t v) ≡ false
  awake = walks_awake (head_in s.layout t) r (met s t v)

  -- a walk that answers for a mutex hasn't ended
  minds_on : (k : ℕ) → Minds s.layout s'.words k t q → Continues s t v k
  minds_on k minds = (awake, by_walked (AnswersAs s.layout s'.words k t) (walk_of s.layout t r) q (λ ended. absurd (subst (Minds s.layout s'.words k t) ended minds)) (λ going. minds))

  -- a mutex of which it tells no death
  quiet : (k : ℕ) → k < s.layout.mutexes → seen s' k ≡ seen s k → IsUnowned s' k → Settles s t v k
  quiet k inside same none =
      let free : IsUnowned s k = sym (ap (λ (o : Object). o.owner) same) ∙ none in
      ⊎_elim (λ waking. Wakes_there 1 (omega arith) (waking_is (cell_in s.layout t k) (head_in s.layout t) r waking))
      (λ silent. Found_free free (λ minds. minds_on k (same_minds s.layout s.words s'.words k t q (pending_stays t pos known) (minds_then r left knows k inside free minds silent))))
      (waking_or (cell_in s.layout t k) r)

  settled : (k : ℕ) → k < s.layout.mutexes → IsUnowned s' k → HasWaiters s' k → Settles s t v k
  settled k inside none on = go (death_then s t r) refl step.tells
    where
      wake_minds : (rest : Part) → Minds s.layout s'.words k t (WakeOne (cell_in s.layout t k) rest)
      wake_minds (Part.List z) = inl refl
      wake_minds Part.Pending = refl

      go : (d : Option ℕ) → death_then s t r ≡ d → DeathTells s t d s' → Settles s t v k
      go None e tells = quiet k inside (tells k) none
      go (Some j) e tells =
          by_same k j
          (λ same.
          let wakes = step.wakes k (e ∙ ap Some (sym same)) (sym (same_waiters k) ∙ on) in
          Answers_now (minds_on k (subst (Minds s.layout s'.words k t) (sym wakes.1) (wake_minds wakes.0))))
          (λ apart. quiet k inside (tells.2 k apart) none)

  told : (d : Option ℕ) → DeathTells s t d s' → (or_first d < s.layout.mutexes) × Tells t (seen s (or_first d)) Operation.Death (told_of d) (seen s' (or_first d)) × ((k : ℕ) → k ≢ or_first d → seen s' k ≡ seen s k)
  told None tells = ((let some = inv.layout.mutexes.0 in omega arith), tells 0, λ k apart. tells k)
  told (Some k) tells = tells

  pub walk_stepping : Stepping s t v
  walk_stepping = record {
    valid = met_no_move s.layout t v.access (walk_no_move (head_in s.layout t) r) ∙ step.valid;
    inside = (told (death_then s t r) step.tells).0;
    kept = step.kept;
    tells = (told (death_then s t r) step.tells).1;
    room = λ x e takes. absurd (cc takes);
    far = (told (death_then s t r) step.tells).2;
    waiters = λ k inside on. inl (same_waiters k ∙ on);
    pendings = λ u first most apart. pending_stays u first most;
    sleeper = λ on. absurd (cc (on, awake));
    asleep = λ on. absurd (cc (on, awake));
    moving = Moves_none (walk_no_move (head_in s.layout t) r);
    settles = settled;
    some = some_left (words_in s.layout t s.words) r going;
    few = let most = (steps.few t (head_in s.layout t) r (words_in s.layout t s.words) knows).1 in omega arith;
    fewer = λ e.
        let less = steps.alone t (head_in s.layout t) r (walk_answer s t r) (words_in s.layout t s.words) (words_in s.layout t s'.words) going knows (true_answer s t r going) (put-same s.words at_place (word_among (walk_access s t r) (s.words at_place) (s.queues at_place)) ∙ walk_word (head_in s.layout t) r (s.words at_place) (s.queues at_place)) in
        by_walked (λ (g : Stage). left_of s' g < left_alone (words_in s.layout t s.words) r) (walk_of s.layout t r) q (λ ended. let some = some_left (words_in s.layout t s.words) r going in omega arith) (λ on. less);
  }
