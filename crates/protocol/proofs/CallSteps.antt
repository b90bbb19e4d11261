-- One access of a call, and what that is of a thread's access.
use Rattle.std.proofs.Common.{◌≡◌, ◌≢◌, ⊎_elim, ◌⊎◌, inl, inr, ℕ, zero, suc, List, [], ◌∷◌, ◌++◌, drop, ◌+◌, ◌<◌, ◌≤◌, Bool, true, false, Some, None, refl, sym, ap, ◌∙◌, subst, arith}
use Rattle.protocol.proofs.Vocabulary.{Access, Object, acquires, object_of, owner_of, word_among, sleeps_at, put, queue_after, Layout', head_place, cell_place, counter_place, Fields, fields_of, Reply, if◌then◌else◌}
use Rattle.protocol.proofs.Vocabulary.{Phase, AtCell, is_wake, Whole, whole_access, Op, mutex_of, OnMutex, OnCondition, Calling, State, is_valid, place_met, stage_after, seen}
use Rattle.protocol.proofs.Vocabulary.{IsUnowned, LockRow, owner_of-none}
use Rattle.memorymap.specs.Chains.{IsAmong}
use Rattle.mutex.specs.declared.row.Row.TheVariants.{Lock}
use Rattle.protocol.specs.Machine.{places_of}
use Rattle.protocol.proofs.Puts.{by_put, put-same}
use Rattle.protocol.proofs.Phases.{answers_at, left_at, Moves, IsPlain}
use Rattle.protocol.proofs.Places.{IsMine}
use Rattle.protocol.proofs.Seeing.{cell_in}
use Rattle.protocol.proofs.Kept.{InPhase, Fits, Kept}
use Rattle.protocol.proofs.Steps.{Transition, IsNoMove, joined_none, met_queue, met_no_move, seen-inside, Tells, onto, after, place_of, met, call_step}
use Rattle.protocol.proofs.Arrivals.{ended_or_not}
use Rattle.protocol.proofs.Stepping.{SleepsAs, AnswersAs, left_of, HasWaiters, Moves_none, Settles, Wakes_there, Answers_now, Found_free, Stepping}
use Rattle.protocol.proofs.Cases.{by_same, at_or_else}

-- what it leaves: of its mutex, and of all else; and what holds of every state holds then
pub record CallStep (s : State) (t : ℕ) (c : Op) (p : Whole) : Type 0 where
  pub valid : is_valid s.layout (place_met s.layout t (whole_access p)) ≡ true
  pub no_move : IsNoMove (whole_access p)
  -- it loads or stores a word of its thread's own, or is at its mutex's cell
  pub meets : (IsPlain (whole_access p) × IsMine s t (place_met s.layout t (whole_access p))) ⊎ (place_met s.layout t (whole_access p) ≡ cell_place s.layout (mutex_of s.layout c))
  pub kept : Kept (after s t (call_step s t c p))
  pub moves : Moves t p (onto s t p) (s.words (cell_place s.layout (mutex_of s.layout c))) (s.queues (cell_place s.layout (mutex_of s.layout c))) ((after s t (call_step s t c p)).words (cell_place s.layout (mutex_of s.layout c)))
  -- it sleeps and wakes at its mutex's cell only
  pub same_sleep : sleeps_at (whole_access p) (met s t (call_step s t c p)) ≡ sleeps_at (whole_access p) (s.words (cell_place s.layout (mutex_of s.layout c)))
  pub place : sleeps_at (whole_access p) (met s t (call_step s t c p)) ≡ true → place_met s.layout t (whole_access p) ≡ cell_place s.layout (mutex_of s.layout c)
  pub wakes : is_wake (whole_access p) ≡ true → (n : ℕ) × (1 ≤ n) × (whole_access p ≡ Access.Wake (cell_in s.layout t (mutex_of s.layout c)) n)
  -- whoever falls asleep is in a lock that saw the word, and loads it when it is woken
  pub sleeper : sleeps_at (whole_access p) (met s t (call_step s t c p)) ≡ true → (v : Fields) × (p.phase ≡ AtCell (Lock (LockRow.Sleep v))) × ((onto s t p).phase ≡ AtCell (Lock LockRow.Load))
  pub tells : Tells t (seen s (mutex_of s.layout c)) p.operation (onto s t p).point (seen (after s t (call_step s t c p)) (mutex_of s.layout c))
  pub room : (x : Reply) → (onto s t p).point ≡ Some x → acquires p.operation ≡ true → (s.threads t).held < 2048
  pub far : (k : ℕ) → k ≢ mutex_of s.layout c → seen (after s t (call_step s t c p)) k ≡ seen s k
  pub cells : (k : ℕ) → k < s.layout.mutexes → k ≢ mutex_of s.layout c → (after s t (call_step s t c p)).words (cell_place s.layout k) ≡ s.words (cell_place s.layout k)
  pub pendings : (u : ℕ) → 1 ≤ u → u ≤ s.layout.threads → t ≢ u → (after s t (call_step s t c p)).words (head_place u + 2) ≡ s.words (head_place u + 2)
  pub counters : (k : ℕ) → (after s t (call_step s t c p)).words (counter_place s.layout k) ≡ s.words (counter_place s.layout k)

-- ---- how many accesses are left of a call

pub few_at : (f : Phase) (w : ℕ) → left_at f w ≤ 62
few_at f w = grind (arith)

-- something is left of a call that hasn't returned
some_at : (t held : ℕ) (p : Whole) (f : Phase) (w : ℕ) (o : Object) → InPhase t held p f o → 0 < left_at f w
some_at t held p f w o stands = grind (arith)

-- ---- a call's access is a thread's

-- a call's thread may sleep on its mutex's cell
pub sleeps_on_cell : (l : Layout') (o : Op) (p : Whole) → IsAmong (cell_place l (mutex_of l o)) (places_of l (Calling o p))
sleeps_on_cell l (OnMutex c) p = inl refl
sleeps_on_cell l (OnCondition c) p = inl refl

-- a wait changes no word
sleeps_unchanged : (a : Access) (w : ℕ) (q : List ℕ) → sleeps_at a w ≡ true → word_among a w q ≡ w
sleeps_unchanged (Access.Wait at e) w q on = refl
sleeps_unchanged a w q on = absurd cc

-- where nobody sleeps and nobody falls asleep, nobody sleeps then
none_left : (n : ℕ) → drop {A = ℕ} n [] ≡ []
none_left zero = refl
none_left (suc n) = refl

still_empty : (t : ℕ) (a : Access) (w : ℕ) → IsNoMove a → sleeps_at a w ≡ false → queue_after t a w [] ≡ []
still_empty t (Access.Wait at e) w none quiet = ap (λ (b : Bool). if b then [] ++ t ∷ [] else []) quiet
still_empty t (Access.Wake at n) w none quiet = none_left n
still_empty t (Access.Requeue from n to k) w none quiet = absurd none
still_empty t (Access.CmpRequeue from e n to k) w none quiet = absurd none
still_empty t a w none quiet = refl

-- an owner field of nobody is 0
pub free_field : (w : ℕ) → (object_of (fields_of w)).owner ≡ None → (fields_of w).owner ≡ 0
free_field w none = owner_of-none (fields_of w).owner none

module _ (s : State) (t : ℕ) (c : Op) (p : Whole) (g : CallStep s t c p) (fits : Fits s t (s.threads t).held (mutex_of s.layout c) p) where
  abbrev m : ℕ
  m = mutex_of s.layout c

  abbrev v : Transition
  v = call_step s t c p

  abbrev s' : State
  s' = after s t v

  abbrev w : ℕ
  w = s.words (cell_place s.layout m)

  abbrev w' : ℕ
  w' = s'.words (cell_place s.layout m)

  abbrev f : Phase
  f = (onto s t p).phase

  -- the accesses that are left
  left_then : left_of s' (stage_after c p f) ≡ left_at f w'
  left_then = ⊎_elim (λ ended. ap (λ (x : Phase). left_of s' (stage_after c p x)) ended.1 ∙ sym (ap (λ (x : Phase). left_at x w') ended.1)) (λ on. ap (left_of s') (on c p)) (ended_or_not f)

  answers_then : answers_at f ≡ true → AnswersAs s.layout s'.words m t (stage_after c p f)
  answers_then e = ⊎_elim (λ ended. absurd (cc (sym (ap answers_at ended.1) ∙ e))) (λ on. subst (AnswersAs s.layout s'.words m t) (sym (on c p)) (refl, e)) (ended_or_not f)

  -- where nobody sleeps on a cell that nobody owns, nobody sleeps there then
  unslept : s.queues (cell_place s.layout m) ≡ [] → (fields_of w).owner ≡ 0 → s'.queues (cell_place s.layout m) ≡ []
  unslept nobody free = ap (λ (qs : ℕ → List ℕ). qs (cell_place s.layout m)) (joined_none s.layout t v.access _ (put s.queues (place_of s t v) (queue_after t v.access (met s t v) (met_queue s t v))) g.no_move)
      ∙ by_put (λ (x : List ℕ). x ≡ []) s.queues (place_of s t v) (queue_after t v.access (met s t v) (met_queue s t v)) (cell_place s.layout m) here (λ apart. nobody)
    where
      awake : (b : Bool) → sleeps_at v.access (met s t v) ≡ b → sleeps_at v.access (met s t v) ≡ false
      awake true on = absurd (let some = (g.moves.sleeps (sym g.same_sleep ∙ on)).0 in omega (arith, free, some))
      awake false off = off

      here : cell_place s.layout m ≡ place_of s t v → queue_after t v.access (met s t v) (met_queue s t v) ≡ []
      here is = ap (queue_after t v.access (met s t v)) (ap s.queues (sym is) ∙ nobody) ∙ still_empty t v.access (met s t v) g.no_move (awake (sleeps_at v.access (met s t v)) refl)

  waits : (k : ℕ) → k < s.layout.mutexes → HasWaiters s k → HasWaiters s' k ⊎ ((s'.queues (cell_place s.layout k) ≡ []) × IsUnowned s k)
  waits k inside =
      at_or_else (λ (j : ℕ). HasWaiters s j → HasWaiters s' j ⊎ ((s'.queues (cell_place s.layout j) ≡ []) × IsUnowned s j)) m k
      (λ on. ⊎_elim inl (λ free. inr (unslept free.0 free.1, ap (λ (o : Object). o.owner) (seen-inside s m fits.inside) ∙ ap owner_of free.1)) (g.moves.waiters on))
      (λ apart on. inl (ap (λ (x : ℕ). (fields_of x).waiters) (g.cells k inside apart) ∙ on))

  -- on its cell, that is owned and has WAITERS
  owned_there : sleeps_at v.access (met s t v) ≡ true → (k : ℕ) → k < s.layout.mutexes → place_of s t v ≡ cell_place s.layout k → HasWaiters s k × (IsUnowned s k → ⊥)
  owned_there on k inside at = grind (arith)

  settled : (k : ℕ) → k < s.layout.mutexes → IsUnowned s' k → HasWaiters s' k → Settles s t v k
  settled k inside none on =
      by_same k m (λ is. here is (is_wake v.access) refl (sleeps_at v.access (met s t v)) refl)
      (λ apart. Found_free (sym (ap (λ (o : Object). o.owner) (g.far k apart)) ∙ none) (λ before. absurd (apart (sym before.0))))
    where
      free_then : k ≡ m → (fields_of w').owner ≡ 0
      free_then is = free_field w' (sym (ap (λ (o : Object). o.owner) (seen-inside s' m fits.inside)) ∙ subst (IsUnowned s') is none)

      unowned : k ≡ m → w' ≡ w → IsUnowned s k
      unowned is same = subst (IsUnowned s) (sym is) (ap (λ (o : Object). o.owner) (seen-inside s m fits.inside) ∙ ap owner_of (sym (ap (λ (x : ℕ). (fields_of x).owner) same) ∙ free_then is))

      here : k ≡ m → (a : Bool) → is_wake v.access ≡ a → (b : Bool) → sleeps_at v.access (met s t v) ≡ b → Settles s t v k
      here is true e b z = let wakes = g.wakes e in Wakes_there wakes.0 wakes.1 (wakes.2 ∙ ap (λ (j : ℕ). Access.Wake (cell_in s.layout t j) wakes.0) (sym is))
      here is false e true z =
          let kept : w' ≡ w = ap (λ (x : ℕ). s'.words x) (sym (g.place z)) ∙ put-same s.words (place_of s t v) _ ∙ sleeps_unchanged v.access (met s t v) (s.queues (place_of s t v)) z ∙ ap s.words (g.place z) in
          let free : (fields_of w).owner ≡ 0 = sym (ap (λ (x : ℕ). (fields_of x).owner) kept) ∙ free_then is in
          absurd (let some = (g.moves.sleeps (sym g.same_sleep ∙ z)).0 in omega (arith, free, some))
      here is false e false z =
          ⊎_elim (λ answers. Answers_now (z, subst (λ (j : ℕ). AnswersAs s.layout s'.words j t v.next) (sym is) (answers_then answers)))
          (λ looks. Found_free (unowned is looks.1) (λ before. absurd (cc (before.1, looks.0))))
          (g.moves.answers e (free_then is) (subst (HasWaiters s') is on))

  pub call_stepping : Stepping s t v
  call_stepping = record {
    valid = met_no_move s.layout t (whole_access p) g.no_move ∙ g.valid;
    inside = fits.inside;
    kept = g.kept;
    tells = g.tells;
    room = g.room;
    far = g.far;
    waiters = waits;
    pendings = g.pendings;
    sleeper = λ on. let row_is = g.sleeper on in subst (SleepsAs s.layout (place_of s t v)) (sym (ap (stage_after c p) row_is.2)) (refl, subst (λ (x : ℕ). IsAmong x (places_of s.layout (Calling c (record p { phase = AtCell (Lock LockRow.Load) })))) (sym (g.place on)) (sleeps_on_cell s.layout c (record p { phase = AtCell (Lock LockRow.Load) })));
    asleep = owned_there;
    moving = Moves_none g.no_move;
    settles = settled;
    some = some_at t (s.threads t).held p p.phase w (seen s m) fits.stands;
    few = let few = few_at p.phase w in omega arith;
    fewer = λ e. let less = g.moves.fewer (sym g.same_sleep ∙ e) in let is = left_then in omega (arith, less, is);
  }
