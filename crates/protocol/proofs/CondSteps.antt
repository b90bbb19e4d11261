-- One access of a call on a condition variable at its words: its mutex's cell and its counter.
use Rattle.std.proofs.Common.{◌≡◌, ◌≢◌, ⊎_elim, inl, inr, ℕ, ◌+◌, ◌<◌, ◌≤◌, ◌==◌, Bool, true, false, not, ◌&&◌, Option, Some, None, List, length, refl, sym, ap, ◌∙◌, subst, arith, eqb-true}
use Rattle.protocol.proofs.Vocabulary.{CondCall, CondRow, Broadcast, CondLed, CondPhase, CondOnward, condition_of, cell_after, counter_after, met_word, CondWhole, after_words, word_among}
use Rattle.protocol.proofs.Vocabulary.{from_words, Access, Object, Operation, changed, answer_at, sleeps_at, IsChainBothWays, Layout', head_place, cell_place}
use Rattle.protocol.proofs.Vocabulary.{counter_place, acquires, object_of, owner_of, owner_of-some, fields_of, Reply, Sound, OnCondition, Stage, AtCondition, mutex_of, State, put}
use Rattle.protocol.proofs.Vocabulary.{is_valid, is_met, stage_at, reply_at, held_after, seen, IsUnowned, Agree, if◌then◌else◌, WaitRow, BroadcastRow, there, decided_at}
use Rattle.protocol.proofs.Vocabulary.{place_in, place_met}
use Rattle.condvar.specs.declared.row.CondRow.TheVariants.{Wait}
use Rattle.condvar.specs.Calls.{acts_as}
use Rattle.condvar.specs.Laws.{IsOf, row_operation, is_at_counter}
use Rattle.condvar.specs.Programs.{row_access, resume_of, point_of}
use Rattle.condvar.specs.Whole.{begins}
use Rattle.protocol.proofs.Puts.{put-same, put-other}
use Rattle.protocol.proofs.Kept.{Needs, Room, AtWordsRow, AtPhase, FitsAt, Sits, left_out_at, Owned, Listed, PendsAs, Kept, last_thread}
use Rattle.protocol.proofs.Places.{mine_is_no_cell, mine_is_no_counter, head_is_no_cell, head_is_no_counter, counter_is_no_cell, counter_is_valid}
use Rattle.mutex.proofs.OwnPlaces.{both_same}
use Rattle.protocol.proofs.Places.{links_mine, list_links}
use Rattle.protocol.proofs.Steps.{is_valid-cell, seen-inside, Tells, Transition, met_no_move, thread_after, after, cond_onto, cond_step, untrimmed, cell_at, counter_at}
use Rattle.protocol.proofs.Frames.{OnlyWaitsFrom, kept_where}
use Rattle.protocol.proofs.CallSteps.{free_field}
use Rattle.protocol.proofs.Stepping.{AnswersAs, Answers_now, SleepsAs, left_of_row, left_of, HasWaiters, wakes_next, Moving, Moves_none, Moves_to, Settles, Wakes_there, Found_free, Stepping}
use Rattle.protocol.proofs.CondRows.{cond_alike, only_waits_sleep, move_or, left_next, pending_next, Fair, fair, cond_no_trim}
use Rattle.protocol.proofs.Cases.{at_or_else, some_same, same_object}
use Rattle.protocol.proofs.Queues.{not_true}
use Rattle.protocol.proofs.Seeing.{head_in, words_in, cell_again, counter_again}
use Rattle.lockword.specs.Threads.{most_threads}

-- the call of thread t in a phase
abbrev pub cond_of : Layout' → ℕ → CondCall → CondPhase → CondWhole
cond_of l t c f = record (begins l t c) { phase = f }

-- this many accesses are left at most of a row
few_of_row : (r : CondRow) → left_of_row r ≤ 9000
few_of_row r = grind (arith)

-- a wait that wakes does so at its cell
wakes_at : (t cell counter : ℕ) (r : CondRow) → wakes_next (CondPhase.AtWords r) ≡ true → row_access t cell counter r ≡ Access.Wake cell 1
wakes_at t cell counter (Wait (WaitRow.Wake seen)) e = refl
wakes_at t cell counter r e = absurd cc

-- and where a call is about to, it has an access at its words next
wakes_on : (p : CondWhole) (q : CondRow) → wakes_next (CondPhase.AtWords q) ≡ true → after_words p q ≡ CondPhase.AtWords q
wakes_on p (Wait (WaitRow.Wake seen)) e = refl
wakes_on p r e = absurd cc

-- ---- where a row leads its thread

module _ (s' : State) (t held : ℕ) (c : CondCall) where
  abbrev l : Layout'
  l = s'.layout

  abbrev m : ℕ
  m = mutex_of l (OnCondition c)

  module _ (f : CondPhase) where
    abbrev from : CondWhole
    from = cond_of l t c f

    listed_at : (q : CondRow) (es : List ℕ) → Owned s' t None es → IsChainBothWays (words_in l t s'.words) (head_in l t) es → Listed s' t (stage_at c from (after_words from q))
    listed_at q es owned ch = grind (arith)

    pends_at : (q : CondRow) (x : ℕ) → x ≡ pending_next from.entry q → PendsAs x (stage_at c from (after_words from q))
    pends_at q x is = grind (arith)

    left_at_row : (q : CondRow) → left_of s' (stage_at c from (after_words from q)) ≤ left_next q
    left_at_row q = grind (arith)

    module _ (inside : m < l.mutexes) (known : condition_of c < length l.conditions) where
      pub fit_at : (g : CondPhase) → AtPhase t held (acts_as c) from g (fields_of (s'.words (cell_place l m))) → FitsAt s' t held c (record from { phase = g })
      fit_at g stands = grind (arith)

      sits_at : (q : CondRow) → IsOf (acts_as c) q → Needs t q (fields_of (s'.words (cell_place l m))) → Room held q → Sits s' t held (stage_at c from (after_words from q))
      sits_at q same needs room = grind (arith)

-- ---- the access of a row

module _ (s : State) (t : ℕ) (c : CondCall) (r : CondRow) (inv : Kept s) (pos : 1 ≤ t) (known : t ≤ s.layout.threads) (fits : FitsAt s t (s.threads t).held c (cond_of s.layout t c (CondPhase.AtWords r))) where
  abbrev whole : CondWhole
  whole = cond_of s.layout t c (CondPhase.AtWords r)

  abbrev k : ℕ
  k = mutex_of s.layout (OnCondition c)

  abbrev cell : ℕ
  cell = cell_place s.layout k

  abbrev counter : ℕ
  counter = counter_place s.layout (condition_of c)

  -- their addresses
  abbrev cell_there : ℕ
  cell_there = cell_at s t c

  abbrev counter_there : ℕ
  counter_there = counter_at s t c

  abbrev held : ℕ
  held = (s.threads t).held

  abbrev a : Access
  a = row_access t cell_there counter_there r

  abbrev at : ℕ
  at = place_met s.layout t a

  abbrev w : ℕ
  w = s.words cell

  abbrev n : ℕ
  n = s.words counter

  abbrev led_to : CondLed
  led_to = resume_of t r (answer_at a (met_word r w n))

  abbrev o : CondOnward
  o = cond_onto s t whole

  abbrev v : Transition
  v = cond_step s t c whole

  abbrev s' : State
  s' = after s t v

  abbrev w' : ℕ
  w' = cell_after t cell_there counter_there r w

  abbrev stands : AtWordsRow t held (acts_as c) r (fields_of w)
  stands = fits.stands

  apart : counter ≢ cell
  apart = counter_is_no_cell s.layout k (condition_of c) fits.inside

  counter_is : place_in s.layout t counter_there ≡ counter
  counter_is = counter_again s.layout t inv.layout pos known (condition_of c) fits.there

  cell_is : place_in s.layout t cell_there ≡ cell
  cell_is = cell_again s.layout t inv.layout pos known k fits.inside

  -- by where it is
  pub at_either : at ≡ (if is_at_counter r then counter else cell)
  at_either = ap (place_in s.layout t) (there t cell_there counter_there r) ∙ go (is_at_counter r)
    where
      go : (b : Bool) → place_in s.layout t (if b then counter_there else cell_there) ≡ (if b then counter else cell)
      go true = counter_is
      go false = cell_is

  at_counter : is_at_counter r ≡ true → at ≡ counter
  at_counter e = at_either ∙ ap (λ (b : Bool). if b then counter else cell) e

  at_cell : is_at_counter r ≡ false → at ≡ cell
  at_cell e = at_either ∙ ap (λ (b : Bool). if b then counter else cell) e

  either : (x : ℕ) → x ≢ cell → x ≢ counter → x ≢ at
  either x no_cell no_counter is = go (is_at_counter r) (is ∙ at_either)
    where
      go : (b : Bool) → x ≡ (if b then counter else cell) → ⊥
      go true e = no_counter e
      go false e = no_cell e

  pub met_is : s.words at ≡ met_word r w n
  met_is = ap s.words at_either ∙ go (is_at_counter r)
    where
      go : (b : Bool) → s.words (if b then counter else cell) ≡ (if b then n else w)
      go true = refl
      go false = refl

  pub leads : o ≡ from_words whole led_to
  leads = ap (from_words whole) (cond_alike t cell_there counter_there r (s.words at) (s.queues at) ∙ ap (λ (x : ℕ). resume_of t r (answer_at a x)) met_is)

  word_here : s'.words cell ≡ w'
  word_here = go (is_at_counter r) refl
    where
      go : (b : Bool) → is_at_counter r ≡ b → s'.words cell ≡ w'
      go true e = put-other s.words at (word_among a (s.words at) (s.queues at)) cell (λ is. apart (sym (is ∙ at_counter e))) ∙ ap (λ (b : Bool). if b then w else changed a w) (sym e)
      go false e = ap (λ (y : ℕ). put s.words y (word_among a (s.words y) (s.queues y)) cell) (at_cell e) ∙ put-same s.words cell (word_among a w (s.queues cell)) ∙ untrimmed a w (s.queues cell) (cond_no_trim t cell_there counter_there r) ∙ ap (λ (b : Bool). if b then w else changed a w) (sym e)

  pub counter_here : s'.words counter ≡ counter_after t cell_there counter_there r n
  counter_here = go (is_at_counter r) refl
    where
      go : (b : Bool) → is_at_counter r ≡ b → s'.words counter ≡ counter_after t cell_there counter_there r n
      go true e = ap (λ (y : ℕ). put s.words y (word_among a (s.words y) (s.queues y)) counter) (at_counter e) ∙ put-same s.words counter (word_among a n (s.queues counter)) ∙ untrimmed a n (s.queues counter) (cond_no_trim t cell_there counter_there r) ∙ ap (λ (b : Bool). if b then changed a n else n) (sym e)
      go false e = put-other s.words at (word_among a (s.words at) (s.queues at)) counter (λ is. apart (is ∙ at_cell e)) ∙ ap (λ (b : Bool). if b then changed a n else n) (sym e)

  word_there : (x : ℕ) → x ≢ cell → x ≢ counter → s'.words x ≡ s.words x
  word_there x no_cell no_counter = put-other s.words at (word_among a (s.words at) (s.queues at)) x (either x no_cell no_counter)

  pub before : seen s k ≡ object_of (fields_of w)
  before = seen-inside s k fits.inside

  pub here : seen s' k ≡ object_of (fields_of w')
  here = seen-inside s' k fits.inside ∙ ap (λ (x : ℕ). object_of (fields_of x)) word_here

  cells_there : (j : ℕ) → j < s.layout.mutexes → j ≢ k → s'.words (cell_place s.layout j) ≡ s.words (cell_place s.layout j)
  cells_there j below other = word_there (cell_place s.layout j) (λ e. other (omega (arith, e))) (λ e. counter_is_no_cell s.layout j (condition_of c) below (sym e))

  far : (j : ℕ) → j ≢ k → seen s' j ≡ seen s j
  far j other = same_object s.layout s.words s'.words j (λ inside. cells_there j inside other)

  is_fair : Fair t cell_there held r led_to w w'
  is_fair = fair t cell_there counter_there held w n r pos (last_thread s t inv known) stands.going (subst Sound before (inv.sound k)) stands.needs stands.room

  -- what its point is
  abbrev op : Operation
  op = decided_at (row_operation r) (point_of t cell_there led_to.decided)

  abbrev point : Option Reply
  point = reply_at (point_of t cell_there led_to.decided)

  point_is : (op ≡ v.operation) × (point ≡ v.point)
  point_is = ((λ i. decided_at (stands.of i) (sym leads i).point), (λ i. reply_at (sym leads i).point))

  tells : Tells t (seen s k) v.operation v.point (seen s' k)
  tells =
      subst (λ (z : Operation × Option Reply). Tells t (seen s k) z.0 z.1 (seen s' k)) (λ i. (point_is.0 i, point_is.1 i))
      (subst (λ (z : Object × Object). Tells t z.0 op point z.1) (λ i. (sym before i, sym here i)) is_fair.tells)

  takes_none : acquires v.operation ≡ false
  takes_none = ap acquires (sym point_is.0) ∙ is_fair.takes_none

  abbrev held' : ℕ
  held' = held_after held op point

  held_is : held' ≡ held_after held v.operation v.point
  held_is = λ i. held_after held (point_is.0 i) (point_is.1 i)

  next_is : stage_at c whole (after_words whole led_to.row) ≡ v.next
  next_is = ap (λ (z : CondOnward). stage_at c whole z.phase) (sym leads)

  sits : Sits s' t held' (stage_at c whole (after_words whole led_to.row))
  sits =
      sits_at s' t held' c (CondPhase.AtWords r) fits.inside fits.there led_to.row (subst (λ (x : Operation). IsOf x led_to.row) stands.of is_fair.stays)
      (subst (λ (x : ℕ). Needs t led_to.row (fields_of x)) (sym word_here) is_fair.needs) (is_fair.room (inv.heads t pos known).few)

  owned_then : (es : List ℕ) → Owned s t (left_out_at k (CondPhase.AtWords r)) es → Owned s' t None es
  owned_then es owned = ⊎_elim still frees (is_fair.frees k)
    where
      still : (left_out_at k (CondPhase.AtWords r) ≡ None) × ((fields_of w').owner ≡ (fields_of w).owner) → Owned s' t None es
      still h = record {
        entries = λ x among. let e = owned.entries x among in (e.0, e.1, e.2, same e.0 ∙ e.3, λ none. cc none);
        all = λ j below mine none. owned.all j below (sym (same j) ∙ mine) (λ e. cc (e, h.0));
      }
        where
          same : (j : ℕ) → (seen s' j).owner ≡ (seen s j).owner
          same j =
              at_or_else (λ (i : ℕ). (seen s' i).owner ≡ (seen s i).owner) k j (ap (λ (z : Object). z.owner) here ∙ ap owner_of h.1 ∙ sym (ap (λ (z : Object). z.owner) before))
              (λ other. ap (λ (z : Object). z.owner) (far j other))

      frees : (left_out_at k (CondPhase.AtWords r) ≡ Some k) × ((fields_of w').owner ≡ 0) → Owned s' t None es
      frees h = record {
        entries = λ x among. let e = owned.entries x among in (e.0, e.1, e.2, ap (λ (z : Object). z.owner) (far e.0 (λ same. e.4 (h.0 ∙ ap Some (sym same)))) ∙ e.3, λ none. cc none);
        all = λ j below mine none.
            let other : j ≢ k = λ same. cc (sym (ap (λ (i : ℕ). (seen s' i).owner) same) ∙ mine, ap (λ (z : Object). z.owner) here ∙ ap owner_of h.1) in
            owned.all j below (sym (ap (λ (z : Object). z.owner) (far j other)) ∙ mine) (λ e. other (sym (some_same k j (sym h.0 ∙ e))));
      }

  waits_so : (u j : ℕ) → 1 ≤ u → u ≤ s.layout.threads → t ≢ u → j < s.layout.mutexes → (seen s j).owner ≡ Some u → OnlyWaitsFrom (s.words (cell_place s.layout j)) (s'.words (cell_place s.layout j))
  waits_so u j first most other below own =
      inl (at_or_else (λ (i : ℕ). (seen s i).owner ≡ Some u → s'.words (cell_place s.layout i) ≡ s.words (cell_place s.layout i)) k j
      (λ theirs. word_here ∙ ⊎_elim (λ same. same) (λ own_t. absurd (other (some_same t u (sym (mine own_t) ∙ theirs)))) is_fair.touched)
      (λ elsewhere theirs. cells_there j below elsewhere) own)
    where
      mine : (fields_of w).owner ≡ t → (seen s k).owner ≡ Some t
      mine is = ap (λ (z : Object). z.owner) before ∙ ap owner_of is ∙ owner_of-some t pos

  pending : (u : ℕ) → 1 ≤ u → u ≤ s.layout.threads → s'.words (head_place u + 2) ≡ s.words (head_place u + 2)
  pending u first most = word_there (head_place u + 2) (head_is_no_cell s.layout u k 2 first most (omega arith)) (head_is_no_counter s.layout u (condition_of c) 2 first most (omega arith))

  -- what holds of every state holds then
  kept : (s.threads t).stage ≡ AtCondition c whole → Listed s t (AtCondition c whole) → Kept s'
  kept is (es, owned, ch) =
      kept_where s t k a (thread_after s t v) v.operation v.point inv pos known fits.inside far tells refl
      (λ x e takes. absurd (cc (takes, takes_none)))
      (λ u first most. word_there (head_place u + 1) (head_is_no_cell s.layout u k 1 first most (omega arith)) (head_is_no_counter s.layout u (condition_of c) 1 first most (omega arith)))
      (λ u x first most other mine. word_there x (mine_is_no_cell s u x k first most fits.inside mine) (mine_is_no_counter s u x (condition_of c) first most mine))
      waits_so
      (subst (λ (z : ℕ × Stage). Sits s' t z.0 z.1) (λ i. (held_is i, next_is i)) sits)
      (subst (Listed s' t) next_is (listed_at s' t held' c (CondPhase.AtWords r) led_to.row es (owned_then es owned) (both_same (words_in s.layout t s.words) (words_in s.layout t s'.words) (head_in s.layout t) es agree ch)))
      (subst (PendsAs (s'.words (head_place t + 2))) next_is (pends_at s' t held' c (CondPhase.AtWords r) led_to.row (s'.words (head_place t + 2)) (pending t pos known ∙ subst (PendsAs (s.words (head_place t + 2))) is (inv.heads t pos known).pending ∙ sym (is_fair.pends whole.entry))))
      (subst Sound (sym here) is_fair.sound)
    where
      agree : Agree (head_in s.layout t) es (words_in s.layout t s.words) (words_in s.layout t s'.words)
      agree x on =
          let mine = links_mine s t x (list_links s t inv.layout pos known (left_out_at k (CondPhase.AtWords r)) es x owned on) in
          word_there (place_in s.layout t x) (mine_is_no_cell s t (place_in s.layout t x) k pos known fits.inside mine) (mine_is_no_counter s t (place_in s.layout t x) (condition_of c) pos known mine)

  -- ---- beyond what holds of every state

  met_there : is_met s.layout t a ≡ true
  met_there = ⊎_elim (λ none. met_no_move s.layout t a none ∙ place_valid) (λ move. subst (λ (z : CondRow). is_met s.layout t (row_access t cell_there counter_there z) ≡ true) (sym move.1) moves) (move_or t cell_there counter_there r)
    where
      on_counter : is_valid s.layout counter ≡ true
      on_counter = counter_is_valid s.layout (condition_of c) fits.there

      on_cell : is_valid s.layout cell ≡ true
      on_cell = is_valid-cell s.layout k fits.inside

      place_valid : is_valid s.layout at ≡ true
      place_valid = ap (is_valid s.layout) at_either ∙ go (is_at_counter r)
        where
          go : (b : Bool) → is_valid s.layout (if b then counter else cell) ≡ true
          go true = on_counter
          go false = on_cell

      differ : (b : Bool) → (counter == cell) ≡ b → not b ≡ true
      differ true e = absurd (apart (eqb-true counter cell e))
      differ false e = refl

      moves : (is_valid s.layout (place_in s.layout t counter_there) && (is_valid s.layout (place_in s.layout t cell_there) && not (place_in s.layout t counter_there == place_in s.layout t cell_there))) ≡ true
      moves = (λ i. is_valid s.layout (counter_is i) && (is_valid s.layout (cell_is i) && not (counter_is i == cell_is i))) ∙ (λ i. on_counter i && (on_cell i && differ (counter == cell) refl i))

  waiters_then : (j : ℕ) → j < s.layout.mutexes → HasWaiters s j → HasWaiters s' j
  waiters_then j below =
      at_or_else (λ (i : ℕ). HasWaiters s i → HasWaiters s' i) k j (λ on. ap (λ (x : ℕ). (fields_of x).waiters) word_here ∙ is_fair.waiters on)
      (λ other on. ap (λ (x : ℕ). (fields_of x).waiters) (cells_there j below other) ∙ on)

  pub falls_at : sleeps_at a (s.words at) ≡ true → at ≡ counter
  falls_at on = let row_is = only_waits_sleep t cell_there counter_there r (s.words at) on in ap (λ (z : CondRow). place_met s.layout t (row_access t cell_there counter_there z)) row_is.1 ∙ counter_is

  falls : sleeps_at a (s.words at) ≡ true → SleepsAs s.layout at v.next
  falls on =
      let row_is = only_waits_sleep t cell_there counter_there r (s.words at) on in
      subst (SleepsAs s.layout at) next_is
      (subst (λ (z : CondRow). SleepsAs s.layout (place_met s.layout t (row_access t cell_there counter_there z)) (stage_at c (cond_of s.layout t c (CondPhase.AtWords z)) (after_words (cond_of s.layout t c (CondPhase.AtWords z)) (resume_of t z (answer_at (row_access t cell_there counter_there z) (met_word z w n))).row))) (sym row_is.1) (refl, inr (inl counter_is)))

  moving : Moving s t v
  moving = ⊎_elim Moves_none moves (move_or t cell_there counter_there r)
    where
      moves : (seen : ℕ) × (r ≡ Broadcast (BroadcastRow.Move seen)) → Moving s t v
      moves (x, is) =
          let needs : ((fields_of w).owner ≡ t) × ((fields_of w).waiters ≡ true) = subst (λ (z : CondRow). Needs t z (fields_of w)) is stands.needs in
          Moves_to (condition_of c) _ most_threads fits.there refl (ap (row_access t cell_there counter_there) is) needs.1
          (λ none. cc (sym (ap (λ (z : Object). z.owner) before ∙ ap owner_of needs.0 ∙ owner_of-some t pos) ∙ none))

  settled : (j : ℕ) → j < s.layout.mutexes → IsUnowned s' j → HasWaiters s' j → Settles s t v j
  settled j below =
      at_or_else (λ (i : ℕ). IsUnowned s' i → HasWaiters s' i → Settles s t v i) k j settles
      (λ other none on. Found_free (sym (ap (λ (z : Object). z.owner) (far j other)) ∙ none) (λ was. absurd (other (sym was.0))))
    where
      settles : IsUnowned s' k → HasWaiters s' k → Settles s t v k
      settles free_now waits_now =
          let free : (fields_of w').owner ≡ 0 = free_field w' (ap (λ (z : Object). z.owner) (sym here) ∙ free_now) in
          let waits : (fields_of w').waiters ≡ true = ap (λ (x : ℕ). (fields_of x).waiters) (sym word_here) ∙ waits_now in
          ⊎_elim (λ wakes. Wakes_there 1 (omega arith) (wakes_at t cell_there counter_there r wakes))
          (λ rest. ⊎_elim about found rest)
          (is_fair.settles free waits)
        where
          awake : sleeps_at a (s.words at) ≡ true → wakes_next (CondPhase.AtWords led_to.row) ≡ true → ⊥
          awake sleeps wakes =
              let row_is = only_waits_sleep t cell_there counter_there r (s.words at) sleeps in
              cc (sym (ap (λ (z : CondRow). wakes_next (CondPhase.AtWords (resume_of t z (answer_at (row_access t cell_there counter_there z) (met_word z w n))).row)) row_is.1) ∙ wakes)

          quiet : wakes_next (CondPhase.AtWords led_to.row) ≡ true → sleeps_at a (s.words at) ≡ false
          quiet wakes = not_true (sleeps_at a (s.words at)) (λ sleeps. awake sleeps wakes)

          about : wakes_next (CondPhase.AtWords led_to.row) ≡ true → Settles s t v k
          about wakes =
              Answers_now (
                quiet wakes,
                subst (AnswersAs s.layout s'.words k t) next_is
                    (subst (λ (f : CondPhase). AnswersAs s.layout s'.words k t (stage_at c whole f)) (sym (wakes_on whole led_to.row wakes)) (refl, wakes)),
              )

          found : (w' ≡ w) × (wakes_next (CondPhase.AtWords r) ≡ false) → Settles s t v k
          found h = Found_free (ap (λ (z : Object). z.owner) (before ∙ sym (ap (λ (x : ℕ). object_of (fields_of x)) h.0) ∙ sym here) ∙ free_now) (λ was. absurd (cc (was.1, h.1)))

  pub words_stepping : (s.threads t).stage ≡ AtCondition c whole → Listed s t (AtCondition c whole) → Stepping s t v
  words_stepping is listed = record {
    valid = met_there;
    inside = fits.inside;
    kept = kept is listed;
    tells = tells;
    room = λ x e takes. absurd (cc (takes, takes_none));
    far = far;
    waiters = λ j below on. inl (waiters_then j below on);
    pendings = λ u first most other. pending u first most;
    sleeper = falls;
    asleep = λ on j below place. absurd (counter_is_no_cell s.layout j (condition_of c) below (sym (falls_at on) ∙ place));
    moving = moving;
    settles = settled;
    some = let less = is_fair.fewer in omega arith;
    few = few_of_row r;
    fewer = λ quiet. subst (λ (g : Stage). left_of s' g < left_of_row r) next_is (let less = is_fair.fewer in let most = left_at_row s' t held' c (CondPhase.AtWords r) led_to.row in omega arith);
  }
