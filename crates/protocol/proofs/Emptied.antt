-- Whom the event at which a signal or a broadcast returns wakes or moves: the first of its condition variable's queue, or all of them.
use Rattle.std.proofs.Common.{⊎_elim, ◌≡◌, ℕ, zero, suc, ◌+◌, ◌%◌, ◌^◌, ◌≤◌, ◌==◌, Bool, true, false, Option, Some, None, List, [], ◌∷◌, length, drop, refl, sym, ap, ◌∙◌, subst, arith, eqb-true, eq-eqb}
use Rattle.std.proofs.Common.{take, map, ◌++◌}
use Rattle.protocol.proofs.Vocabulary.{Fact, CondCall, CondRow, Broadcast, CondPhase, CondOnward, condition_of, met_word, CondWhole, cond_access, cond_led, after_words, Queue}
use Rattle.protocol.proofs.Vocabulary.{Return, Begun, Condition, Decision, answer_at, Layout', counter_place, Reply, OK, Whole, Op, OnCondition, Stepped, Walked, Stage}
use Rattle.protocol.proofs.Vocabulary.{Calling, AtCondition, Event, Step, facts_of, return_facts, begun_of, State, After, put, start, stands_in, returned_at, led_at, place_in}
use Rattle.protocol.proofs.Vocabulary.{Signal, SignalRow, Again, Note, moves_to, decision, notes}
use Rattle.stepprograms.specs.declared.access.Answer.TheVariants.{Counts}
use Rattle.protocol.specs.PassedBy.{call_told}
use Rattle.protocol.proofs.Vocabulary.{stepped, happens, run, if◌then◌else◌, not, Operation, BroadcastRow, NobodyIsPassedBy}
use Rattle.buckets.specs.Queues.{without}
use Rattle.condvar.specs.declared.row.CondRow.TheVariants.{Ended}
use Rattle.condvar.specs.Calls.{acts_as, operation_of}
use Rattle.condvar.specs.Rows.{IsGoing}
use Rattle.condvar.specs.Laws.{row_operation}
use Rattle.condvar.specs.Programs.{row_access, resume_of}
use Rattle.condvar.specs.Ops.{operation_of as operation_of_op}
use Rattle.protocol.specs.Sleepers.{IsAmong}
use Rattle.protocol.proofs.Puts.{put-same, put-other}
use Rattle.protocol.proofs.Kept.{IsFor, Kept, FitsAt}
use Rattle.protocol.proofs.Places.{counter_is_no_cell}
use Rattle.protocol.proofs.Steps.{went-is, cond_onto, cond_note, its_mutex, its_cell, its_counter, cond_after, cell_at, counter_at}
use Rattle.protocol.proofs.Accesses.{fits_in}
use Rattle.protocol.proofs.Events.{by_event, by_stage}
use Rattle.protocol.proofs.Runs.{start_kept, run_kept, run_layout}
use Rattle.protocol.proofs.QueueRuns.{run_queued}
use Rattle.protocol.specs.Applies.{IsTold}
use Rattle.protocol.proofs.CallsTold.{told_run}
use Rattle.protocol.proofs.PassedBy.{never_passed}
use Rattle.protocol.proofs.Queued.{Queued}
use Rattle.protocol.proofs.CondSteps.{cond_of}
use Rattle.protocol.proofs.CondAccesses.{IsBefore, cond_stepping, fits_at}
use Rattle.protocol.proofs.Counters.{CondMove, By_row, Before_release, cond_moves, KnowsAt, KnowsIn, Counted, start_counted, run_counted}
use Rattle.protocol.proofs.Queues.{Once, first_stands, without_stands, without_same, once_without}
use Rattle.protocol.proofs.NoteFacts.{IsOfSleep, of_access, of_walk}
use Rattle.std.proofs.lemmas.List.{take_all, drop_all}
use Rattle.protocol.proofs.Cases.{some_same}
use Rattle.protocol.proofs.Seeing.{cell_again, counter_again}
use Rattle.lockword.specs.Threads.{most_threads}

-- ---- queues are short

-- whoever is there was there once
one_less : (t : ℕ) (q : List ℕ) → Once q → length q ≤ suc (length (without t q))
one_less t [] once = omega arith
one_less t (u ∷ us) once = go (u == t) refl (one_less t us once.1)
  where
    go : (b : Bool) → (u == t) ≡ b → length us ≤ suc (length (without t us)) → suc (length us) ≤ suc (length (if not b then u ∷ without t us else without t us))
    go true e rest =
        let out : stands_in t us ≡ false = sym (ap (λ (x : ℕ). stands_in x us) (eqb-true u t e)) ∙ once.0 in
        let same : length (without t us) ≡ length us = ap length (without_same t us out) in
        omega (arith, same)
    go false e rest = omega (arith, rest)

pub no_more : (n : ℕ) (q : List ℕ) → Once q → ((u : ℕ) → stands_in u q ≡ true → (1 ≤ u) × (u ≤ n)) → length q ≤ n
no_more n [] once each = omega arith
no_more zero (x ∷ xs) once each = let range = each x (first_stands x xs) in absurd (let first = range.0 in let last = range.1 in omega arith)
no_more (suc n) (x ∷ xs) once each =
    let fewer = no_more n (without (suc n) (x ∷ xs)) (once_without (suc n) (x ∷ xs) once) (λ u stands.
    let there = without_stands (suc n) u (x ∷ xs) stands in
    let range = each u there.0 in
    (range.0, (let last = range.1 in let other = there.1 in omega arith))) in
    let less = one_less (suc n) (x ∷ xs) once in
    omega (arith, fewer, less)

-- ---- returns

pub no_return_walked : (t u : ℕ) (x : Reply) (d : Option ℕ) (ws : List ℕ) (y : Bool) → IsAmong (Return t x) (facts_of (Walked u d ws y)) → ⊥
no_return_walked t u x d ws y = of_walk (λ (fs : List Fact). IsAmong (Return t x) fs → ⊥) u d ws y (λ m fs none. ⊎_elim (λ e. cc e) none) (λ w fs none. ⊎_elim (λ e. cc e) none) (grind (arith))

-- an access that returns tells so
return_said : (t u : ℕ) (x : Reply) (y : Option Reply) → IsAmong (Return t x) (return_facts u y) → y ≡ Some x
return_said t u x y h = grind (arith)

pub returned_noted : (t u m : ℕ) (x : Reply) (d : Option Decision) (k : Option Queue) (ws ms : List ℕ) (y : Option Reply) → IsAmong (Return t x) (facts_of (Stepped u m d k ws ms y)) → y ≡ Some x
returned_noted t u m x d k ws ms y =
    of_access (λ (fs : List Fact). IsAmong (Return t x) fs → y ≡ Some x) u m d k ws ms y (λ e fs said. ⊎_elim (λ same. absurd (cc same)) said)
    (λ f of fs said. ⊎_elim (λ same. absurd (subst (IsOfSleep u) same of)) said) (return_said t u x y)

-- ---- where a broadcast returns OK

ok_row : (p : CondWhole) (r : CondRow) → returned_at (after_words p r) ≡ Some OK → r ≡ Ended OK
ok_row p r e = grind (arith)

-- only its move does so
only_move : (t cell counter w n : ℕ) (r : CondRow) → IsGoing r → row_operation r ≡ Operation.Broadcast → (resume_of t r (answer_at (row_access t cell counter r) (met_word r w n))).row ≡ Ended OK → (seen : ℕ) × (r ≡ Broadcast (BroadcastRow.Move seen))
only_move t cell counter w n r going of e = grind (arith)

-- of a signal its wake
only_wake : (t cell counter w n : ℕ) (r : CondRow) → IsGoing r → row_operation r ≡ Operation.Signal → (resume_of t r (answer_at (row_access t cell counter r) (met_word r w n))).row ≡ Ended OK → r ≡ Signal SignalRow.Wake
only_wake t cell counter w n r going of e = grind (arith)

never_returns : (seen : ℕ) (f : CondPhase) → IsBefore seen f → returned_at f ≡ Some OK → ⊥
never_returns seen f is e = grind (arith)

module _ (s : State) (t : ℕ) (c : CondCall) (p : CondWhole) (inv : Kept s) (queued : Queued s) (counted : Counted s) (pos : 1 ≤ t) (known : t ≤ s.layout.threads) (is : (s.threads t).stage ≡ AtCondition c p) where
  short : length (s.queues (its_counter s c)) ≤ most_threads
  short =
      let few = no_more s.layout.threads (s.queues (its_counter s c)) (queued.once (its_counter s c)) (λ u stands. let slept = queued.sleeps (its_counter s c) u stands in (slept.0, slept.1)) in
      let most = inv.layout.threads.1 in omega (arith, few, most)

  -- the state that a move leaves
  abbrev moved_by_row : ℕ → State
  moved_by_row seen = cond_after s t c (cond_of s.layout t c (CondPhase.AtWords (Broadcast (BroadcastRow.Move seen))))

  fits : FitsAt s t (s.threads t).held c p
  fits = fits_at s t c p inv pos known is

  counter_is : place_in s.layout t (counter_at s t c) ≡ its_counter s c
  counter_is = counter_again s.layout t inv.layout pos known (condition_of c) fits.there

  cell_is : place_in s.layout t (cell_at s t c) ≡ its_cell s c
  cell_is = cell_again s.layout t inv.layout pos known (its_mutex s c) fits.inside

  -- the word that a move compares is as it is to be
  as_counted : (seen : ℕ) → s.words (its_counter s c) ≡ seen + 1 → (s.words (its_counter s c) % 2 ^ 32 == (seen + 1) % 2 ^ 32) ≡ true
  as_counted seen at = eq-eqb (s.words (its_counter s c) % 2 ^ 32) ((seen + 1) % 2 ^ 32) (ap (λ (x : ℕ). x % 2 ^ 32) at)

  emptied : (seen : ℕ) → s.words (its_counter s c) ≡ seen + 1 → (moved_by_row seen).queues (its_counter s c) ≡ []
  emptied seen at =
      (λ i. put (left (counter_is i)) (cell_is i) (left (counter_is i) (cell_is i) ++ moves (counter_is i)) (its_counter s c))
      ∙ put-other (left (its_counter s c)) (its_cell s c) (left (its_counter s c) (its_cell s c) ++ moves (its_counter s c)) (its_counter s c) (counter_is_no_cell s.layout (its_mutex s c) (condition_of c) fits.inside)
      ∙ put-same s.queues (its_counter s c) _
      ∙ ap (λ (b : Bool). if b then drop most_threads (drop 0 (s.queues (its_counter s c))) else s.queues (its_counter s c)) (as_counted seen at)
      ∙ drop_all most_threads (s.queues (its_counter s c)) short
    where
      -- what it leaves where it meets its word, and moves from there
      left : ℕ → ℕ → List ℕ
      left x = put s.queues x (if s.words x % 2 ^ 32 == (seen + 1) % 2 ^ 32 then drop most_threads (drop 0 (s.queues x)) else s.queues x)

      moves : ℕ → List ℕ
      moves x = if s.words x % 2 ^ 32 == (seen + 1) % 2 ^ 32 then take most_threads (drop 0 (s.queues x)) else []

  -- what a move tells
  told_moved : (seen : ℕ) → s.words (its_counter s c) ≡ seen + 1 → facts_of (cond_note s t c (cond_of s.layout t c (CondPhase.AtWords (Broadcast (BroadcastRow.Move seen))))) ≡ map (moves_to (its_mutex s c)) (s.queues (its_counter s c)) ++ Return t OK ∷ []
  told_moved seen at =
      ap (λ (x : ℕ). facts_of (noted x (s.words x % 2 ^ 32 == (seen + 1) % 2 ^ 32))) counter_is
      ∙ ap (λ (b : Bool). facts_of (noted (its_counter s c) b)) (as_counted seen at)
      ∙ ap (λ (us : List ℕ). map (moves_to (its_mutex s c)) us ++ Return t OK ∷ []) (take_all most_threads (s.queues (its_counter s c)) short)
    where
      moving : CondWhole
      moving = cond_of s.layout t c (CondPhase.AtWords (Broadcast (BroadcastRow.Move seen)))

      -- as it is noted, where it meets its word, by whether that is as it is to be
      noted : ℕ → Bool → Note
      noted x b =
          let g = led_at c moving (cond_led moving (if b then Counts (length (take 0 (s.queues x))) (length (take most_threads (drop 0 (s.queues x)))) else Again)) in
          Stepped t (its_mutex s c) (decision t (its_mutex s c) g.operation g.point) None (if b then take 0 (s.queues x) else []) (if b then take most_threads (drop 0 (s.queues x)) else []) g.returned

  -- what a wake tells
  told_woken : facts_of (cond_note s t c (cond_of s.layout t c (CondPhase.AtWords (Signal SignalRow.Wake)))) ≡ map Fact.Wake (take 1 (s.queues (its_counter s c))) ++ Return t OK ∷ []
  told_woken = ap (λ (x : ℕ). map Fact.Wake (take 1 (s.queues x)) ++ Return t OK ∷ []) counter_is

  knows : KnowsAt (s.words (its_counter s c)) p.phase
  knows = subst (KnowsIn s.layout s.words) is (counted.knows t pos known)

  abbrev pub Moved_all : CondWhole → Type 0
  Moved_all y = (facts_of (cond_note s t c y) ≡ map (moves_to (its_mutex s c)) (s.queues (its_counter s c)) ++ Return t OK ∷ []) × ((cond_after s t c y).queues (its_counter s c) ≡ [])

  -- as which it was recorded
  broadcasts : (d : CondCall) → operation_of d ≡ Operation.Broadcast → acts_as d ≡ Operation.Broadcast
  broadcasts (CondCall.Broadcast j) e = refl
  broadcasts (CondCall.Wait j) e = absurd (cc e)
  broadcasts (CondCall.TimedWait j x) e = absurd (cc e)
  broadcasts (CondCall.Signal j) e = absurd (cc e)

  signals : (d : CondCall) → operation_of d ≡ Operation.Signal → acts_as d ≡ Operation.Signal
  signals (CondCall.Signal j) e = refl
  signals (CondCall.Wait j) e = absurd (cc e)
  signals (CondCall.TimedWait j x) e = absurd (cc e)
  signals (CondCall.Broadcast j) e = absurd (cc e)

  pub then_empty : operation_of c ≡ Operation.Broadcast → returned_at (cond_onto s t p).phase ≡ Some OK → Moved_all p
  then_empty of_broadcast back = go (cond_moves s t c inv pos known p is).move
    where
      go : CondMove s t c p → Moved_all p
      go (Before_release seen before later none same) = absurd (never_returns seen (cond_onto s t p).phase later back)
      go (By_row r from going of needs counts leads) =
          let row = only_move t (cell_at s t c) (counter_at s t c) (s.words (its_cell s c)) (s.words (its_counter s c)) r going (of ∙ broadcasts c of_broadcast) (ok_row p _ (sym (ap (λ (g : CondOnward). returned_at g.phase) leads) ∙ back)) in
          let shape : p ≡ cond_of s.layout t c (CondPhase.AtWords (Broadcast (BroadcastRow.Move row.0))) = from ∙ ap (λ (y : CondRow). cond_of s.layout t c (CondPhase.AtWords y)) row.1 in
          let at = subst (λ (y : CondWhole). KnowsAt (s.words (its_counter s c)) y.phase) shape knows in
          subst Moved_all (sym shape) (told_moved row.0 at, emptied row.0 at)

  abbrev pub Woke_first : CondWhole → Type 0
  Woke_first y = facts_of (cond_note s t c y) ≡ map Fact.Wake (take 1 (s.queues (its_counter s c))) ++ Return t OK ∷ []

  pub then_woken : operation_of c ≡ Operation.Signal → returned_at (cond_onto s t p).phase ≡ Some OK → Woke_first p
  then_woken of_signal back = go (cond_moves s t c inv pos known p is).move
    where
      go : CondMove s t c p → Woke_first p
      go (Before_release seen before later none same) = absurd (never_returns seen (cond_onto s t p).phase later back)
      go (By_row r from going of needs counts leads) =
          let row = only_wake t (cell_at s t c) (counter_at s t c) (s.words (its_cell s c)) (s.words (its_counter s c)) r going (of ∙ signals c of_signal) (ok_row p _ (sym (ap (λ (g : CondOnward). returned_at g.phase) leads) ∙ back)) in
          let shape : p ≡ cond_of s.layout t c (CondPhase.AtWords (Signal SignalRow.Wake)) = from ∙ ap (λ (y : CondRow). cond_of s.layout t c (CondPhase.AtWords y)) row in
          subst Woke_first (sym shape) told_woken

-- ---- a step that tells the return of a signal or a broadcast

-- no call on a mutex is one, nor the lock that ends a wait
no_broadcast : (l : Layout') (o : Op) (p : Whole) → IsFor l o p.operation → operation_of_op o ≡ Operation.Broadcast → ⊥
no_broadcast l o p is e = grind (arith)

no_signal : (l : Layout') (o : Op) (p : Whole) → IsFor l o p.operation → operation_of_op o ≡ Operation.Signal → ⊥
no_signal l o p is e = grind (arith)

-- what holds where such a call ends, holds of a step that tells so
module _ (s : State) (t k : ℕ) (b : Begun) (op : Operation) (inv : Kept s) (told : IsTold s.layout (s.threads t).stage (Some b)) (is_op : b.operation ≡ op) (on : b.condition ≡ Some k)
    (no_call : (o : Op) (p : Whole) → IsFor s.layout o p.operation → operation_of_op o ≡ op → ⊥) (Then : After → Type 0)
    (ends : (c : CondCall) (p : CondWhole) → 1 ≤ t → t ≤ s.layout.threads → (s.threads t).stage ≡ AtCondition c p → operation_of c ≡ op → condition_of c ≡ k → its_mutex s c ≡ b.mutex → returned_at (cond_onto s t p).phase ≡ Some OK
    → Then (record { state = cond_after s t c p; note = cond_note s t c p })) where
  same_call : (x : Begun) → Some b ≡ Some x → b ≡ x
  same_call x e = cc

  abbrev pub Ends : After → Type 0
  Ends a = IsAmong (Return t OK) (facts_of a.note) → Then a

  called : (o : Op) (p : Whole) → 1 ≤ t → t ≤ s.layout.threads → (s.threads t).stage ≡ Calling o p → ⊥
  called o p pos known is =
      let same : b ≡ begun_of s.layout o = same_call (begun_of s.layout o) (subst (λ (g : Stage). IsTold s.layout g (Some b)) is told) in
      no_call o p (fits_in s t o p inv pos known is).1 (sym (ap (λ (x : Begun). x.operation) same) ∙ is_op)

  at_condition : (c : CondCall) (p : CondWhole) → 1 ≤ t → t ≤ s.layout.threads → (s.threads t).stage ≡ AtCondition c p → Ends (record { state = cond_after s t c p; note = cond_note s t c p })
  at_condition c p pos known is among =
      let same : b ≡ begun_of s.layout (OnCondition c) = same_call (begun_of s.layout (OnCondition c)) (subst (λ (g : Stage). IsTold s.layout g (Some b)) is told) in
      let here : condition_of c ≡ k = some_same (condition_of c) k (sym (ap (λ (x : Begun). x.condition) same) ∙ on) in
      ends c p pos known is (sym (ap (λ (x : Begun). x.operation) same) ∙ is_op) here (sym (ap (λ (x : Begun). x.mutex) same)) (returned_noted t t (its_mutex s c) OK _ _ _ _ _ among)

  step_ends : 1 ≤ t → t ≤ s.layout.threads → Ends (stepped s t (s.threads t).held (s.threads t).stage)
  step_ends pos known =
      by_stage s t Ends (λ rests among. absurd among)
      (λ o p is awake. absurd (called o p pos known is))
      (λ c p is awake. subst Ends
      (sym (went-is s t (its_mutex s c) (Condition (condition_of c)) (AtCondition c p) (cond_access p) (λ a. led_at c p (cond_led p a)) (cond_stepping s t c p inv pos known is).valid))
      (at_condition c p pos known is))
      (λ w is awake among. absurd (no_return_walked t t OK _ _ _ among))

  pub ends_so : Ends (happens s (Step t))
  ends_so =
      by_event s (λ (e : Event) (a : After). e ≡ Step t → Ends a) (λ e same among. absurd among)
      (λ u o pos known inside idle full is same. absurd cc)
      (λ u pos known same. subst (λ (v : ℕ). 1 ≤ v → v ≤ s.layout.threads → Ends (stepped s v (s.threads v).held (s.threads v).stage)) (step_same u t (sym same)) step_ends pos known)
      (λ u pos known alive same. absurd cc) (λ u pos known asleep same. absurd cc) (λ u m p pos known is asleep may same. absurd cc) (λ u k x p pos known is there same. absurd cc) (λ u o p pos known is awake trims same. absurd cc) (λ u pos known gone same. absurd cc) (λ u m may same. absurd cc) (λ u m g sp same. absurd cc) (Step t) refl
    where
      step_same : (u v : ℕ) → Step v ≡ Step u → v ≡ u
      step_same u v e = cc

-- whom it wakes, or moves
module _ (s : State) (t k : ℕ) (b : Begun) (inv : Kept s) (queued : Queued s) (counted : Counted s) (told : IsTold s.layout (s.threads t).stage (Some b)) (on : b.condition ≡ Some k) where
  abbrev pub Moves : After → Type 0
  Moves a = (facts_of a.note ≡ map (moves_to b.mutex) (s.queues (counter_place s.layout k)) ++ Return t OK ∷ []) × (a.state.queues (counter_place s.layout k) ≡ [])

  pub moves_all : b.operation ≡ Operation.Broadcast → IsAmong (Return t OK) (facts_of (happens s (Step t)).note) → Moves (happens s (Step t))
  moves_all broadcasts =
      ends_so s t k b Operation.Broadcast inv told broadcasts on (no_broadcast s.layout) Moves
      (λ c p pos known is of here its back.
      let moved = then_empty s t c p inv queued counted pos known is of back in (
        (moved.0 ∙ (λ i. map (moves_to (its i)) (s.queues (counter_place s.layout (here i))) ++ Return t OK ∷ [])),
        subst (λ (j : ℕ). (cond_after s t c p).queues (counter_place s.layout j) ≡ []) here moved.1,
      ))

  abbrev pub Wakes : After → Type 0
  Wakes a = facts_of a.note ≡ map Fact.Wake (take 1 (s.queues (counter_place s.layout k))) ++ Return t OK ∷ []

  pub wakes_first : b.operation ≡ Operation.Signal → IsAmong (Return t OK) (facts_of (happens s (Step t)).note) → Wakes (happens s (Step t))
  wakes_first signals =
      ends_so s t k b Operation.Signal inv told signals on (no_signal s.layout) Wakes
      (λ c p pos known is of here its back. then_woken s t c p inv queued counted pos known is of back ∙ ap (λ (j : ℕ). map Fact.Wake (take 1 (s.queues (counter_place s.layout j))) ++ Return t OK ∷ []) here)

-- ---- every run

pub nobody_passed : NobodyIsPassedBy
nobody_passed l counters events is presets = record {
  counted = λ t k h. never_passed s0 events inv counted (λ u. tt) t k h;
  woken = λ before later t k b r.
      subst (λ (y : Layout'). facts_of (happens (run s0 before) (Step t)).note ≡ map Fact.Wake (take 1 ((run s0 before).queues (counter_place y k))) ++ Return t OK ∷ []) (run_layout s0 before inv)
      (wakes_first (run s0 before) t k b (run_kept s0 before inv) (run_queued l counters before is) (run_counted s0 before inv counted) (told_so before t b r.told) r.condition r.operation r.returns);
  moved = λ before later t k b r.
      subst (λ (y : Layout'). (facts_of (happens (run s0 before) (Step t)).note ≡ map (moves_to b.mutex) ((run s0 before).queues (counter_place y k)) ++ Return t OK ∷ []) × ((happens (run s0 before) (Step t)).state.queues (counter_place y k) ≡ [])) (run_layout s0 before inv)
      (moves_all (run s0 before) t k b (run_kept s0 before inv) (run_queued l counters before is) (run_counted s0 before inv counted) (told_so before t b r.told) r.condition r.operation r.returns);
}
  where
    s0 : State
    s0 = start l counters

    inv : Kept s0
    inv = start_kept l counters is

    counted : Counted s0
    counted = start_counted l counters presets

    told_so : (before : List Event) (t : ℕ) (b : Begun) → call_told t (notes s0 before) ≡ Some b → IsTold (run s0 before).layout ((run s0 before).threads t).stage (Some b)
    told_so before t b told = subst (IsTold (run s0 before).layout ((run s0 before).threads t).stage) told (told_run s0 before t None tt)
