-- Whom an event wakes or moves.
use Rattle.std.proofs.Common.{⊎_elim, ◌≡◌, ◌⊎◌, inl, inr, ℕ, ◌+◌, ◌%◌, ◌^◌, ◌<◌, ◌≤◌, ◌==◌, Bool, true, false, Option, Some, None, Ok, Err, List, [], ◌∷◌, ◌++◌, map, take, drop, length, refl, sym, ap, ◌∙◌, subst, arith}
use Rattle.std.proofs.lemmas.List.{take_all}
use Rattle.protocol.proofs.Declines.{spared_is}
use Rattle.protocol.proofs.Vocabulary.{Access, is_wake, Fact, Decision, Begun, Queue, Mutex, Condition, cell_place, place_in, place_met, sleeps_at, Fields, Object, Operation}
use Rattle.protocol.proofs.Vocabulary.{Reply, XHELD, Phase, Whole, whole_access, whole_led, CondCall, CondRow, CondPhase, CondWhole, cond_access, cond_led, condition_of, BroadcastRow}
use Rattle.protocol.proofs.Vocabulary.{Op, OnCondition, mutex_of, begun_of, Event, Stepped, Walked, Stage, Calling, AtCondition, Dying, State, After, start, run, notes, happens, nothing, begun, walked}
use Rattle.protocol.proofs.Vocabulary.{facts_of, moves_to, return_facts, reap_facts, decision, slept_in, led, led_at, reply_at, decided_at, woken_by, moved_by, sleepers, seen, if◌then◌else◌, Told, InCall, Dead}
use Rattle.protocol.proofs.Vocabulary.{AtRest, Gone, last_told, is_met, answer_of, death_at, woken, has_ended, WakeOne, Part}
use Rattle.mutex.specs.Wakes as mutex
use Rattle.mutex.specs.Whole.{phase_access}
use Rattle.condvar.specs.Whole as condition
use Rattle.condvar.specs.Calls.{acts_as, operation_of}
use Rattle.condvar.specs.Ops as ops
use Rattle.exitwalk.specs.Standings as walks
use Rattle.exitwalk.specs.declared.row.Row as walk_row
use Rattle.exitwalk.specs.Walks as exit
use Rattle.protocol.specs.PassedBy.{call_told}
use Rattle.protocol.specs.Wakes.{wakes_in, moves_in, left_by, to_tell, the_first, whom_it_wakes, whom_it_moves, WakesWhom, WakesItself, WakesSo, WakesAreRight}
use Rattle.protocol.proofs.Kept.{IsFor, InPhase, FitsAt, AtPhase, Kept, LeftToWalk}
use Rattle.protocol.proofs.Places.{treated_at}
use Rattle.protocol.proofs.Seeing.{cell_in, cell_again, counter_again}
use Rattle.protocol.proofs.Steps.{IsNoMove, moves_none, went-is, onto, call_note, cond_onto, cond_note, its_mutex, its_cell, its_counter}
use Rattle.protocol.proofs.CallSteps.{CallStep, call_stepping}
use Rattle.protocol.proofs.Accesses.{goes, fits_in}
use Rattle.protocol.proofs.CondAccesses.{cond_stepping, fits_at}
use Rattle.protocol.proofs.WalkSteps.{walk_no_move}
use Rattle.protocol.proofs.Events.{begins_at, by_event, by_stage}
use Rattle.protocol.proofs.Working.{walk_is}
use Rattle.protocol.proofs.Queued.{Queued}
use Rattle.protocol.proofs.QueueRuns.{run_queued}
use Rattle.protocol.proofs.Runs.{start_kept, run_kept}
use Rattle.protocol.proofs.NoteFacts.{behind_woken, behind_moved, of_walk}
use Rattle.protocol.specs.Applies.{Agrees}
use Rattle.protocol.proofs.Applying.{run_agrees}
use Rattle.protocol.proofs.Emptied.{no_more}
use Rattle.protocol.proofs.Learnt.{Asks, AsksFor, AsksAt, Learnt, run_learnt}
use Rattle.protocol.proofs.Sparing.{spare_is}
use Rattle.lockword.specs.Threads.{most_threads}

-- ---- the wakes and the moves that are recorded

none_returned : (u : ℕ) (y : Option Reply) → (wakes_in (return_facts u y) ≡ []) × (moves_in (return_facts u y) ≡ [])
none_returned u None = (refl, refl)
none_returned u (Some x) = (refl, refl)

none_reaped : (u : ℕ) (y : Bool) → (wakes_in (reap_facts u y) ≡ []) × (moves_in (reap_facts u y) ≡ [])
none_reaped u false = (refl, refl)
none_reaped u true = (refl, refl)

wakes_told : (ws : List ℕ) (rest : List Fact) → wakes_in rest ≡ [] → wakes_in (map Fact.Wake ws ++ rest) ≡ map Fact.Wake ws
wakes_told [] rest none = none
wakes_told (w ∷ ws) rest none = ap (λ (fs : List Fact). Fact.Wake w ∷ fs) (wakes_told ws rest none)

moves_told : (m : ℕ) (ms : List ℕ) (rest : List Fact) → moves_in rest ≡ [] → moves_in (map (moves_to m) ms ++ rest) ≡ map (moves_to m) ms
moves_told m [] rest none = none
moves_told m (v ∷ vs) rest none = ap (λ (fs : List Fact). Fact.Move v m ∷ fs) (moves_told m vs rest none)

behind_wakes : (m : ℕ) (ws ms : List ℕ) (rest : List Fact) → wakes_in rest ≡ [] → wakes_in (map Fact.Wake ws ++ (map (moves_to m) ms ++ rest)) ≡ map Fact.Wake ws
behind_wakes m ws ms rest none = wakes_told ws (map (moves_to m) ms ++ rest) (behind_moved (λ (fs : List Fact). wakes_in fs ≡ []) m ms rest (λ v fs same. same) none)

behind_moves : (m : ℕ) (ws ms : List ℕ) (rest : List Fact) → moves_in rest ≡ [] → moves_in (map Fact.Wake ws ++ (map (moves_to m) ms ++ rest)) ≡ map (moves_to m) ms
behind_moves m ws ms rest none = behind_woken (λ (fs : List Fact). moves_in fs ≡ map (moves_to m) ms) ws (map (moves_to m) ms ++ rest) (λ w fs same. same) (moves_told m ms rest none)

wakes_stepped : (u m : ℕ) (d : Option Decision) (k : Option Queue) (ws ms : List ℕ) (y : Option Reply) → wakes_in (facts_of (Stepped u m d k ws ms y)) ≡ map Fact.Wake ws
wakes_stepped u m None None ws ms y = behind_wakes m ws ms (return_facts u y) (none_returned u y).0
wakes_stepped u m None (Some q) ws ms y = behind_wakes m ws ms (return_facts u y) (none_returned u y).0
wakes_stepped u m (Some e) None ws ms y = behind_wakes m ws ms (return_facts u y) (none_returned u y).0
wakes_stepped u m (Some e) (Some q) ws ms y = behind_wakes m ws ms (return_facts u y) (none_returned u y).0

moves_stepped : (u m : ℕ) (d : Option Decision) (k : Option Queue) (ws ms : List ℕ) (y : Option Reply) → moves_in (facts_of (Stepped u m d k ws ms y)) ≡ map (moves_to m) ms
moves_stepped u m None None ws ms y = behind_moves m ws ms (return_facts u y) (none_returned u y).1
moves_stepped u m None (Some q) ws ms y = behind_moves m ws ms (return_facts u y) (none_returned u y).1
moves_stepped u m (Some e) None ws ms y = behind_moves m ws ms (return_facts u y) (none_returned u y).1
moves_stepped u m (Some e) (Some q) ws ms y = behind_moves m ws ms (return_facts u y) (none_returned u y).1

pub wakes_walked : (u : ℕ) (d : Option ℕ) (ws : List ℕ) (y : Bool) → wakes_in (facts_of (Walked u d ws y)) ≡ map Fact.Wake ws
wakes_walked u None ws y = wakes_told ws (reap_facts u y) (none_reaped u y).0
wakes_walked u (Some m) ws y = wakes_told ws (reap_facts u y) (none_reaped u y).0

moves_walked : (u : ℕ) (d : Option ℕ) (ws : List ℕ) (y : Bool) → moves_in (facts_of (Walked u d ws y)) ≡ []
moves_walked u d ws y = of_walk (λ (fs : List Fact). moves_in fs ≡ []) u d ws y (λ m fs same. same) (λ w fs same. same) (none_reaped u y).1

-- ---- of an access

-- whoever moves nobody wakes nobody, or is a wake
wakes_or_none : (a : Access) (w : ℕ) (q : List ℕ) → IsNoMove a → (woken_by a w q ≡ []) ⊎ (is_wake a ≡ true)
wakes_or_none (Access.Wake at n) w q still = inr refl
wakes_or_none (Access.Requeue from n to k) w q still = absurd still
wakes_or_none (Access.CmpRequeue from e n to k) w q still = absurd still
wakes_or_none a w q still = inl refl

is_one : (a : Access) → is_wake a ≡ true → (at n : ℕ) × (a ≡ Access.Wake at n)
is_one (Access.Wake at n) e = (at, n, refl)
is_one a e = absurd cc

-- no queue is longer than there are threads
short : (s : State) (key : ℕ) → Kept s → Queued s → length (s.queues key) ≤ most_threads
short s key inv queued =
    let few = no_more s.layout.threads (s.queues key) (queued.once key) (λ u stands. let slept = queued.sleeps key u stands in (slept.0, slept.1)) in
    let most = inv.layout.threads.1 in omega (arith, few, most)

-- so many as are to learn of a mutex that was left so are the first, or all
takes_so : (x : Object) (q : List ℕ) → length q ≤ most_threads → take (mutex.to_wake x) q ≡ to_tell (Some x) q
takes_so x q few = go x.unusable
  where
    go : (b : Bool) → take (if b then most_threads else 1) q ≡ (if b then q else take 1 q)
    go true = take_all most_threads q few
    go false = refl

-- nobody is woken or moved
whom_none : (s : State) (w : Told) (b : Option Begun) (o : Option Object) (fs : List Fact) → wakes_in fs ≡ [] → moves_in fs ≡ [] → WakesWhom s w b o fs
whom_none s AtRest b o fs e f = (e, f)
whom_none s InCall None o fs e f = (e, f)
whom_none s InCall (Some b) o fs e f = (inl e, inl f)
whom_none s Dead b o fs e f = (inl e, f)
whom_none s Gone b o fs e f = (e, f)

-- a step of a call is noted with whom it wakes and moves
stepped_whom : (s : State) (u : ℕ) (b : Begun) (o : Option Object) (d : Option Decision) (k : Option Queue) (ws ms : List ℕ) (y : Option Reply)
    → ((ws ≡ []) ⊎ (ws ≡ whom_it_wakes s o b.operation b.mutex b.condition)) → ((ms ≡ []) ⊎ (ms ≡ whom_it_moves s b.operation b.condition)) → WakesWhom s InCall (Some b) o (facts_of (Stepped u b.mutex d k ws ms y))
stepped_whom s u b o d k ws ms y wakes moves =
    let told = wakes_stepped u b.mutex d k ws ms y in
    let carried = moves_stepped u b.mutex d k ws ms y in (
      ⊎_elim (λ none. inl (told ∙ ap (map Fact.Wake) none)) (λ e. inr (told ∙ ap (map Fact.Wake) e)) wakes,
      ⊎_elim (λ none. inl (carried ∙ ap (map (moves_to b.mutex)) none)) (λ e. inr (carried ∙ ap (map (moves_to b.mutex)) e)) moves,
    )

-- ---- of a call on a mutex, or of the lock that ends a wait

wake_operation : (t held : ℕ) (p : Whole) (f : Phase) (o : Object) → InPhase t held p f o → is_wake (phase_access p f) ≡ true → (p.operation ≡ Operation.Lock) ⊎ (p.operation ≡ Operation.Unlock)
wake_operation t held p f o stands e = grind (arith)

its_sleepers : (s : State) (c : Op) (op : Operation) (o : Option Object) → IsFor s.layout c op → (op ≡ Operation.Lock) ⊎ (op ≡ Operation.Unlock)
    → whom_it_wakes s o (ops.operation_of c) (mutex_of s.layout c) (ops.condition_of c) ≡ to_tell o (sleepers s (mutex_of s.layout c))
its_sleepers s c op o is for_one = grind (arith)

module _ (s : State) (t : ℕ) (c : Op) (p : Whole) (inv : Kept s) (queued : Queued s) (pos : 1 ≤ t) (known : t ≤ s.layout.threads) (is : (s.threads t).stage ≡ Calling c p) (o : Option Object) (asks : Asks (whole_access p) o) where
  abbrev m : ℕ
  m = mutex_of s.layout c

  abbrev b : Begun
  b = begun_of s.layout c

  abbrev g : CallStep s t c p
  g = goes s t c p inv pos known is

  abbrev these : List ℕ
  these = whom_it_wakes s o b.operation b.mutex b.condition

  -- whom its access wakes
  abbrev who : List ℕ
  who = woken_by (whole_access p) (s.words (place_met s.layout t (whole_access p))) (s.queues (place_met s.layout t (whole_access p)))

  its_wake : is_wake (whole_access p) ≡ true → who ≡ these
  its_wake e =
      let fits = fits_in s t c p inv pos known is in
      let shape = g.wakes e in
      let is_at : whole_access p ≡ Access.Wake (cell_in s.layout t m) shape.0 = shape.2 in
      let asked = asks (cell_in s.layout t m) shape.0 is_at in
      ap (λ (a : Access). woken_by a (s.words (place_met s.layout t a)) (s.queues (place_met s.layout t a))) is_at
      ∙ ap (λ (x : ℕ). take shape.0 (s.queues x)) (cell_again s.layout t inv.layout pos known m fits.0.inside)
      ∙ ap (λ (n : ℕ). take n (sleepers s m)) asked.2
      ∙ takes_so asked.0 (sleepers s m) (short s (cell_place s.layout m) inv queued)
      ∙ ap (λ (x : Option Object). to_tell x (sleepers s m)) (sym asked.1)
      ∙ sym (its_sleepers s c p.operation o fits.1 (wake_operation t (s.threads t).held p p.phase (seen s m) fits.0.stands e))

  call_whom : WakesWhom s InCall (Some b) o (facts_of (call_note s t c p))
  call_whom =
      stepped_whom s t b o (decision t m p.operation (onto s t p).point) (slept_in (Mutex m) (sleeps_at (whole_access p) (s.words at))) who (moved_by (whole_access p) (s.words at) (s.queues at)) (led c p (onto s t p)).returned
      (⊎_elim inl (λ e. inr (its_wake e)) (wakes_or_none (whole_access p) (s.words at) (s.queues at) g.no_move))
      (inl (moves_none (whole_access p) (s.words at) (s.queues at) g.no_move))
    where
      at : ℕ
      at = place_met s.layout t (whole_access p)

-- ---- of a call on a condition variable, before that

-- its access moves nobody but where that is a broadcast's last
moves_or_not : (t held : ℕ) (op : Operation) (p : CondWhole) (f : CondPhase) (w : Fields) → AtPhase t held op p f w → IsNoMove (condition.phase_access p f) ⊎ ((seen : ℕ) × (f ≡ CondPhase.AtWords (CondRow.Broadcast (BroadcastRow.Move seen))) × (op ≡ Operation.Broadcast))
moves_or_not t held op p f w stands = grind (arith)

-- a wait with a time limit wakes whom a wait does
told_wakes : (s : State) (c : CondCall) (o : Option Object) → whom_it_wakes s o (operation_of c) (its_mutex s c) (Some (condition_of c)) ≡ whom_it_wakes s o (acts_as c) (its_mutex s c) (Some (condition_of c))
told_wakes s (CondCall.Wait k) o = refl
told_wakes s (CondCall.TimedWait k x) o = refl
told_wakes s (CondCall.Signal k) o = refl
told_wakes s (CondCall.Broadcast k) o = refl

told_moves : (s : State) (c : CondCall) → whom_it_moves s (operation_of c) (Some (condition_of c)) ≡ whom_it_moves s (acts_as c) (Some (condition_of c))
told_moves s (CondCall.Wait k) = refl
told_moves s (CondCall.TimedWait k x) = refl
told_moves s (CondCall.Signal k) = refl
told_moves s (CondCall.Broadcast k) = refl

of_signal : (s : State) (c : CondCall) (o : Option Object) (x : Object) → o ≡ Some x → acts_as c ≡ Operation.Signal → whom_it_wakes s o (acts_as c) (its_mutex s c) (Some (condition_of c)) ≡ take 1 (s.queues (its_counter s c))
of_signal s c o x left is = ap (λ (op : Operation). whom_it_wakes s o op (its_mutex s c) (Some (condition_of c))) is ∙ ap (λ (y : Option Object). the_first y (s.queues (its_counter s c))) left

of_wait : (s : State) (c : CondCall) (o : Option Object) → acts_as c ≡ Operation.Wait → whom_it_wakes s o (acts_as c) (its_mutex s c) (Some (condition_of c)) ≡ to_tell o (sleepers s (its_mutex s c))
of_wait s c o is = ap (λ (op : Operation). whom_it_wakes s o op (its_mutex s c) (Some (condition_of c))) is

of_broadcast : (s : State) (c : CondCall) → acts_as c ≡ Operation.Broadcast → whom_it_moves s (acts_as c) (Some (condition_of c)) ≡ s.queues (its_counter s c)
of_broadcast s c is = ap (λ (op : Operation). whom_it_moves s op (Some (condition_of c))) is

module _ (s : State) (t : ℕ) (c : CondCall) (p : CondWhole) (inv : Kept s) (queued : Queued s) (pos : 1 ≤ t) (known : t ≤ s.layout.threads) (is : (s.threads t).stage ≡ AtCondition c p) (o : Option Object) (asks : AsksAt c p o) where
  fits_here : FitsAt s t (s.threads t).held c p
  fits_here = fits_at s t c p inv pos known is

  abbrev place : ℕ
  place = place_met s.layout t (cond_access p)

  abbrev woken_here : List ℕ
  woken_here = woken_by (cond_access p) (s.words place) (s.queues place)

  abbrev moved_here : List ℕ
  moved_here = moved_by (cond_access p) (s.words place) (s.queues place)

  abbrev they : List ℕ
  they = whom_it_wakes s o (acts_as c) (its_mutex s c) (Some (condition_of c))

  cell_is : place_in s.layout t p.cell ≡ its_cell s c
  cell_is = ap (place_in s.layout t) fits_here.cell ∙ cell_again s.layout t inv.layout pos known (its_mutex s c) fits_here.inside

  counter_is : place_in s.layout t p.counter ≡ its_counter s c
  counter_is = ap (place_in s.layout t) fits_here.counter ∙ counter_again s.layout t inv.layout pos known (condition_of c) fits_here.there

  -- where it is a wake
  wakes_so : (at n : ℕ) → cond_access p ≡ Access.Wake at n → (op : Operation) → acts_as c ≡ op → AsksFor op p.cell p.counter o at n → woken_here ≡ they
  wakes_so at n shape Operation.Signal of (is_at, one, x, left) =
      ap (λ (a : Access). woken_by a (s.words (place_met s.layout t a)) (s.queues (place_met s.layout t a))) shape
      ∙ (λ i. take (one i) (s.queues (place_in s.layout t (is_at i)))) ∙ ap (λ (x : ℕ). take 1 (s.queues x)) counter_is ∙ sym (of_signal s c o x left of)
  wakes_so at n shape Operation.Wait of (is_at, x, left, some) =
      ap (λ (a : Access). woken_by a (s.words (place_met s.layout t a)) (s.queues (place_met s.layout t a))) shape
      ∙ (λ i. take (some i) (s.queues (place_in s.layout t (is_at i)))) ∙ ap (λ (y : ℕ). take (mutex.to_wake x) (s.queues y)) cell_is
      ∙ takes_so x (s.queues (its_cell s c)) (short s (its_cell s c) inv queued)
      ∙ ap (λ (y : Option Object). to_tell y (s.queues (its_cell s c))) (sym left) ∙ sym (of_wait s c o of)
  wakes_so at n shape op of h = absurd h

  abbrev Whom : Type 0
  Whom = ((woken_here ≡ []) ⊎ (woken_here ≡ they)) × ((moved_here ≡ []) ⊎ (moved_here ≡ whom_it_moves s (acts_as c) (Some (condition_of c))))

  still : IsNoMove (cond_access p) → Whom
  still none = (
    ⊎_elim inl (λ e. let shape = is_one (cond_access p) e in inr (wakes_so shape.0 shape.1 shape.2 (acts_as c) refl (asks shape.0 shape.1 shape.2))) (wakes_or_none (cond_access p) (s.words place) (s.queues place) none),
    inl (moves_none (cond_access p) (s.words place) (s.queues place) none),
  )

  abbrev Moves_so : Access → Type 0
  Moves_so a =
      ((woken_by a (s.words (place_met s.layout t a)) (s.queues (place_met s.layout t a)) ≡ []) ⊎ (woken_by a (s.words (place_met s.layout t a)) (s.queues (place_met s.layout t a)) ≡ they))
      × ((moved_by a (s.words (place_met s.layout t a)) (s.queues (place_met s.layout t a)) ≡ []) ⊎ (moved_by a (s.words (place_met s.layout t a)) (s.queues (place_met s.layout t a)) ≡ whom_it_moves s (acts_as c) (Some (condition_of c))))

  -- where it moves all
  moves_so : (seen : ℕ) → p.phase ≡ CondPhase.AtWords (CondRow.Broadcast (BroadcastRow.Move seen)) → acts_as c ≡ Operation.Broadcast → Whom
  moves_so seen at of = subst Moves_so (sym (ap (condition.phase_access p) at)) (go (s.queues (place_in s.layout t p.counter)) (short s (place_in s.layout t p.counter) inv queued) (ap s.queues counter_is) (s.words (place_in s.layout t p.counter) % 2 ^ 32 == (seen + 1) % 2 ^ 32))
    where
      go : (q : List ℕ) → length q ≤ most_threads → q ≡ s.queues (its_counter s c) → (b : Bool)
          → (((if b then take 0 q else []) ≡ []) ⊎ ((if b then take 0 q else []) ≡ they)) × (((if b then take most_threads (drop 0 q) else []) ≡ []) ⊎ ((if b then take most_threads (drop 0 q) else []) ≡ whom_it_moves s (acts_as c) (Some (condition_of c))))
      go q few there true = (inl refl, inr (take_all most_threads q few ∙ there ∙ sym (of_broadcast s c of)))
      go q few there false = (inl refl, inl refl)

  whom_here : Whom
  whom_here = ⊎_elim still (λ moves. moves_so moves.0 moves.1 moves.2) (moves_or_not t (s.threads t).held (acts_as c) p p.phase _ fits_here.stands)

  cond_whom : WakesWhom s InCall (Some (begun_of s.layout (OnCondition c))) o (facts_of (cond_note s t c p))
  cond_whom =
      stepped_whom s t (begun_of s.layout (OnCondition c)) o (decision t (its_mutex s c) (decided_at (acts_as c) (cond_onto s t p).point) (reply_at (cond_onto s t p).point)) (slept_in (Condition (condition_of c)) (sleeps_at (cond_access p) (s.words place))) woken_here moved_here
      (led_at c p (cond_onto s t p)).returned (⊎_elim inl (λ e. inr (e ∙ sym (told_wakes s c o))) whom_here.0) (⊎_elim inl (λ e. inr (e ∙ sym (told_moves s c))) whom_here.1)

-- ---- of a walk

walk_wakes : (h : ℕ) (r : walk_row.Row) → is_wake (exit.row_access h r) ≡ true → (at : ℕ) × (rest : Part) × (r ≡ WakeOne at rest)
walk_wakes h (WakeOne at rest) e = (at, rest, refl)
walk_wakes h r e = absurd cc

module _ (s : State) (t : ℕ) (w : walks.Standing) (inv : Kept s) (pos : 1 ≤ t) (known : t ≤ s.layout.threads) (is : (s.threads t).stage ≡ Dying w) where
  abbrev its_access : Access
  its_access = exit.access_of w

  woken_walk : (woken s t its_access ≡ []) ⊎ (k : ℕ) × (k < s.layout.mutexes) × (woken s t its_access ≡ take 1 (sleepers s k))
  woken_walk = go (is_met s.layout t its_access)
    where
      met_woken : List ℕ
      met_woken = woken_by its_access (s.words (place_met s.layout t its_access)) (s.queues (place_met s.layout t its_access))

      wakes_one : is_wake its_access ≡ true → (k : ℕ) × (k < s.layout.mutexes) × (met_woken ≡ take 1 (sleepers s k))
      wakes_one e =
          let at_row = walk_wakes w.head w.row e in
          let left = subst (LeftToWalk s t) at_row.2 (walk_is s t w inv pos known is).2 in (
            left.0,
            left.1.0,
            ap (λ (r : walk_row.Row). woken_by (exit.row_access w.head r) (s.words (place_met s.layout t (exit.row_access w.head r))) (s.queues (place_met s.layout t (exit.row_access w.head r)))) at_row.2
                ∙ ap (λ (x : ℕ). take 1 (s.queues x)) (treated_at s t inv.layout pos known at_row.0 left.0 left.1),
          )

      go : (b : Bool) → ((if b then met_woken else []) ≡ []) ⊎ (k : ℕ) × (k < s.layout.mutexes) × ((if b then met_woken else []) ≡ take 1 (sleepers s k))
      go false = inl refl
      go true = ⊎_elim inl (λ e. inr (wakes_one e)) (wakes_or_none its_access (s.words (place_met s.layout t its_access)) (s.queues (place_met s.layout t its_access)) (walk_no_move w.head w.row))

  walk_whom : (b : Option Begun) (o : Option Object) → WakesWhom s Dead b o (facts_of (walked s t (s.threads t).held w).note)
  walk_whom b o =
      let answer = answer_of s t its_access in
      let death = death_at s.layout t (exit.point_of w.thread w.row answer) in
      let ended = has_ended (exit.row_after w.thread w.head w.row answer) in
      let told = wakes_walked t death (woken s t its_access) ended in (
        ⊎_elim (λ none. inl (told ∙ ap (map Fact.Wake) none)) (λ one. inr (one.0, one.1, told ∙ ap (map Fact.Wake) one.2)) woken_walk,
        moves_walked t death (woken s t its_access) ended,
      )

-- ---- each event

told_in_call : (x : Told) (c : Op) (p : Whole) → Agrees x (Calling c p) → x ≡ InCall
told_in_call InCall c p h = refl
told_in_call x c p h = absurd h

told_at_condition : (x : Told) (c : CondCall) (p : CondWhole) → Agrees x (AtCondition c p) → x ≡ InCall
told_at_condition InCall c p h = refl
told_at_condition x c p h = absurd h

told_dead : (x : Told) (w : walks.Standing) → Agrees x (Dying w) → x ≡ Dead
told_dead Dead w h = refl
told_dead x w h = absurd h

module _ (s : State) (inv : Kept s) (queued : Queued s) (told : ℕ → Told) (b : ℕ → Option Begun) (o : ℕ → Option Object) (agrees : (t : ℕ) → Agrees (told t) (s.threads t).stage) (learnt : (t : ℕ) → Learnt s.layout (s.threads t).stage (b t) (o t)) where
  abbrev WhomAt : Event → After → Type 0
  WhomAt (Event.Step t) a = WakesWhom s (told t) (b t) (o t) (facts_of a.note)
  WhomAt (Event.Leave t) a = WakesItself t (facts_of a.note)
  WhomAt (Event.Expire t) a = WakesItself t (facts_of a.note)
  WhomAt e a = (wakes_in (facts_of a.note) ≡ []) × (moves_in (facts_of a.note) ≡ [])

  nothing_whom : (e : Event) → WhomAt e (nothing s)
  nothing_whom (Event.Step t) = whom_none s (told t) (b t) (o t) [] refl refl
  nothing_whom (Event.Begin t c) = (refl, refl)
  nothing_whom (Event.Kill t) = (refl, refl)
  nothing_whom (Event.Leave t) = (inl refl, refl)
  nothing_whom (Event.Expire t) = (inl refl, refl)
  nothing_whom (Event.Decline t) = (refl, refl)
  nothing_whom (Event.Renew t) = (refl, refl)
  nothing_whom (Event.Remake t m) = (refl, refl)
  nothing_whom (Event.Spare t by) = (refl, refl)

  begin_whom : (t : ℕ) (c : Op) (full : Bool) → WhomAt (Event.Begin t c) (begun s t c (if full then Err XHELD else Ok (begins_at s.layout t c)))
  begin_whom t c true = (refl, refl)
  begin_whom t c false = (refl, refl)

  called_whom : (t : ℕ) (c : Op) (p : Whole) → 1 ≤ t → t ≤ s.layout.threads → (s.threads t).stage ≡ Calling c p → WakesWhom s (told t) (b t) (o t) (facts_of (call_note s t c p))
  called_whom t c p pos known is =
      let knows = subst (λ (g : Stage). Learnt s.layout g (b t) (o t)) is (learnt t) in
      subst (λ (x : Told). WakesWhom s x (b t) (o t) (facts_of (call_note s t c p))) (sym (told_in_call (told t) c p (subst (Agrees (told t)) is (agrees t))))
      (subst (λ (y : Option Begun). WakesWhom s InCall y (o t) (facts_of (call_note s t c p))) (sym knows.0) (call_whom s t c p inv queued pos known is (o t) knows.2))

  conditions_whom : (t : ℕ) (c : CondCall) (p : CondWhole) → 1 ≤ t → t ≤ s.layout.threads → (s.threads t).stage ≡ AtCondition c p → WakesWhom s (told t) (b t) (o t) (facts_of (cond_note s t c p))
  conditions_whom t c p pos known is =
      let knows = subst (λ (g : Stage). Learnt s.layout g (b t) (o t)) is (learnt t) in
      subst (λ (x : Told). WakesWhom s x (b t) (o t) (facts_of (cond_note s t c p))) (sym (told_at_condition (told t) c p (subst (Agrees (told t)) is (agrees t))))
      (subst (λ (y : Option Begun). WakesWhom s InCall y (o t) (facts_of (cond_note s t c p))) (sym knows.0) (cond_whom s t c p inv queued pos known is (o t) knows.1))

  walks_whom : (t : ℕ) (w : walks.Standing) → 1 ≤ t → t ≤ s.layout.threads → (s.threads t).stage ≡ Dying w → WakesWhom s (told t) (b t) (o t) (facts_of (walked s t (s.threads t).held w).note)
  walks_whom t w pos known is =
      subst (λ (x : Told). WakesWhom s x (b t) (o t) (facts_of (walked s t (s.threads t).held w).note)) (sym (told_dead (told t) w (subst (Agrees (told t)) is (agrees t))))
      (walk_whom s t w inv pos known is (b t) (o t))

  next_whom : (e : Event) → WhomAt e (happens s e)
  next_whom e =
      by_event s WhomAt nothing_whom
      (λ t c pos known inside idle full is. begin_whom t c full)
      (λ t pos known.
      by_stage s t (WhomAt (Event.Step t)) (λ rests. nothing_whom (Event.Step t))
      (λ c p is awake. subst (WhomAt (Event.Step t))
      (sym (went-is s t (mutex_of s.layout c) (Mutex (mutex_of s.layout c)) (Calling c p) (whole_access p) (λ a. led c p (whole_led p a)) (call_stepping s t c p (goes s t c p inv pos known is) (fits_in s t c p inv pos known is).0).valid))
      (called_whom t c p pos known is))
      (λ c p is awake. subst (WhomAt (Event.Step t))
      (sym (went-is s t (its_mutex s c) (Condition (condition_of c)) (AtCondition c p) (cond_access p) (λ a. led_at c p (cond_led p a)) (cond_stepping s t c p inv pos known is).valid))
      (conditions_whom t c p pos known is))
      (λ w is awake. walks_whom t w pos known is))
      (λ t pos known alive. (refl, refl))
      (λ t pos known asleep. (inr refl, refl))
      (λ t m p pos known is asleep may. (inr refl, refl))
      (λ t k x p pos known is there. (inr refl, refl))
      (λ t c p pos known is awake trims. subst (WhomAt (Event.Decline t)) (sym (spared_is s t c p is trims inv pos known)) (refl, refl))
      (λ t pos known gone. (refl, refl))
      (λ t m may. (refl, refl))
      (λ t m g sp. subst (WhomAt (Event.Spare t sp.by)) (sym (spare_is s t m g sp inv)) (refl, refl))
      e

-- ---- every run

pub woken_right : WakesAreRight
woken_right l counters events is e = go e (next_whom (run s0 events) (run_kept s0 events inv) (run_queued l counters events is) (λ t. last_told t (notes s0 events)) (λ t. call_told t (notes s0 events)) (λ t. left_by t s0 None events)
    (λ t. run_agrees s0 events t AtRest tt) (λ t. run_learnt s0 events inv t None None tt) e)
  where
    s0 : State
    s0 = start l counters

    inv : Kept s0
    inv = start_kept l counters is

    go : (x : Event) → WhomAt (run s0 events) (run_kept s0 events inv) (run_queued l counters events is) (λ t. last_told t (notes s0 events)) (λ t. call_told t (notes s0 events)) (λ t. left_by t s0 None events) (λ t. run_agrees s0 events t AtRest tt) (λ t. run_learnt s0 events inv t None None tt) x (happens (run s0 events) x) → WakesSo s0 events x
    go (Event.Step t) h = h
    go (Event.Begin t c) h = h
    go (Event.Kill t) h = h
    go (Event.Leave t) h = h
    go (Event.Spare t by) h = h
    go (Event.Expire t) h = h
    go (Event.Decline t) h = h
    go (Event.Renew t) h = h
    go (Event.Remake t m) h = h
