-- What an event of each kind changes.
use Rattle.std.proofs.Common.{◌≡◌, ◌≢◌, ◌⊎◌, ⊎_elim, inl, inr, ℕ, ◌+◌, ◌%◌, ◌^◌, ◌≤◌, ◌&&◌, Bool, true, false, Option, Some, None, Result, Ok, Err, List, refl, sym, ap, ◌∙◌, subst, arith}
use Rattle.protocol.proofs.Vocabulary.{CondCall, CondRow, CondPhase, CondWhole, cond_access, cond_led, condition_of, Mutex, Condition, Begun, Object, Operation, Layout', cell_place, place_met, word_among}
use Rattle.protocol.proofs.Vocabulary.{Whole, whole_access, whole_led, Op, OnCondition, mutex_of, begun_of, Event, caller, Thread, Stage, Calling, AtCondition, Dying, State, After, XHELD, Reply, put, led, led_at, begun, first_stage, may_begin, killed, nothing, stepped, walked}
use Rattle.protocol.proofs.Vocabulary.{happens, run, notes, start, is_alive, seen, stands_in, if◌then◌else◌, Told, AtRest, InCall, Dead, last_told, WaitRow, Signal, Broadcast, Access, queue_after, moved_by, joined, Part, WakeOne, place_in}
use Rattle.exitwalk.specs.Standings as walks
use Rattle.exitwalk.specs.declared.row.Row as walk_row
use Rattle.exitwalk.specs.declared.row.Row.TheVariants as walk
use Rattle.exitwalk.specs.Walks as exit
use Rattle.condvar.specs.declared.row.CondRow.TheVariants.{Wait}
use Rattle.condvar.specs.Calls.{acts_as, operation_of}
use Rattle.condvar.specs.Laws.{row_operation, is_at_counter}
use Rattle.condvar.specs.Programs.{row_access}
use Rattle.protocol.specs.declared.event.Event.TheVariants.{Begin, Step, Kill}
use Rattle.protocol.specs.Applies.{Agrees}
use Rattle.protocol.specs.PassedBy.{call_told}
use Rattle.protocol.specs.Wakes.{left_by}
use Rattle.protocol.specs.Changes.{OnlyBegins, OnlyKills, IsItsOwn, MayChange, MayStir, OnlySteps, EventsLeaveTheRest}
use Rattle.protocol.proofs.Puts.{by_put, put-same, put-other}
use Rattle.protocol.proofs.Cases.{by_same}
use Rattle.protocol.proofs.Phases.{IsPlain, plain_no_move}
use Rattle.protocol.proofs.CondRows.{move_or}
use Rattle.protocol.proofs.Kept.{FitsAt, LeftToWalk, Kept}
use Rattle.protocol.proofs.Places.{IsMine, treated_at}
use Rattle.protocol.proofs.Seeing.{head_in, cell_again, counter_again}
use Rattle.protocol.proofs.Steps.{IsNoMove, joined_none, cell_at, counter_at, met_no_move, after, went-is, call_step, cond_step, its_mutex, its_counter}
use Rattle.protocol.proofs.Stepping.{SleepsAs}
use Rattle.protocol.proofs.Frames.{knows_at}
use Rattle.protocol.proofs.CallSteps.{call_stepping}
use Rattle.protocol.proofs.Accesses.{goes, fits_in}
use Rattle.protocol.proofs.CondSteps.{cond_of, at_either}
use Rattle.protocol.proofs.CondAccesses.{by_access, cond_stepping}
use Rattle.protocol.proofs.WalkSteps.{walk_no_move, walk_access, walk_after, death_then, walked-is, DeathTells, WalkStep, walk_step}
use Rattle.protocol.proofs.Events.{begins_at, by_event, by_stage, is_known}
use Rattle.protocol.proofs.Working.{walk_is}
use Rattle.protocol.proofs.Queues.{not_true, without_same, without_gone}
use Rattle.protocol.proofs.Queued.{Queued}
use Rattle.protocol.proofs.QueueRuns.{run_queued}
use Rattle.protocol.proofs.Runs.{start_kept, run_kept, run_layout}
use Rattle.protocol.proofs.Applying.{run_agrees}
use Rattle.protocol.proofs.Learnt.{Learnt, run_learnt}
use Rattle.lockword.specs.Threads.{most_threads}

-- an event of another thread leaves a thread as it is
pub theirs : (s : State) (e : Event) (t : ℕ) → caller e ≢ t → (happens s e).state.threads t ≡ s.threads t
theirs s e t =
    by_event s (λ (x : Event) (a : After). caller x ≢ t → a.state.threads t ≡ s.threads t)
    (λ x apart. refl)
    (λ u o pos known inside idle b full. begins u o b)
    (λ u pos known.
    by_stage s u (λ (a : After). u ≢ t → a.state.threads t ≡ s.threads t) (λ rests apart. refl)
    (λ o p is awake apart. put-other s.threads u _ t (λ e. apart (sym e)))
    (λ c p is awake apart. put-other s.threads u _ t (λ e. apart (sym e)))
    (λ w is awake apart. put-other s.threads u _ t (λ e. apart (sym e))))
    (λ u pos known alive apart. put-other s.threads u _ t (λ e. apart (sym e)))
    (λ u pos known asleep apart. refl)
    (λ u m p pos known is asleep may apart. put-other s.threads u _ t (λ e. apart (sym e)))
    (λ u k x p pos known is there apart. put-other s.threads u _ t (λ e. apart (sym e)))
    (λ u o p pos known is awake trims apart. put-other s.threads u _ t (λ e. apart (sym e)))
    (λ u pos known gone apart. put-other s.threads u _ t (λ e. apart (sym e)))
    (λ u m may apart. refl)
    (λ u m g sp apart. put-other s.threads u _ t (λ e. apart (sym e)))
    e
  where
    begins : (u : ℕ) (o : Op) (b : Bool) → u ≢ t → (begun s u o (if b then Err XHELD else Ok (begins_at s.layout u o))).state.threads t ≡ s.threads t
    begins u o true apart = refl
    begins u o false apart = put-other s.threads u _ t (λ e. apart (sym e))

-- ---- begins and kills

sleeper_lives : (l : Layout') (key : ℕ) (g : Stage) → SleepsAs l key g → is_alive g ≡ true
sleeper_lives l key g h = grind (arith)

module _ (s : State) (t : ℕ) where
  begins_so : (o : Op) → OnlyBegins s (happens s (Begin t o)).state t
  begins_so o = go (may_begin s t o)
    where
      begun_so : (r : Result Stage Reply) → OnlyBegins s (begun s t o r).state t
      begun_so (Ok g) = record { words = λ p. refl; queues = λ key. refl; others = λ u apart. put-other s.threads t _ u apart; held = ap (λ (z : Thread). z.held) (put-same s.threads t _) }
      begun_so (Err x) = record { words = λ p. refl; queues = λ key. refl; others = λ u apart. refl; held = refl }

      go : (b : Bool) → OnlyBegins s (if b then begun s t o (first_stage s.layout t (s.threads t).held o) else nothing s).state t
      go true = begun_so (first_stage s.layout t (s.threads t).held o)
      go false = record { words = λ p. refl; queues = λ key. refl; others = λ u apart. refl; held = refl }

  kills_so : Queued s → 1 ≤ t → t ≤ s.layout.threads → OnlyKills s (happens s (Kill t)).state t
  kills_so queued pos known = subst (λ (b : Bool). OnlyKills s (if b && is_alive (s.threads t).stage then killed s t else nothing s).state t) (sym (is_known s t pos known)) (go (is_alive (s.threads t).stage) refl)
    where
      go : (b : Bool) → is_alive (s.threads t).stage ≡ b → OnlyKills s (if b then killed s t else nothing s).state t
      go true e = record {
        words = λ p. refl;
        queues = λ key. refl;
        gone = λ key. without_gone t (s.queues key);
        others = λ u apart. put-other s.threads t _ u apart;
        held = ap (λ (z : Thread). z.held) (put-same s.threads t _);
      }
      go false e =
          let out : (key : ℕ) → stands_in t (s.queues key) ≡ false = (λ key. not_true (stands_in t (s.queues key)) (λ stands. cc (e, sleeper_lives s.layout key (s.threads t).stage (queued.sleeps key t stands).2))) in
          record { words = λ p. refl; queues = λ key. sym (without_same t (s.queues key) (out key)); gone = out; others = λ u apart. refl; held = refl }

-- ---- steps

its_own : (s : State) (t p : ℕ) → IsMine s t p → IsItsOwn s t p
its_own s t p (inl is) = inl (0, omega arith, omega (arith, is))
its_own s t p (inr (inl is)) = inl (2, omega arith, is)
its_own s t p (inr (inr (k, inside, there, own))) = inr (k, inside, own, there)

-- a row at the counter leaves it, or is a signal's or a broadcast's
row_counts : (t cell counter : ℕ) (r : CondRow) (op : Operation) → row_operation r ≡ op → is_at_counter r ≡ true → ((w : ℕ) (q : List ℕ) → word_among (row_access t cell counter r) w q ≡ w) ⊎ ((op ≡ Operation.Signal) ⊎ (op ≡ Operation.Broadcast))
row_counts t cell counter (Wait WaitRow.LoadCounter) op of at = inl (λ w q. refl)
row_counts t cell counter (Wait (WaitRow.Sleep seen)) op of at = inl (λ w q. refl)
row_counts t cell counter (Signal r) op of at = inr (inl (sym of))
row_counts t cell counter (Broadcast r) op of at = inr (inr (sym of))
row_counts t cell counter r op of at = absurd cc

-- a load and a store leave their queue
plain_queue : (t : ℕ) (a : Access) (w : ℕ) (q : List ℕ) → IsPlain a → queue_after t a w q ≡ q
plain_queue t (Access.Load at) w q plain = refl
plain_queue t (Access.Store at v) w q plain = refl
plain_queue t a w q plain = absurd plain

-- a walk does but where it wakes
walk_queue : (t h : ℕ) (r : walk_row.Row) (w : ℕ) (q : List ℕ) → (queue_after t (exit.row_access h r) w q ≡ q) ⊎ (at : ℕ) × (rest : Part) × (r ≡ WakeOne at rest)
walk_queue t h walk.LoadFirst w q = inl refl
walk_queue t h (walk.LoadOffset f) w q = inl refl
walk_queue t h (walk.LoadPending f x) w q = inl refl
walk_queue t h (walk.LoadNext x) w q = inl refl
walk_queue t h (walk.LoadWord at rest) w q = inl refl
walk_queue t h (walk.Mark at v again rest) w q = inl refl
walk_queue t h (walk.WakeOne at rest) w q = inr (at, rest, refl)
walk_queue t h walk.Ended w q = inl refl

-- the queues after an access
abbrev queues_then : State → ℕ → Access → ℕ → List ℕ
queues_then s t a = joined s.layout t a (moved_by a (s.words (place_met s.layout t a)) (s.queues (place_met s.layout t a))) (put s.queues (place_met s.layout t a) (queue_after t a (s.words (place_met s.layout t a)) (s.queues (place_met s.layout t a))))

-- one that moves nobody leaves every other queue
one_queue : (s : State) (t : ℕ) (a : Access) → IsNoMove a → (P : ℕ → Type 0) (key : ℕ) → ((queue_after t a (s.words (place_met s.layout t a)) (s.queues (place_met s.layout t a)) ≡ s.queues (place_met s.layout t a)) ⊎ P (place_met s.layout t a)) → (queues_then s t a key ≡ s.queues key) ⊎ P key
one_queue s t a stays P key here =
    subst (λ (qs : ℕ → List ℕ). (qs key ≡ s.queues key) ⊎ P key) (sym (joined_none s.layout t a _ _ stays))
    (by_put (λ (q : List ℕ). (q ≡ s.queues key) ⊎ P key) s.queues (place_met s.layout t a) (queue_after t a (s.words (place_met s.layout t a)) (s.queues (place_met s.layout t a))) key
    (λ is. ⊎_elim (λ same. inl (same ∙ ap s.queues (sym is))) (λ p. inr (subst P (sym is) p)) here)
    (λ apart. inl refl))

still_queue : (s : State) (t : ℕ) (a : Access) (key : ℕ) → IsNoMove a → key ≢ place_met s.layout t a → queues_then s t a key ≡ s.queues key
still_queue s t a key stays apart = ap (λ (qs : ℕ → List ℕ). qs key) (joined_none s.layout t a _ _ stays) ∙ put-other s.queues (place_met s.layout t a) _ key apart

-- one that moves leaves all but two
two_queues : (s : State) (t from e n to k key : ℕ) → key ≢ place_in s.layout t from → key ≢ place_in s.layout t to → queues_then s t (Access.CmpRequeue from e n to k) key ≡ s.queues key
two_queues s t from e n to k key off other = put-other (put s.queues (place_in s.layout t from) _) (place_in s.layout t to) _ key other ∙ put-other s.queues (place_in s.layout t from) _ key off

-- and is told so
told_counting : (c : CondCall) → (acts_as c ≡ Operation.Signal) ⊎ (acts_as c ≡ Operation.Broadcast) → (operation_of c ≡ Operation.Signal) ⊎ (operation_of c ≡ Operation.Broadcast)
told_counting (CondCall.Wait k) counts = counts
told_counting (CondCall.TimedWait k x) counts = absurd (⊎_elim (λ (e : Operation.Wait ≡ Operation.Signal). cc e) (λ (e : Operation.Wait ≡ Operation.Broadcast). cc e) counts)
told_counting (CondCall.Signal k) counts = counts
told_counting (CondCall.Broadcast k) counts = counts

module _ (s : State) (t : ℕ) (w : Told) (b : Option Begun) (o : Option Object) (inv : Kept s) (pos : 1 ≤ t) (known : t ≤ s.layout.threads) (agrees : Agrees w (s.threads t).stage) (learnt : Learnt s.layout (s.threads t).stage b o) where
  abbrev Steps : After → Type 0
  Steps a = OnlySteps s a.state t w b

  told_calling : (x : Told) (c : Op) (p : Whole) → Agrees x (Calling c p) → x ≡ InCall
  told_calling InCall c p h = refl
  told_calling x c p h = absurd h

  told_there : (x : Told) (c : CondCall) (p : CondWhole) → Agrees x (AtCondition c p) → x ≡ InCall
  told_there InCall c p h = refl
  told_there x c p h = absurd h

  told_dead : (x : Told) (v : walks.Standing) → Agrees x (Dying v) → x ≡ Dead
  told_dead Dead v h = refl
  told_dead x v h = absurd h

  rested : Steps (nothing s)
  rested = record { place = 0; words = λ p apart. refl; word = inl refl; queues = λ key. inl refl; others = λ u apart. refl }

  may_in_call : (p : ℕ) (c : Begun) → w ≡ InCall → b ≡ Some c → MayChange s t InCall (Some c) p → MayChange s t w b p
  may_in_call p c in_call told may = subst (λ (x : Told). MayChange s t x b p) (sym in_call) (subst (λ (y : Option Begun). MayChange s t InCall y p) (sym told) may)

  may_stir : (key : ℕ) (c : Begun) → w ≡ InCall → b ≡ Some c → MayStir s InCall (Some c) key → MayStir s w b key
  may_stir key c in_call told may = subst (λ (x : Told). MayStir s x b key) (sym in_call) (subst (λ (y : Option Begun). MayStir s InCall y key) (sym told) may)

  called : (c : Op) (p : Whole) → (s.threads t).stage ≡ Calling c p → OnlySteps s (after s t (call_step s t c p)) t w b
  called c p is = record {
    place = place_met s.layout t (whole_access p);
    words = λ x apart. put-other s.words (place_met s.layout t (whole_access p)) _ x apart;
    word = inr (may_in_call _ (begun_of s.layout c) (told_calling w c p (subst (Agrees w) is agrees)) (subst (λ (g : Stage). Learnt s.layout g b o) is learnt).0
        (⊎_elim (λ own. inl (its_own s t _ own.1)) (λ cell. inr (inl cell)) (goes s t c p inv pos known is).meets));
    queues = λ key. one_queue s t (whole_access p) (goes s t c p inv pos known is).no_move (MayStir s w b) key
        (⊎_elim (λ own. inl (plain_queue t (whole_access p) _ _ own.0))
        (λ cell. inr (may_stir _ (begun_of s.layout c) (told_calling w c p (subst (Agrees w) is agrees)) (subst (λ (g : Stage). Learnt s.layout g b o) is learnt).0 (inl cell)))
        (goes s t c p inv pos known is).meets);
    others = λ u apart. put-other s.threads t _ u apart;
  }

  abbrev Written : CondCall → CondWhole → Type 0
  Written c p = ((after s t (cond_step s t c p)).words (place_met s.layout t (cond_access p)) ≡ s.words (place_met s.layout t (cond_access p))) ⊎ MayChange s t InCall (Some (begun_of s.layout (OnCondition c))) (place_met s.layout t (cond_access p))

  written : (c : CondCall) (p : CondWhole) → (s.threads t).stage ≡ AtCondition c p → Written c p
  written c p is = by_access s t c inv pos known (Written c) (λ r fits step. row r fits (is_at_counter r) refl) (λ x q near. inr (inl (its_own s t _ near.mine))) p is
    where
      row : (r : CondRow) → FitsAt s t (s.threads t).held c (cond_of s.layout t c (CondPhase.AtWords r)) → (at : Bool) → is_at_counter r ≡ at → Written c (cond_of s.layout t c (CondPhase.AtWords r))
      row r fits false e = inr (inr (inl (at_either s t c r inv pos known fits ∙ ap (λ (x : Bool). if x then its_counter s c else cell_place s.layout (its_mutex s c)) e)))
      row r fits true e =
          ⊎_elim
          (λ same. inl (put-same s.words _ _ ∙ same _ _))
          (λ counts. inr (inr (inr (counts, condition_of c, refl, at_either s t c r inv pos known fits ∙ ap (λ (x : Bool). if x then its_counter s c else cell_place s.layout (its_mutex s c)) e))))
          (⊎_elim (λ still. inl still) (λ counts. inr (told_counting c counts)) (row_counts t _ _ r (acts_as c) fits.stands.of e))

  abbrev Stirs : CondCall → CondWhole → Type 0
  Stirs c p = (key : ℕ) → ((after s t (cond_step s t c p)).queues key ≡ s.queues key) ⊎ MayStir s InCall (Some (begun_of s.layout (OnCondition c))) key

  stirs : (c : CondCall) (p : CondWhole) → (s.threads t).stage ≡ AtCondition c p → Stirs c p
  stirs c p is = by_access s t c inv pos known (Stirs c) (λ r fits step. row r fits)
      (λ x q near key. one_queue s t (cond_access q) (plain_no_move (cond_access q) near.plain) (MayStir s InCall (Some (begun_of s.layout (OnCondition c)))) key (inl (plain_queue t (cond_access q) _ _ near.plain))) p is
    where
      row : (r : CondRow) → FitsAt s t (s.threads t).held c (cond_of s.layout t c (CondPhase.AtWords r)) → Stirs c (cond_of s.layout t c (CondPhase.AtWords r))
      row r fits key =
          by_same key (its_counter s c) (λ is. inr (inr (condition_of c, refl, is)))
          (λ off. by_same key (cell_place s.layout (its_mutex s c)) (λ is. inr (inl is)) (λ other. inl (elsewhere off other)))
        where
          at : ℕ
          at = place_met s.layout t (row_access t (cell_at s t c) (counter_at s t c) r)

          apart : key ≢ its_counter s c → key ≢ cell_place s.layout (its_mutex s c) → key ≢ at
          apart off other is = go (is_at_counter r) (is ∙ at_either s t c r inv pos known fits)
            where
              go : (x : Bool) → key ≡ (if x then its_counter s c else cell_place s.layout (its_mutex s c)) → ⊥
              go true e = off e
              go false e = other e

          elsewhere : key ≢ its_counter s c → key ≢ cell_place s.layout (its_mutex s c) → queues_then s t (row_access t (cell_at s t c) (counter_at s t c) r) key ≡ s.queues key
          elsewhere off other =
              ⊎_elim
              (λ none. still_queue s t (row_access t (cell_at s t c) (counter_at s t c) r) key none (apart off other))
              (λ moves. subst (λ (z : CondRow). queues_then s t (row_access t (cell_at s t c) (counter_at s t c) z) key ≡ s.queues key) (sym moves.1)
              (two_queues s t (counter_at s t c) ((moves.0 + 1) % 2 ^ 32) 0 (cell_at s t c) most_threads key
              (λ e. off (e ∙ counter_again s.layout t inv.layout pos known (condition_of c) fits.there))
              (λ e. other (e ∙ cell_again s.layout t inv.layout pos known (its_mutex s c) fits.inside))))
              (move_or t (cell_at s t c) (counter_at s t c) r)

  at_condition : (c : CondCall) (p : CondWhole) → (s.threads t).stage ≡ AtCondition c p → OnlySteps s (after s t (cond_step s t c p)) t w b
  at_condition c p is = record {
    place = place_met s.layout t (cond_access p);
    words = λ x apart. put-other s.words (place_met s.layout t (cond_access p)) _ x apart;
    word = ⊎_elim inl (λ may. inr (may_in_call _ (begun_of s.layout (OnCondition c)) (told_there w c p (subst (Agrees w) is agrees)) (subst (λ (g : Stage). Learnt s.layout g b o) is learnt).0 may)) (written c p is);
    queues = λ key. ⊎_elim inl (λ may. inr (may_stir key (begun_of s.layout (OnCondition c)) (told_there w c p (subst (Agrees w) is agrees)) (subst (λ (g : Stage). Learnt s.layout g b o) is learnt).0 may)) (stirs c p is key);
    others = λ u apart. put-other s.threads t _ u apart;
  }

  on_a_walk : (v : walks.Standing) → (s.threads t).stage ≡ Dying v → Steps (walked s t (s.threads t).held v)
  on_a_walk v is =
      let there = walk_is s t v inv pos known is in
      let g : WalkStep s t v.row = walk_step s t inv pos known v.row there.0.going (knows_at s.layout t v there.0) there.2 in
      subst (λ (z : walks.Standing). Steps (walked s t (s.threads t).held z)) there.1
      (subst Steps (sym (walked-is s t v.row (met_no_move s.layout t (walk_access s t v.row) (walk_no_move (head_in s.layout t) v.row) ∙ g.valid)))
      record {
        place = place_met s.layout t (walk_access s t v.row);
        words = λ x apart. put-other s.words (place_met s.layout t (walk_access s t v.row)) _ x apart;
        word = marked g (death_then s t v.row) refl;
        queues = λ key. one_queue s t (walk_access s t v.row) (walk_no_move (head_in s.layout t) v.row) (MayStir s w b) key (⊎_elim inl (λ wakes. inr (wakes_there there.2 wakes.0 wakes.1 wakes.2)) (walk_queue t (head_in s.layout t) v.row _ _));
        others = λ u apart. put-other s.threads t _ u apart;
      })
    where
      wakes_there : LeftToWalk s t v.row → (at : ℕ) (rest : Part) → v.row ≡ WakeOne at rest → MayStir s w b (place_met s.layout t (walk_access s t v.row))
      wakes_there left at rest wakes =
          let k = subst (LeftToWalk s t) wakes left in
          subst (λ (x : Told). MayStir s x b (place_met s.layout t (walk_access s t v.row))) (sym (told_dead w v (subst (Agrees w) is agrees)))
          (k.0, k.1.0, ap (λ (r : walk_row.Row). place_met s.layout t (exit.row_access (head_in s.layout t) r)) wakes ∙ treated_at s t inv.layout pos known at k.0 k.1)

      marked : WalkStep s t v.row → (d : Option ℕ) → death_then s t v.row ≡ d
          → ((walk_after s t v.row).words (place_met s.layout t (walk_access s t v.row)) ≡ s.words (place_met s.layout t (walk_access s t v.row))) ⊎ MayChange s t w b (place_met s.layout t (walk_access s t v.row))
      marked g None e = inl (g.reads e (place_met s.layout t (walk_access s t v.row)))
      marked g (Some m) e =
          let tells = subst (λ (d : Option ℕ). DeathTells s t d (walk_after s t v.row)) e g.tells in
          inr (subst (λ (x : Told). MayChange s t x b (place_met s.layout t (walk_access s t v.row))) (sym (told_dead w v (subst (Agrees w) is agrees))) (m, tells.0, tells.1.0, g.place m e))

  steps_so : OnlySteps s (happens s (Step t)).state t w b
  steps_so =
      subst (λ (x : Bool). Steps (if x then stepped s t (s.threads t).held (s.threads t).stage else nothing s)) (sym (is_known s t pos known))
      (by_stage s t Steps (λ rests. rested)
      (λ c p is awake. subst Steps
      (sym (went-is s t (mutex_of s.layout c) (Mutex (mutex_of s.layout c)) (Calling c p) (whole_access p) (λ a. led c p (whole_led p a)) (call_stepping s t c p (goes s t c p inv pos known is) (fits_in s t c p inv pos known is).0).valid))
      (called c p is))
      (λ c p is awake. subst Steps
      (sym (went-is s t (its_mutex s c) (Condition (condition_of c)) (AtCondition c p) (cond_access p) (λ a. led_at c p (cond_led p a)) (cond_stepping s t c p inv pos known is).valid))
      (at_condition c p is))
      (λ v is awake. on_a_walk v is))

-- ---- every run

pub changes_so : EventsLeaveTheRest
changes_so l counters events is t first last =
    let inv = start_kept l counters is in
    let s : State = run (start l counters) events in
    let known : t ≤ s.layout.threads = subst (λ (k : Layout'). t ≤ k.threads) (sym (run_layout (start l counters) events inv)) last in
    record {
      begins = begins_so s t;
      kills = kills_so s t (run_queued l counters events is) first known;
      steps = steps_so s t (last_told t (notes (start l counters) events)) (call_told t (notes (start l counters) events)) (left_by t (start l counters) None events) (run_kept (start l counters) events inv) first known
          (run_agrees (start l counters) events t AtRest tt) (run_learnt (start l counters) events inv t None None tt);
    }
